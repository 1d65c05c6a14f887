-- A slide need not erase: a file added again to a block that it fills. An erased block is the empty store.
use mathlib.Core.Path.{◌≡◌, refl, sym, ◌∙◌, ap}
use mathlib.Core.List.{List, [], ◌∷◌, ◌++◌, append-nil}
use mathlib.Core.Bool.{false}
use Prim.Native.Nat.{ℕ, zero, suc, ◌+◌, ◌*◌, ◌-◌, ◌/◌}
use native.Mathlib.Omega.{arith}
use lib.ListN.{length, get_or, replicate}
use lib.Dec.{eqb}
use borrow.Author.Tests.{eq-eqb}
use Rattle.common.proofs.Choice.{if_true, if_false}
use Rattle.store_places.specs.Store.{Judgement, Reader, join, Item, blank, filed, places_of, has_in, live_in, dead_of, kept_of, without, fits_in, files_of, slid_in, laid_in, run_for, added_in, places_in, items_in, find_place_number, add_of}
use Rattle.store_places.proofs.Places.{whole_cut, join_append, join_cut, cut_length}
use Rattle.store_places.proofs.Items.{Good}
use Rattle.store_places.proofs.Claims.{rebuilt, refused_42}
use Rattle.store_places.proofs.Divided.{blanks, erased_proper}

-- a dropped file leaves no blank place, no file and no live block
dead_fits : (n : ℕ) (f : List (List ℕ)) → fits_in (suc n) (dead_of f ++ []) ≡ false
dead_fits n [] = refl
dead_fits n (p ∷ f) = dead_fits n f

dead_files : (f : List (List ℕ)) → files_of (dead_of f ++ []) ≡ []
dead_files [] = refl
dead_files (p ∷ f) = dead_files f

dead_live : (f : List (List ℕ)) → live_in (dead_of f ++ []) ≡ 0
dead_live [] = refl
dead_live (p ∷ f) = dead_live f

blanks_size : (k : ℕ) → length (places_of (replicate k blank)) ≡ k
blanks_size zero = refl
blanks_size (suc k) = ap suc (blanks_size k)

blanks_none : (k ℓ : ℕ) → has_in ℓ (replicate k blank) ≡ false
blanks_none zero ℓ = refl
blanks_none (suc k) ℓ = blanks_none k ℓ

module _ (fault : Judgement) (R : Reader fault) where
  blanks_good : (k : ℕ) → Good fault (replicate k blank)
  blanks_good zero = tt
  blanks_good (suc k) = (tt, blanks_good k)

  -- an erased block holds nothing: 42 for every letter
  pub erased_empty : (N ℓ : ℕ) → find_place_number fault ℓ (replicate (512 * N) 255) ≡ 42
  erased_empty N ℓ =
      let o = rebuilt fault R N (replicate N blank) (blanks_good N) (blanks_size N) in
      let i : items_in fault (replicate (512 * N) 255) ≡ replicate N blank = ap (items_in fault) (sym (blanks N)) ∙ o.1 in
      refused_42 fault R N ℓ (replicate (512 * N) 255) (erased_proper fault R N)
      ∙ if_false (has_in ℓ (items_in fault (replicate (512 * N) 255))) 0 42 (ap (has_in ℓ) i ∙ blanks_none N ℓ)

  module _ (ℓ : ℕ) (b : List ℕ) (z : fault ℓ b ≡ 0) where
    N : ℕ
    N = get_or b 2 0

    whole : length b ≡ 512 * (length b / 512)
    whole = let c = R.counted ℓ b z in omega arith

    count : length b / 512 ≡ get_or b 2 0
    count = let c = R.counted ℓ b z in omega arith

    f : List (List ℕ)
    f = places_in b

    f_long : length (places_in b) ≡ get_or b 2 0
    f_long = cut_length (length b / 512) b ∙ count

    back : join (places_in b ++ []) ≡ b
    back = join_append (places_in b) [] ∙ append-nil (join (places_in b)) ∙ join_cut (length b / 512) b whole

    -- the block that a file fills has that file alone
    items : items_in fault b ≡ filed ℓ (places_in b) ∷ []
    items =
        let g : Good fault (filed ℓ (places_in b) ∷ []) = ((whole_cut (length b / 512) b whole, ap (fault ℓ) (join_cut (length b / 512) b whole) ∙ z), tt) in
        let s : length (places_in b ++ []) ≡ get_or b 2 0 = ap (λ (y : List (List ℕ)). length y) (append-nil (places_in b)) ∙ f_long in
        ap (items_in fault) (sym back) ∙ (rebuilt fault R (get_or b 2 0) (filed ℓ (places_in b) ∷ []) g s).1

    dropped : without ℓ (filed ℓ (places_in b) ∷ []) ≡ dead_of (places_in b) ++ []
    unfolding kept_of
    dropped = ap (λ (x : List Item). x ++ []) (if_true (eqb ℓ ℓ) (dead_of (places_in b)) (filed ℓ (places_in b) ∷ []) (eq-eqb ℓ ℓ refl))

    gone : without ℓ (items_in fault b) ≡ dead_of (places_in b) ++ []
    gone = ap (without ℓ) items ∙ dropped

    -- there is no run for it ..
    pub again_slides : run_for ℓ (places_in b) (items_in fault b) ≡ false
    again_slides =
        let s = R.some ℓ b z in
        let n : length (places_in b) ≡ suc (get_or b 2 0 - 1) = f_long ∙ (let q : get_or b 2 0 ≡ suc (get_or b 2 0 - 1) = omega arith in q) in
        ap (fits_in (length (places_in b))) gone ∙ ap (λ (k : ℕ). fits_in k (dead_of (places_in b) ++ [])) n ∙ dead_fits (get_or b 2 0 - 1) (places_in b)

    -- .. and the slide leaves the block as it is
    pub again_same : add_of fault ℓ b b ≡ b
    unfolding add_of added_in
    again_same =
        let l : length b / 512 - (0 + length (places_in b)) ≡ 0 = (let a = f_long in let c = count in omega arith) in
        ap (λ (x : List Item). join (places_of x))
        (if_false (run_for ℓ (places_in b) (items_in fault b)) (laid_in ℓ (places_in b) (without ℓ (items_in fault b))) (slid_in (length b / 512) ℓ (places_in b) (without ℓ (items_in fault b))) again_slides
        ∙ ap (slid_in (length b / 512) ℓ (places_in b)) gone
        ∙ ap (λ (x : List Item). x ++ (filed ℓ (places_in b) ∷ replicate (length b / 512 - (live_in (dead_of (places_in b) ++ []) + length (places_in b))) blank)) (dead_files (places_in b))
        ∙ ap (λ (k : ℕ). filed ℓ (places_in b) ∷ replicate (length b / 512 - (k + length (places_in b))) blank) (dead_live (places_in b))
        ∙ ap (λ (k : ℕ). filed ℓ (places_in b) ∷ replicate k blank) l)
        ∙ back
