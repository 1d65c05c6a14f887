-- One way to divide a block, what a load and an erase leave, and that what is found is read. Assumes the reader's laws, `Reader fault`.
use mathlib.Core.Path.{◌≡◌, refl, sym, ◌∙◌, ap, subst}
use mathlib.Core.List.{List, [], ◌∷◌, ◌++◌}
use mathlib.Core.Bool.{Bool, true, false, ◌||◌}
use mathlib.Core.Logic.{◌↔◌}
use Prim.Native.Nat.{ℕ, zero, suc, ◌+◌, ◌*◌, ◌-◌, ◌/◌, ◌≤◌}
use native.Mathlib.Omega.{arith}
use lib.ListN.{length, get_or, replicate, length-append}
use lib.Dec.{eqb}
use borrow.Author.Tests.{eqb-true, eq-eqb}
use Rattle.std.specs.Prelude.{if◌then◌else◌}
use Rattle.common.proofs.Choice.{if_true, if_false}
use Rattle.store_places.specs.Store.{Judgement, Reader, join, blank_place, Item, blank, dead, filed, junk, items_from, places_of, proper_in, has_in, find_in, places_in, items_in, is_proper, find_of, Proper}
use Rattle.store_places.proofs.Places.{whole_cut, join_append, cut_length, join_cut}
use Rattle.store_places.proofs.Items.{Good, not_both, read_back, printed}
use Rattle.store_places.proofs.Changes.{slid}
use Rattle.store_places.proofs.Claims.{rebuilt, proper_read}

pub blanks : (k : ℕ) → join (places_of (replicate k blank)) ≡ replicate (512 * k) 255
blanks zero = refl
blanks (suc k) =
    ap (λ (x : List ℕ). blank_place ++ x) (blanks k) ∙ more 512 (512 * k) ∙ ap (λ (n : ℕ). replicate {A = ℕ} n 255) (let q : 512 + 512 * k ≡ 512 * suc k = omega arith in q)
  where
    more : (a b : ℕ) → replicate {A = ℕ} a 255 ++ replicate b 255 ≡ replicate (a + b) 255
    more zero b = ap (λ (n : ℕ). replicate {A = ℕ} n 255) (let q : b ≡ 0 + b = omega arith in q)
    more (suc a) b = ap (λ (x : List ℕ). 255 ∷ x) (more a b) ∙ ap (λ (n : ℕ). replicate {A = ℕ} n 255) (let q : suc (a + b) ≡ suc a + b = omega arith in q)

frees_size : (k : ℕ) → length (places_of (replicate k blank)) ≡ k
frees_size zero = refl
frees_size (suc k) = ap suc (frees_size k)

frees_proper : (k : ℕ) → proper_in (replicate k blank) ≡ true
frees_proper zero = refl
frees_proper (suc k) = frees_proper k

module _ (fault : Judgement) (R : Reader fault) where
  -- a block divides into right items in one way only
  pub one_way : (is js : List Item) → Good fault is → Good fault js → places_of is ≡ places_of js → is ≡ js
  one_way is js g h e = sym (read_back fault R is g) ∙ ap (items_from fault 0) e ∙ read_back fault R js h

  -- proper, without the walk: some right items, no letter twice, stand there
  pub proper_exactly : (N : ℕ) (main : List ℕ) → length main ≡ 512 * N
      → is_proper fault main ≡ true ↔ ((is : List Item) × Good fault is × (proper_in is ≡ true) × (places_of is ≡ places_in main))
  unfolding is_proper items_in
  proper_exactly N main l =
      let e : length main ≡ 512 * (length main / 512) = omega arith in (
        λ (h : proper_in (items_from fault 0 (places_in main)) ≡ true).
            (let p = printed fault R (places_in main) 0 (omega arith) (whole_cut (length main / 512) main e) h in (items_from fault 0 (places_in main), p.0, h, p.1)),
        λ (h : (is : List Item) × Good fault is × (proper_in is ≡ true) × (places_of is ≡ places_in main)).
            (ap proper_in (sym (ap (items_from fault 0) h.3) ∙ read_back fault R h.0 h.1) ∙ h.2),
      )

  frees_good : (k : ℕ) → Good fault (replicate k blank)
  frees_good zero = tt
  frees_good (suc k) = (tt, frees_good k)

  -- an erased block is a proper store
  pub erased_proper : (N : ℕ) → Proper fault N (replicate (512 * N) 255)
  unfolding is_proper
  erased_proper N =
      let o = rebuilt fault R N (replicate N blank) (frees_good N) (frees_size N) in
      subst (Proper fault N) (blanks N) (record { size = o.0; proper = ap proper_in o.1 ∙ frees_proper N })

  -- what a load of one file leaves is a proper store, in which that file is found
  pub loaded : (N ℓ : ℕ) (b : List ℕ) → fault ℓ b ≡ 0 → get_or b 2 0 ≤ N
      → Proper fault N (b ++ replicate (512 * (N - get_or b 2 0)) 255) × (find_of fault ℓ (b ++ replicate (512 * (N - get_or b 2 0)) 255) ≡ b)
  unfolding is_proper find_of
  loaded N ℓ b z h =
      let c = R.counted ℓ b z in
      let k = N - get_or b 2 0 in
      let e : length b ≡ 512 * (length b / 512) = omega arith in
      let f = places_in b in
      let j : join f ≡ b = join_cut (length b / 512) b e in
      let n : length f ≡ get_or b 2 0 = cut_length (length b / 512) b ∙ (let q : length b / 512 ≡ get_or b 2 0 = omega arith in q) in
      let is = filed ℓ f ∷ replicate k blank in
      let g : Good fault is = ((whole_cut (length b / 512) b e, ap (fault ℓ) j ∙ z), frees_good k) in
      let s : length (places_of is) ≡ N = length-append f (places_of (replicate k blank)) ∙ (let w = frees_size k in let q : length f + length (places_of (replicate k blank)) ≡ N = omega arith in q) in
      let o = rebuilt fault R N is g s in
      let L = slid ℓ f k [] refl in
      let m : join (places_of is) ≡ b ++ replicate (512 * k) 255 =
      join_append f (places_of (replicate k blank)) ∙ ap (λ (x : List ℕ). x ++ join (places_of (replicate k blank))) j ∙ ap (λ (x : List ℕ). b ++ x) (blanks k) in (
        subst (Proper fault N) m (record { size = o.0; proper = ap proper_in o.1 ∙ L.proper refl }),
        ap (λ (x : List ℕ). join (find_in ℓ (items_in fault x))) (sym m) ∙ ap (λ (x : List Item). join (find_in ℓ x)) o.1
            ∙ ap join (L.find ℓ ∙ if_true (eqb ℓ ℓ) f [] (eq-eqb ℓ ℓ refl)) ∙ j,
      )

  -- what is found under a letter is read for that letter
  pub found_read : (N ℓ : ℕ) (main : List ℕ) → Proper fault N main → has_in ℓ (items_in fault main) ≡ true → fault ℓ (find_of fault ℓ main) ≡ 0
  unfolding find_of
  found_read N ℓ main P h = go (items_in fault main) (proper_read fault R N main P).good h
    where
      go : (is : List Item) → Good fault is → has_in ℓ is ≡ true → fault ℓ (join (find_in ℓ is)) ≡ 0
      go [] g h = absurd (not_both h refl)
      go (blank ∷ is) g h = go is g.1 h
      go (dead p ∷ is) g h = go is g.1 h
      go (filed m f ∷ is) g h = by (eqb m ℓ) refl (go is g.1)
        where
          by : (t : Bool) → eqb m ℓ ≡ t → (has_in ℓ is ≡ true → fault ℓ (join (find_in ℓ is)) ≡ 0) → fault ℓ (join (if eqb m ℓ then f else find_in ℓ is)) ≡ 0
          by true q r =
              ap (λ (x : List (List ℕ)). fault ℓ (join x)) (if_true (eqb m ℓ) f (find_in ℓ is) q) ∙ ap (λ (x : ℕ). fault x (join f)) (sym (eqb-true m ℓ q)) ∙ g.0.1
          by false q r =
              ap (λ (x : List (List ℕ)). fault ℓ (join x)) (if_false (eqb m ℓ) f (find_in ℓ is) q) ∙ r (sym (ap (λ (x : Bool). x || has_in ℓ is) q) ∙ h)
      go (junk p ∷ is) g h = absurd g.0
