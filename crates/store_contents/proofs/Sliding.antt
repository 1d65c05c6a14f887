-- An add by a slide in bytes.
use mathlib.Core.Path.{◌≡◌, refl, sym, ◌∙◌, ap}
use mathlib.Core.List.{List, [], ◌∷◌, ◌++◌, append_assoc}
use mathlib.Core.Bool.{Bool, true, false}
use Prim.Native.Nat.{ℕ, ◌+◌, ◌*◌, ◌-◌, ◌/◌}
use native.Mathlib.Omega.{arith}
use lib.ListN.{length, get_or, replicate}
use lib.Dec.{eqb}
use Rattle.std.specs.Prelude.{if◌then◌else◌}
use Rattle.common.proofs.Choice.{if_true, if_false}
use Rattle.store_places.specs.Store.{Judgement, Reader, join, Item, blank, dead, filed, junk, places_of, live_in, dead_of, kept_of, without, laid_in, files_of, slid_in, run_for, added_in, places_in, items_in, add_of, Proper}
use Rattle.store_contents.specs.Inner.{live_bytes}
use Rattle.store_places.proofs.Places.{join_append, join_cut, cut_length}
use Rattle.store_places.proofs.Claims.{proper_read}
use Rattle.store_places.proofs.Divided.{blanks}
use Rattle.store_find.proofs.Laying.{kept_is}

kills_live : (f : List (List ℕ)) (is : List Item) → files_of (dead_of f ++ is) ≡ files_of is
kills_live [] is = refl
kills_live (p ∷ f) is = kills_live f is

live_join : (ℓ : ℕ) (is X : List Item) → join (places_of (files_of (without ℓ is) ++ X)) ≡ live_bytes ℓ is ++ join (places_of X)
live_join ℓ [] X = refl
live_join ℓ (blank ∷ is) X = live_join ℓ is X
live_join ℓ (dead p ∷ is) X = live_join ℓ is X
live_join ℓ (filed m f ∷ is) X = go (eqb m ℓ) refl (live_join ℓ is X)
  where
    go : (t : Bool) → eqb m ℓ ≡ t → join (places_of (files_of (without ℓ is) ++ X)) ≡ live_bytes ℓ is ++ join (places_of X)
        → join (places_of (files_of (kept_of ℓ m f ++ without ℓ is) ++ X)) ≡ ((if eqb m ℓ then [] else join f) ++ live_bytes ℓ is) ++ join (places_of X)
    go true q r =
        ap (λ (x : List Item). join (places_of (files_of (x ++ without ℓ is) ++ X))) (kept_is ℓ m f true q) ∙ ap (λ (x : List Item). join (places_of (x ++ X))) (kills_live f (without ℓ is)) ∙ r
        ∙ sym (ap (λ (x : List ℕ). (x ++ live_bytes ℓ is) ++ join (places_of X)) (if_true (eqb m ℓ) [] (join f) q))
    go false q r =
        ap (λ (x : List Item). join (places_of (files_of (x ++ without ℓ is) ++ X))) (kept_is ℓ m f false q)
        ∙ join_append f (places_of (files_of (without ℓ is) ++ X)) ∙ ap (λ (x : List ℕ). join f ++ x) r ∙ sym (append_assoc (join f) (live_bytes ℓ is) (join (places_of X)))
        ∙ sym (ap (λ (x : List ℕ). (x ++ live_bytes ℓ is) ++ join (places_of X)) (if_false (eqb m ℓ) [] (join f) q))
live_join ℓ (junk p ∷ is) X = live_join ℓ is X

-- the live files in their order, the new one right behind, FFH after it
pub slide_bytes : (fault : Judgement) → Reader fault → (N ℓ : ℕ) (b main : List ℕ) → Proper fault N main → fault ℓ b ≡ 0 → run_for ℓ (places_in b) (items_in fault main) ≡ false
    → add_of fault ℓ b main
    ≡ live_bytes ℓ (items_in fault main) ++ (b ++ replicate (512 * (N - (live_in (without ℓ (items_in fault main)) + get_or b 2 0))) 255)
unfolding add_of added_in
slide_bytes fault R N ℓ b main P z h =
    let r = proper_read fault R N main P in
    let I = items_in fault main in
    let W = without ℓ I in
    let f = places_in b in
    let c = R.counted ℓ b z in
    let e : length b ≡ 512 * (length b / 512) = omega arith in
    let j : join f ≡ b = join_cut (length b / 512) b e in
    let n : length f ≡ get_or b 2 0 = cut_length (length b / 512) b ∙ (let q : length b / 512 ≡ get_or b 2 0 = omega arith in q) in
    let k = N - (live_in W + length f) in
    let T : ℕ → List Item = λ (m : ℕ). replicate (m - (live_in W + length f)) blank in
    ap (λ (x : List Item). join (places_of x)) (if_false (run_for ℓ f I) (laid_in ℓ f W) (slid_in (length main / 512) ℓ f W) h)
    ∙ ap (λ (m : ℕ). join (places_of (files_of W ++ (filed ℓ f ∷ T m)))) r.places
    ∙ live_join ℓ I (filed ℓ f ∷ T N)
    ∙ ap (λ (x : List ℕ). live_bytes ℓ I ++ x) (join_append f (places_of (T N)) ∙ ap (λ (x : List ℕ). x ++ join (places_of (T N))) j ∙ ap (λ (x : List ℕ). b ++ x) (blanks k))
    ∙ ap (λ (m : ℕ). live_bytes ℓ I ++ (b ++ replicate {A = ℕ} (512 * (N - (live_in W + m))) 255)) n
