-- Where the file under a letter stands in a proper store, in bytes. Assumes the reader's laws.
use mathlib.Core.Path.{◌≡◌, refl, sym, ◌∙◌, ap, subst}
use mathlib.Core.List.{List, [], ◌∷◌, ◌++◌}
use mathlib.Core.Bool.{Bool, true, false, not, ◌||◌}
use Prim.Native.Nat.{ℕ, zero, suc, ◌+◌, ◌*◌, ◌-◌, ◌≤◌, ◌<◌}
use native.Mathlib.Omega.{arith}
use lib.ListN.{length, take, drop, length-append}
use lib.Dec.{eqb}
use borrow.Author.Tests.{eq-eqb, ne_eqb}
use Rattle.std.specs.Prelude.{if◌then◌else◌}
use Rattle.common.proofs.Choice.{if_false}
use Rattle.store_places.specs.Store.{Judgement, Reader, join, Item, blank, dead, filed, junk, places_of, has_in, find_in, items_in, find_of, Proper}
use Rattle.store_places.proofs.Places.{Whole, join_length}
use Rattle.store_places.proofs.Items.{Good, good_whole, not_both}
use Rattle.store_places.proofs.Changes.{or_l, or_r}
use Rattle.store_places.proofs.Claims.{proper_read}
use Rattle.store_survey.specs.Survey.{place_in}
use Rattle.store_find.proofs.Laying.{Somes, good_somes, found_place, join_take, join_drop}

-- no file under the letter has no blocks
pub found_none : (ℓ : ℕ) (is : List Item) → has_in ℓ is ≡ false → length (find_in ℓ is) ≡ 0
found_none ℓ [] h = refl
found_none ℓ (blank ∷ is) h = found_none ℓ is h
found_none ℓ (dead p ∷ is) h = found_none ℓ is h
found_none ℓ (filed m f ∷ is) h =
    ap (λ (x : List (List ℕ)). length x) (if_false (eqb m ℓ) f (find_in ℓ is) (or_l (eqb m ℓ) (has_in ℓ is) h)) ∙ found_none ℓ is (or_r (eqb m ℓ) (has_in ℓ is) h)
found_none ℓ (junk p ∷ is) h = found_none ℓ is h

-- a file that is there has some, and they lie within
record Within (ℓ p : ℕ) (is : List Item) : Type 0 where
  some : 0 < length (find_in ℓ is)
  ends : place_in ℓ p is + length (find_in ℓ is) ≤ p + length (places_of is)

later : (ℓ p q : ℕ) (is : List Item) (n : ℕ) → Within ℓ q is → q + length (places_of is) ≤ p + n → (0 < length (find_in ℓ is)) × (place_in ℓ q is + length (find_in ℓ is) ≤ p + n)
later ℓ p q is n w h = (w.some, (let e = w.ends in omega arith))

found_within : (ℓ p : ℕ) (is : List Item) → Somes is → has_in ℓ is ≡ true → Within ℓ p is
found_within ℓ p [] s h = absurd (not_both h refl)
found_within ℓ p (blank ∷ is) s h = let r = later ℓ p (p + 1 + 0) is (suc (length (places_of is))) (found_within ℓ (p + 1 + 0) is s h) (omega arith) in record { some = r.0; ends = r.1 }
found_within ℓ p (dead q ∷ is) s h = let r = later ℓ p (p + 1 + 0) is (suc (length (places_of is))) (found_within ℓ (p + 1 + 0) is s h) (omega arith) in record { some = r.0; ends = r.1 }
found_within ℓ p (filed m f ∷ is) s h = go (eqb m ℓ) refl (found_within ℓ (p + 1 + (length f - 1)) is s.1)
  where
    both : ℕ → List (List ℕ) → Type 0
    both P F = (0 < length F) × (P + length F ≤ p + length (f ++ places_of is))

    put : (t : Bool) → eqb m ℓ ≡ t → both (if t then p else place_in ℓ (p + 1 + (length f - 1)) is) (if t then f else find_in ℓ is) → Within ℓ p (filed m f ∷ is)
    put t q b =
        let r : (0 < length (if eqb m ℓ then f else find_in ℓ is)) × ((if eqb m ℓ then p else place_in ℓ (p + 1 + (length f - 1)) is) + length (if eqb m ℓ then f else find_in ℓ is) ≤ p + length (f ++ places_of is)) =
        subst (λ (u : Bool). (0 < length (if u then f else find_in ℓ is)) × ((if u then p else place_in ℓ (p + 1 + (length f - 1)) is) + length (if u then f else find_in ℓ is) ≤ p + length (f ++ places_of is))) (sym q) b in
        record { some = r.0; ends = r.1 }

    go : (t : Bool) → eqb m ℓ ≡ t → (has_in ℓ is ≡ true → Within ℓ (p + 1 + (length f - 1)) is) → Within ℓ p (filed m f ∷ is)
    go true q r = put true q (s.0, (let e = length-append f (places_of is) in omega arith))
    go false q r =
        let e = length-append f (places_of is) in
        let k = s.0 in
        put false q (later ℓ p (p + 1 + (length f - 1)) is (length (f ++ places_of is)) (r (sym (ap (λ (x : Bool). x || has_in ℓ is) q) ∙ h)) (omega arith))
found_within ℓ p (junk q ∷ is) s h = let r = later ℓ p (p + 1 + 0) is (suc (length (places_of is))) (found_within ℓ (p + 1 + 0) is s h) (omega arith) in record { some = r.0; ends = r.1 }

-- the places found are whole
whole_found : (fault : Judgement) (ℓ : ℕ) (is : List Item) → Good fault is → Whole (find_in ℓ is)
whole_found fault ℓ [] g = tt
whole_found fault ℓ (blank ∷ is) g = whole_found fault ℓ is g.1
whole_found fault ℓ (dead p ∷ is) g = whole_found fault ℓ is g.1
whole_found fault ℓ (filed m f ∷ is) g = go (eqb m ℓ) (whole_found fault ℓ is g.1)
  where
    go : (t : Bool) → Whole (find_in ℓ is) → Whole (if t then f else find_in ℓ is)
    go true r = g.0.0
    go false r = r
whole_found fault ℓ (junk p ∷ is) g = absurd g.0

module _ (fault : Judgement) (R : Reader fault) (N : ℕ) (ℓ : ℕ) (main : List ℕ) (P : Proper fault N main) where
  somes : Somes (items_in fault main)
  somes = good_somes fault R (items_in fault main) (proper_read fault R N main P).good

  -- no blocks exactly where the letter is not there
  pub none_there : eqb (length (find_in ℓ (items_in fault main))) 0 ≡ not (has_in ℓ (items_in fault main))
  none_there = go (has_in ℓ (items_in fault main)) refl
    where
      go : (t : Bool) → has_in ℓ (items_in fault main) ≡ t → eqb (length (find_in ℓ (items_in fault main))) 0 ≡ not t
      go true q = ne_eqb _ 0 (λ (z : length (find_in ℓ (items_in fault main)) ≡ 0). (let w = (found_within ℓ 0 (items_in fault main) somes q).some in omega arith))
      go false q = eq-eqb _ 0 (found_none ℓ (items_in fault main) q)

  pub found_long : length (find_of fault ℓ main) ≡ 512 * length (find_in ℓ (items_in fault main))
  unfolding find_of
  found_long = join_length (find_in ℓ (items_in fault main)) (whole_found fault ℓ (items_in fault main) (proper_read fault R N main P).good)

  module _ (there : has_in ℓ (items_in fault main) ≡ true) where
    pub found_ends : 512 * place_in ℓ 0 (items_in fault main) + 512 * length (find_in ℓ (items_in fault main)) ≤ length main
    found_ends =
        let w = (found_within ℓ 0 (items_in fault main) somes there).ends in
        let s = (proper_read fault R N main P).size in let l = P.size in omega arith

    pub found_bytes : take (512 * length (find_in ℓ (items_in fault main))) (drop (512 * place_in ℓ 0 (items_in fault main)) main) ≡ find_of fault ℓ main
    unfolding find_of
    found_bytes =
        let I = items_in fault main in
        let r = proper_read fault R N main P in
        let X = places_of I in
        let n = length (find_in ℓ I) in
        let p = place_in ℓ 0 I in
        let w : Whole X = good_whole fault I r.good in
        ap (λ (b : List ℕ). take (512 * n) (drop (512 * p) b)) (sym r.back)
        ∙ ap (take (512 * n)) (sym (join_drop p X w)) ∙ sym (join_take n (drop p X) (whole_drop p X w))
        ∙ ap join (found_place ℓ I [] 0 refl somes there)
      where
        whole_drop : (n : ℕ) (s : List (List ℕ)) → Whole s → Whole (drop n s)
        whole_drop zero s w = w
        whole_drop (suc n) [] w = tt
        whole_drop (suc n) (p ∷ s) w = whole_drop n s w.1
