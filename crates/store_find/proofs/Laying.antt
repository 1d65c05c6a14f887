-- Where things stand, in places: what code for find, drop and add is filed to.
use mathlib.Core.Path.{◌≡◌, refl, sym, ◌∙◌, ap}
use mathlib.Core.List.{List, [], ◌∷◌, ◌++◌, append_assoc}
use mathlib.Core.Bool.{Bool, true, false, ◌||◌}
use Prim.Native.Nat.{ℕ, zero, suc, ◌+◌, ◌*◌, ◌-◌, ◌<◌}
use native.Mathlib.Omega.{arith}
use lib.ListN.{length, take, drop, length-append}
use lib.Seq.{take_at, drop_at, take-nil, drop-nil, take-append_seam, take-append-add, drop-append-add}
use Rattle.store_places.proofs.Places.{Whole}
use lib.Dec.{eqb}
use Rattle.std.specs.Prelude.{if◌then◌else◌}
use Rattle.common.proofs.Choice.{if_true, if_false}
use Rattle.store_places.specs.Store.{Judgement, Reader, join, blank_place, Item, blank, dead, filed, junk, more_of, places_of, has_in, find_in, dead_of, kept_of, without, blank_run, fits_in, laid_in}
use Rattle.store_survey.specs.Survey.{start_in, place_in}
use Rattle.store_places.proofs.Items.{Good, not_both, filed_some}

-- every file has a place
abbrev pub Somes : List Item → Type 0
Somes [] = Unit {0}
Somes (blank ∷ is) = Somes is
Somes (dead p ∷ is) = Somes is
Somes (filed m f ∷ is) = (0 < length f) × Somes is
Somes (junk p ∷ is) = Somes is

pub good_somes : (fault : Judgement) → Reader fault → (is : List Item) → Good fault is → Somes is
good_somes fault R [] g = tt
good_somes fault R (blank ∷ is) g = good_somes fault R is g.1
good_somes fault R (dead p ∷ is) g = good_somes fault R is g.1
good_somes fault R (filed m f ∷ is) g = (filed_some fault R m f g.0.1, good_somes fault R is g.1)
good_somes fault R (junk p ∷ is) g = good_somes fault R is g.1

pub kept_is : (ℓ m : ℕ) (f : List (List ℕ)) (t : Bool) → eqb m ℓ ≡ t → kept_of ℓ m f ≡ (if t then dead_of f else filed m f ∷ [])
unfolding kept_of
kept_is ℓ m f t q = ap (λ (x : Bool). (if x then dead_of f else filed m f ∷ [])) q

-- ---- the run may be looked for before the drop
run_kills : (k : ℕ) (f : List (List ℕ)) (is : List Item) → 0 < length f → blank_run (suc k) (dead_of f ++ is) ≡ false
run_kills k [] is h = absurd (omega arith)
run_kills k (p ∷ f) is h = refl

run_same : (ℓ k : ℕ) (is : List Item) → Somes is → blank_run k (without ℓ is) ≡ blank_run k is
run_same ℓ zero is s = refl
run_same ℓ (suc k) [] s = refl
run_same ℓ (suc k) (blank ∷ is) s = run_same ℓ k is s
run_same ℓ (suc k) (dead p ∷ is) s = refl
run_same ℓ (suc k) (filed m f ∷ is) s = go (eqb m ℓ) refl
  where
    go : (t : Bool) → eqb m ℓ ≡ t → blank_run (suc k) (kept_of ℓ m f ++ without ℓ is) ≡ false
    go true q = ap (λ (x : List Item). blank_run (suc k) (x ++ without ℓ is)) (kept_is ℓ m f true q) ∙ run_kills k f (without ℓ is) s.0
    go false q = ap (λ (x : List Item). blank_run (suc k) (x ++ without ℓ is)) (kept_is ℓ m f false q)
run_same ℓ (suc k) (junk p ∷ is) s = refl

fits_kills : (k : ℕ) (f : List (List ℕ)) (is : List Item) → fits_in (suc k) (dead_of f ++ is) ≡ fits_in (suc k) is
fits_kills k [] is = refl
fits_kills k (p ∷ f) is = fits_kills k f is

pub fits_same : (ℓ k : ℕ) (is : List Item) → Somes is → fits_in (suc k) (without ℓ is) ≡ fits_in (suc k) is
fits_same ℓ k [] s = refl
fits_same ℓ k (blank ∷ is) s = ap (λ (x : Bool). x || fits_in (suc k) (without ℓ is)) (run_same ℓ k is s) ∙ ap (λ (x : Bool). blank_run k is || x) (fits_same ℓ k is s)
fits_same ℓ k (dead p ∷ is) s = fits_same ℓ k is s
fits_same ℓ k (filed m f ∷ is) s = go (eqb m ℓ) refl (fits_same ℓ k is s.1)
  where
    go : (t : Bool) → eqb m ℓ ≡ t → fits_in (suc k) (without ℓ is) ≡ fits_in (suc k) is → fits_in (suc k) (kept_of ℓ m f ++ without ℓ is) ≡ fits_in (suc k) is
    go true q r = ap (λ (x : List Item). fits_in (suc k) (x ++ without ℓ is)) (kept_is ℓ m f true q) ∙ fits_kills k f (without ℓ is) ∙ r
    go false q r = ap (λ (x : List Item). fits_in (suc k) (x ++ without ℓ is)) (kept_is ℓ m f false q) ∙ r
fits_same ℓ k (junk p ∷ is) s = fits_same ℓ k is s

start_kills : (k p : ℕ) (f : List (List ℕ)) (is : List Item) → start_in (suc k) p (dead_of f ++ is) ≡ start_in (suc k) (p + length f) is
start_kills k p [] is = ap (λ (x : ℕ). start_in (suc k) x is) (let z : p ≡ p + 0 = omega arith in z)
start_kills k p (q ∷ f) is = start_kills k (p + 1 + 0) f is ∙ ap (λ (x : ℕ). start_in (suc k) x is) (let z : p + 1 + 0 + length f ≡ p + suc (length f) = omega arith in z)

pub start_same : (ℓ k p : ℕ) (is : List Item) → Somes is → start_in (suc k) p (without ℓ is) ≡ start_in (suc k) p is
start_same ℓ k p [] s = refl
start_same ℓ k p (blank ∷ is) s =
    ap (λ (x : Bool). (if x then p else start_in (suc k) (p + 1 + 0) (without ℓ is))) (run_same ℓ k is s) ∙ ap (λ (x : ℕ). (if blank_run k is then p else x)) (start_same ℓ k (p + 1 + 0) is s)
start_same ℓ k p (dead q ∷ is) s = start_same ℓ k (p + 1 + 0) is s
start_same ℓ k p (filed m f ∷ is) s = go (eqb m ℓ) refl (λ (j : ℕ). start_same ℓ k j is s.1)
  where
    go : (t : Bool) → eqb m ℓ ≡ t → ((j : ℕ) → start_in (suc k) j (without ℓ is) ≡ start_in (suc k) j is)
        → start_in (suc k) p (kept_of ℓ m f ++ without ℓ is) ≡ start_in (suc k) (p + 1 + (length f - 1)) is
    go true q r =
        let h = s.0 in
        ap (λ (x : List Item). start_in (suc k) p (x ++ without ℓ is)) (kept_is ℓ m f true q) ∙ start_kills k p f (without ℓ is) ∙ r (p + length f)
        ∙ ap (λ (x : ℕ). start_in (suc k) x is) (let z : p + length f ≡ p + 1 + (length f - 1) = omega arith in z)
    go false q r = ap (λ (x : List Item). start_in (suc k) p (x ++ without ℓ is)) (kept_is ℓ m f false q) ∙ r (p + 1 + (length f - 1))
start_same ℓ k p (junk q ∷ is) s = start_same ℓ k (p + 1 + 0) is s

-- ---- a file laid: the places before the start, the file, the places behind it
run_past : (n : ℕ) (is : List Item) → blank_run n is ≡ true → drop n (places_of is) ≡ places_of (drop n is)
run_past zero is h = refl
run_past (suc n) [] h = refl
run_past (suc n) (blank ∷ is) h = run_past n is h
run_past (suc n) (dead p ∷ is) h = absurd (not_both h refl)
run_past (suc n) (filed m f ∷ is) h = absurd (not_both h refl)
run_past (suc n) (junk p ∷ is) h = absurd (not_both h refl)

-- the places of one item
abbrev pub ones_of : Item → List (List ℕ)
ones_of blank = blank_place ∷ []
ones_of (dead p) = p ∷ []
ones_of (filed m f) = f
ones_of (junk p) = p ∷ []

ones : (i : Item) (is : List Item) → places_of (i ∷ is) ≡ ones_of i ++ places_of is
ones blank is = refl
ones (dead p) is = refl
ones (filed m f) is = refl
ones (junk p) is = refl

pub ones_size : (i : Item) (is : List Item) (p : ℕ) → Somes (i ∷ is) → p + length (ones_of i) ≡ p + 1 + more_of i
ones_size blank is p s = omega arith
ones_size (dead q) is p s = omega arith
ones_size (filed m f) is p s = let h = s.0 in omega arith
ones_size (junk q) is p s = omega arith

pub somes_rest : (i : Item) (is : List Item) → Somes (i ∷ is) → Somes is
somes_rest blank is s = s
somes_rest (dead q) is s = s
somes_rest (filed m f) is s = s.1
somes_rest (junk q) is s = s

pub laid_places : (ℓ : ℕ) (f : List (List ℕ)) (is : List Item) (A : List (List ℕ)) (p : ℕ) → length A ≡ p → Somes is → fits_in (length f) is ≡ true
    → A ++ places_of (laid_in ℓ f is) ≡ take (start_in (length f) p is) (A ++ places_of is) ++ (f ++ drop (start_in (length f) p is + length f) (A ++ places_of is))
laid_places ℓ f [] A p l s h = absurd (not_both h refl)
laid_places ℓ f (i ∷ is) A p l s h = go (blank_run (length f) (i ∷ is)) refl (laid_places ℓ f is (A ++ ones_of i) (p + 1 + more_of i))
  where
    n : ℕ
    n = length f

    X : List (List ℕ)
    X = places_of (i ∷ is)

    cut_at : ℕ → List (List ℕ)
    cut_at S = take S (A ++ places_of (i ∷ is)) ++ (f ++ drop (S + length f) (A ++ places_of (i ∷ is)))

    go : (t : Bool) → blank_run (length f) (i ∷ is) ≡ t
        → (length (A ++ ones_of i) ≡ p + 1 + more_of i → Somes is → fits_in (length f) is ≡ true
        → (A ++ ones_of i) ++ places_of (laid_in ℓ f is)
        ≡ take (start_in (length f) (p + 1 + more_of i) is) ((A ++ ones_of i) ++ places_of is) ++ (f ++ drop (start_in (length f) (p + 1 + more_of i) is + length f) ((A ++ ones_of i) ++ places_of is)))
        → A ++ places_of (laid_in ℓ f (i ∷ is))
        ≡ take (start_in (length f) p (i ∷ is)) (A ++ places_of (i ∷ is)) ++ (f ++ drop (start_in (length f) p (i ∷ is) + length f) (A ++ places_of (i ∷ is)))
    go true q r =
        let D = drop (length f) (i ∷ is) in
        let z : p + length f ≡ length A + length f = omega arith in
        ap (λ (x : List Item). A ++ places_of x) (if_true (blank_run (length f) (i ∷ is)) (filed ℓ f ∷ D) (i ∷ laid_in ℓ f is) q)
        ∙ ap (λ (x : List (List ℕ)). x ++ (f ++ places_of D)) (sym (take_at A (places_of (i ∷ is)) p l))
        ∙ ap (λ (x : List (List ℕ)). take p (A ++ places_of (i ∷ is)) ++ (f ++ x))
        (sym (run_past (length f) (i ∷ is) q) ∙ sym (ap (λ (k : ℕ). drop k (A ++ places_of (i ∷ is))) z ∙ drop-append-add A (places_of (i ∷ is)) (length f)))
        ∙ sym (ap cut_at (if_true (blank_run (length f) (i ∷ is)) p (start_in (length f) (p + 1 + more_of i) is) q))
    go false q r =
        let e : fits_in (length f) is ≡ true = sym (ap (λ (x : Bool). x || fits_in (length f) is) q) ∙ h in
        let S = start_in (length f) (p + 1 + more_of i) is in
        let y : (A ++ ones_of i) ++ places_of is ≡ A ++ places_of (i ∷ is) = append_assoc A (ones_of i) (places_of is) ∙ ap (λ (x : List (List ℕ)). A ++ x) (sym (ones i is)) in
        ap (λ (x : List Item). A ++ places_of x) (if_false (blank_run (length f) (i ∷ is)) (filed ℓ f ∷ drop (length f) (i ∷ is)) (i ∷ laid_in ℓ f is) q)
        ∙ ap (λ (x : List (List ℕ)). A ++ x) (ones i (laid_in ℓ f is)) ∙ sym (append_assoc A (ones_of i) (places_of (laid_in ℓ f is)))
        ∙ r (length-append A (ones_of i) ∙ ap (λ (x : ℕ). x + length (ones_of i)) l ∙ ones_size i is p s) (somes_rest i is s) e
        ∙ ap (λ (x : List (List ℕ)). take S x ++ (f ++ drop (S + length f) x)) y
        ∙ sym (ap cut_at (if_false (blank_run (length f) (i ∷ is)) p S q))

-- ---- the file found stands at its place
pub found_place : (ℓ : ℕ) (is : List Item) (A : List (List ℕ)) (p : ℕ) → length A ≡ p → Somes is → has_in ℓ is ≡ true
    → take (length (find_in ℓ is)) (drop (place_in ℓ p is) (A ++ places_of is)) ≡ find_in ℓ is
found_place ℓ [] A p l s h = absurd (not_both h refl)
found_place ℓ (blank ∷ is) A p l s h =
    ap (λ (x : List (List ℕ)). take (length (find_in ℓ is)) (drop (place_in ℓ (p + 1 + 0) is) x)) (sym (append_assoc A (blank_place ∷ []) (places_of is)))
    ∙ found_place ℓ is (A ++ (blank_place ∷ [])) (p + 1 + 0) (length-append A (blank_place ∷ []) ∙ (let z : length A + 1 ≡ p + 1 + 0 = omega arith in z)) s h
found_place ℓ (dead q ∷ is) A p l s h =
    ap (λ (x : List (List ℕ)). take (length (find_in ℓ is)) (drop (place_in ℓ (p + 1 + 0) is) x)) (sym (append_assoc A (q ∷ []) (places_of is)))
    ∙ found_place ℓ is (A ++ (q ∷ [])) (p + 1 + 0) (length-append A (q ∷ []) ∙ (let z : length A + 1 ≡ p + 1 + 0 = omega arith in z)) s h
found_place ℓ (filed m f ∷ is) A p l s h = go (eqb m ℓ) refl (found_place ℓ is (A ++ f) (p + 1 + (length f - 1)))
  where
    H : List (List ℕ) → ℕ → List (List ℕ)
    H F P = take (length F) (drop P (A ++ (f ++ places_of is)))

    go : (t : Bool) → eqb m ℓ ≡ t
        → (length (A ++ f) ≡ p + 1 + (length f - 1) → Somes is → has_in ℓ is ≡ true → take (length (find_in ℓ is)) (drop (place_in ℓ (p + 1 + (length f - 1)) is) ((A ++ f) ++ places_of is)) ≡ find_in ℓ is)
        → take (length (if eqb m ℓ then f else find_in ℓ is)) (drop (if eqb m ℓ then p else place_in ℓ (p + 1 + (length f - 1)) is) (A ++ (f ++ places_of is))) ≡ (if eqb m ℓ then f else find_in ℓ is)
    go true q r =
        let a = if_true (eqb m ℓ) f (find_in ℓ is) q in
        ap (λ (x : List (List ℕ)). H x (if eqb m ℓ then p else place_in ℓ (p + 1 + (length f - 1)) is)) a ∙ ap (H f) (if_true (eqb m ℓ) p (place_in ℓ (p + 1 + (length f - 1)) is) q)
        ∙ ap (take (length f)) (drop_at A (f ++ places_of is) p l) ∙ take-append_seam f (places_of is) ∙ sym a
    go false q r =
        let a = if_false (eqb m ℓ) f (find_in ℓ is) q in
        let k = s.0 in
        ap (λ (x : List (List ℕ)). H x (if eqb m ℓ then p else place_in ℓ (p + 1 + (length f - 1)) is)) a
        ∙ ap (H (find_in ℓ is)) (if_false (eqb m ℓ) p (place_in ℓ (p + 1 + (length f - 1)) is) q)
        ∙ ap (λ (x : List (List ℕ)). take (length (find_in ℓ is)) (drop (place_in ℓ (p + 1 + (length f - 1)) is) x)) (sym (append_assoc A f (places_of is)))
        ∙ r (length-append A f ∙ (let z : length A + length f ≡ p + 1 + (length f - 1) = omega arith in z)) s.1 (sym (ap (λ (x : Bool). x || has_in ℓ is) q) ∙ h)
        ∙ sym a
found_place ℓ (junk q ∷ is) A p l s h =
    ap (λ (x : List (List ℕ)). take (length (find_in ℓ is)) (drop (place_in ℓ (p + 1 + 0) is) x)) (sym (append_assoc A (q ∷ []) (places_of is)))
    ∙ found_place ℓ is (A ++ (q ∷ [])) (p + 1 + 0) (length-append A (q ∷ []) ∙ (let z : length A + 1 ≡ p + 1 + 0 = omega arith in z)) s h

-- parts of places as parts of bytes
pub join_take : (n : ℕ) (X : List (List ℕ)) → Whole X → join (take n X) ≡ take (512 * n) (join X)
join_take zero X w = refl
join_take (suc n) [] w = sym (take-nil (512 * suc n))
join_take (suc n) (p ∷ X) w =
    let h = w.0 in
    ap (λ (x : List ℕ). p ++ x) (join_take n X w.1) ∙ sym (take-append-add p (join X) (512 * n)) ∙ ap (λ (k : ℕ). take k (p ++ join X)) (let z : length p + 512 * n ≡ 512 * suc n = omega arith in z)

pub join_drop : (n : ℕ) (X : List (List ℕ)) → Whole X → join (drop n X) ≡ drop (512 * n) (join X)
join_drop zero X w = refl
join_drop (suc n) [] w = sym (drop-nil (512 * suc n))
join_drop (suc n) (p ∷ X) w =
    let h = w.0 in
    join_drop n X w.1 ∙ sym (drop-append-add p (join X) (512 * n)) ∙ ap (λ (k : ℕ). drop k (p ++ join X)) (let z : length p + 512 * n ≡ 512 * suc n = omega arith in z)
