-- A drop clears bits only, and a file laid into a run programs blank places only.
use mathlib.Core.Path.{◌≡◌, refl, sym, ap, ap₂, ◌∙◌, subst}
use mathlib.Core.List.{List, [], ◌∷◌, ◌++◌}
use mathlib.Core.Bool.{Bool, true, false, ◌||◌}
use Prim.Native.Nat.{ℕ, zero, suc, ◌+◌, ◌*◌, ◌/◌, ◌%◌, ◌<◌, min}
use native.Mathlib.Nat.{lt_of_le_of_lt, min-le_left, mod-lt, mod-eq_of_lt, zero-lt-suc}
use native.Mathlib.Omega.{arith}
use lib.Arith.{bin_ind}
use lib.Pow.{low}
use lib.Bits.{bit_and, and_step, and_shr, and_comm, and_self, and_mask}
use lib.ListN.{length, get_or, drop, replicate}
use lib.Dec.{eqb}
use Rattle.std.specs.Prelude.{if◌then◌else◌}
use Rattle.common.proofs.Choice.{if_true, if_false}
use Rattle.store_places.specs.Store.{join, blank_place, zeroed, Item, blank, dead, filed, junk, places_of, dead_of, kept_of, without, blank_run, fits_in, laid_in}
use Rattle.store_places.proofs.Places.{Whole}
use Rattle.store_places.proofs.Items.{not_both}

-- ---- bits
and_odd : (a b : ℕ) → bit_and a b % 2 ≡ min (a % 2) (b % 2)
and_odd a b = ap (λ (x : ℕ). x % 2) (and_step a b) ∙ low (bit_and (a / 2) (b / 2)) 1 (lt_of_le_of_lt (min-le_left (a % 2) (b % 2)) (mod-lt a (zero-lt-suc 1)))

min_assoc : (a b c : ℕ) → min (min a b) c ≡ min a (min b c)
min_assoc a b c = omega arith

and_assoc : (a b c : ℕ) → bit_and (bit_and a b) c ≡ bit_and a (bit_and b c)
and_assoc =
    bin_ind (λ (n : ℕ). (b c : ℕ) → bit_and (bit_and n b) c ≡ bit_and n (bit_and b c)) (λ b c. refl)
    (λ n ih b c. and_step (bit_and n b) c
    ∙ ap₂ (λ (x y : ℕ). x * 2 + y)
    (ap (λ (x : ℕ). bit_and x (c / 2)) (and_shr n b 1) ∙ ih (b / 2) (c / 2) ∙ sym (ap (λ (x : ℕ). bit_and (n / 2) x) (and_shr b c 1)))
    (ap (λ (x : ℕ). min x (c % 2)) (and_odd n b) ∙ min_assoc (n % 2) (b % 2) (c % 2) ∙ sym (ap (λ (x : ℕ). min (n % 2) x) (and_odd b c)))
    ∙ sym (and_step n (bit_and b c)))

and_255 : (w : ℕ) → w < 256 → bit_and 255 w ≡ w
and_255 w h = and_comm 255 w ∙ and_mask w 8 ∙ mod-eq_of_lt h

-- no bit rises from the first list to the second
abbrev pub Falls : List ℕ → List ℕ → Type 0
Falls [] [] = Unit {0}
Falls [] (y ∷ ys) = ⊥
Falls (x ∷ xs) [] = ⊥
Falls (x ∷ xs) (y ∷ ys) = (bit_and x y ≡ y) × Falls xs ys

-- ---- lists
pub falls_same : (xs : List ℕ) → Falls xs xs
falls_same [] = tt
falls_same (x ∷ xs) = (and_self x, falls_same xs)

pub falls_append : (xs ys us vs : List ℕ) → Falls xs ys → Falls us vs → Falls (xs ++ us) (ys ++ vs)
falls_append [] [] us vs p q = q
falls_append [] (y ∷ ys) us vs p q = absurd p
falls_append (x ∷ xs) [] us vs p q = absurd p
falls_append (x ∷ xs) (y ∷ ys) us vs p q = (p.0, falls_append xs ys us vs p.1 q)

pub falls_on : (xs ys zs : List ℕ) → Falls xs ys → Falls ys zs → Falls xs zs
falls_on [] [] zs p q = q
falls_on [] (y ∷ ys) zs p q = absurd p
falls_on (x ∷ xs) [] zs p q = absurd p
falls_on (x ∷ xs) (y ∷ ys) [] p q = q
falls_on (x ∷ xs) (y ∷ ys) (z ∷ zs) p q =
    (ap (λ (a : ℕ). bit_and x a) (sym q.0) ∙ sym (and_assoc x y z) ∙ ap (λ (a : ℕ). bit_and a z) p.0 ∙ q.0, falls_on xs ys zs p.1 q.1)

-- every number is a byte
abbrev pub Small : List ℕ → Type 0
Small [] = Unit {0}
Small (x ∷ xs) = (x < 256) × Small xs

pub bytes_small : (xs : List ℕ) → ((k : ℕ) → get_or xs k 0 < 256) → Small xs
bytes_small [] b = tt
bytes_small (x ∷ xs) b = (b 0, bytes_small xs (λ (k : ℕ). b (suc k)))

small_left : (xs ys : List ℕ) → Small (xs ++ ys) → Small xs
small_left [] ys s = tt
small_left (x ∷ xs) ys s = (s.0, small_left xs ys s.1)

small_right : (xs ys : List ℕ) → Small (xs ++ ys) → Small ys
small_right [] ys s = s
small_right (x ∷ xs) ys s = small_right xs ys s.1

falls_blank : (n : ℕ) (xs : List ℕ) → length xs ≡ n → Small xs → Falls (replicate n 255) xs
falls_blank zero [] e s = tt
falls_blank zero (x ∷ xs) e s = absurd (omega arith)
falls_blank (suc n) [] e s = absurd (omega arith)
falls_blank (suc n) (x ∷ xs) e s = (and_255 x s.0, falls_blank n xs (omega arith) s.1)

falls_zeroed : (p : List ℕ) → Falls p (zeroed p)
unfolding zeroed
falls_zeroed [] = tt
falls_zeroed (x ∷ p) = (and_comm x 0 ∙ refl, falls_same p)

-- ---- a drop
dead_fall : (f s : List (List ℕ)) (is : List Item) → Falls (join s) (join (places_of is)) → Falls (join (f ++ s)) (join (places_of (dead_of f ++ is)))
dead_fall [] s is h = h
dead_fall (p ∷ f) s is h = falls_append p (zeroed p) (join (f ++ s)) (join (places_of (dead_of f ++ is))) (falls_zeroed p) (dead_fall f s is h)

same_front : (f s t : List (List ℕ)) → Falls (join s) (join t) → Falls (join (f ++ s)) (join (f ++ t))
same_front [] s t h = h
same_front (p ∷ f) s t h = falls_append p p (join (f ++ s)) (join (f ++ t)) (falls_same p) (same_front f s t h)

kept_is : (ℓ m : ℕ) (f : List (List ℕ)) (t : Bool) → eqb m ℓ ≡ t → kept_of ℓ m f ≡ (if t then dead_of f else filed m f ∷ [])
unfolding kept_of
kept_is ℓ m f t q = ap (λ (x : Bool). (if x then dead_of f else filed m f ∷ [])) q

pub without_falls : (ℓ : ℕ) (is : List Item) → Falls (join (places_of is)) (join (places_of (without ℓ is)))
without_falls ℓ [] = tt
without_falls ℓ (blank ∷ is) = same_front (blank_place ∷ []) (places_of is) (places_of (without ℓ is)) (without_falls ℓ is)
without_falls ℓ (dead p ∷ is) = same_front (p ∷ []) (places_of is) (places_of (without ℓ is)) (without_falls ℓ is)
without_falls ℓ (filed m f ∷ is) = go (eqb m ℓ) refl (without_falls ℓ is)
  where
    go : (t : Bool) → eqb m ℓ ≡ t → Falls (join (places_of is)) (join (places_of (without ℓ is))) → Falls (join (f ++ places_of is)) (join (places_of (kept_of ℓ m f ++ without ℓ is)))
    go true q r = subst (λ (x : List Item). Falls (join (f ++ places_of is)) (join (places_of (x ++ without ℓ is)))) (sym (kept_is ℓ m f true q)) (dead_fall f (places_of is) (without ℓ is) r)
    go false q r = subst (λ (x : List Item). Falls (join (f ++ places_of is)) (join (places_of (x ++ without ℓ is)))) (sym (kept_is ℓ m f false q)) (same_front f (places_of is) (places_of (without ℓ is)) r)
without_falls ℓ (junk p ∷ is) = same_front (p ∷ []) (places_of is) (places_of (without ℓ is)) (without_falls ℓ is)

-- ---- a file laid into a run
run_falls : (f : List (List ℕ)) (is : List Item) → Whole f → Small (join f) → blank_run (length f) is ≡ true → Falls (join (places_of is)) (join (f ++ places_of (drop (length f) is)))
run_falls [] is w s r = falls_same (join (places_of is))
run_falls (p ∷ f) [] w s r = absurd (not_both r refl)
run_falls (p ∷ f) (blank ∷ is) w s r =
    falls_append blank_place p (join (places_of is)) (join (f ++ places_of (drop (length f) is))) (falls_blank 512 p w.0 (small_left p (join f) s))
    (run_falls f is w.1 (small_right p (join f) s) r)
run_falls (p ∷ f) (dead q ∷ is) w s r = absurd (not_both r refl)
run_falls (p ∷ f) (filed m g ∷ is) w s r = absurd (not_both r refl)
run_falls (p ∷ f) (junk q ∷ is) w s r = absurd (not_both r refl)

pub laid_falls : (ℓ : ℕ) (f : List (List ℕ)) (is : List Item) → Whole f → Small (join f) → fits_in (length f) is ≡ true → Falls (join (places_of is)) (join (places_of (laid_in ℓ f is)))
laid_falls ℓ f [] w s h = absurd (not_both h refl)
laid_falls ℓ f (i ∷ is) w s h = go (blank_run (length f) (i ∷ is)) refl (laid_falls ℓ f is w s)
  where
    after : (i : Item) → Falls (join (places_of is)) (join (places_of (laid_in ℓ f is))) → Falls (join (places_of (i ∷ is))) (join (places_of (i ∷ laid_in ℓ f is)))
    after blank r = same_front (blank_place ∷ []) (places_of is) (places_of (laid_in ℓ f is)) r
    after (dead p) r = same_front (p ∷ []) (places_of is) (places_of (laid_in ℓ f is)) r
    after (filed m g) r = same_front g (places_of is) (places_of (laid_in ℓ f is)) r
    after (junk p) r = same_front (p ∷ []) (places_of is) (places_of (laid_in ℓ f is)) r

    go : (t : Bool) → blank_run (length f) (i ∷ is) ≡ t → (fits_in (length f) is ≡ true → Falls (join (places_of is)) (join (places_of (laid_in ℓ f is))))
        → Falls (join (places_of (i ∷ is))) (join (places_of (laid_in ℓ f (i ∷ is))))
    go true q r =
        subst (λ (x : List Item). Falls (join (places_of (i ∷ is))) (join (places_of x))) (sym (if_true (blank_run (length f) (i ∷ is)) (filed ℓ f ∷ drop (length f) (i ∷ is)) (i ∷ laid_in ℓ f is) q))
        (run_falls f (i ∷ is) w s q)
    go false q r =
        let e : fits_in (length f) is ≡ true = sym (ap (λ (x : Bool). x || fits_in (length f) is) q) ∙ h in
        subst (λ (x : List Item). Falls (join (places_of (i ∷ is))) (join (places_of x))) (sym (if_false (blank_run (length f) (i ∷ is)) (filed ℓ f ∷ drop (length f) (i ∷ is)) (i ∷ laid_in ℓ f is) q))
        (after i (r e))
