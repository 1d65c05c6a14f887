-- Items after a drop and after an add: who stands there, what is found, how many places.
use mathlib.Core.Path.{◌≡◌, refl, sym, ◌∙◌, ap, subst}
use mathlib.Core.List.{List, [], ◌∷◌, ◌++◌}
use mathlib.Core.Bool.{Bool, true, false, not, ◌&&◌, ◌||◌}
use Prim.Native.Nat.{ℕ, zero, suc, ◌+◌, ◌-◌, ◌≤◌}
use native.Mathlib.Omega.{arith}
use lib.ListN.{length, drop, replicate, length-append}
use lib.Dec.{eqb}
use borrow.Author.Tests.{eqb-true, eqb-false, ne_eqb, ltb-false}
use Rattle.std.specs.Prelude.{if◌then◌else◌}
use Rattle.common.proofs.Choice.{if_true, if_false}
use Rattle.store_places.specs.Store.{Judgement, Item, blank, dead, filed, junk, places_of, proper_in, has_in, find_in, live_in, dead_of, kept_of, without, blank_run, fits_in, laid_in, files_of, slid_in, run_for, added_in, no_room}
use Rattle.store_places.proofs.Places.{Whole, zeroed_dead, zeroed_length}
use Rattle.store_places.proofs.Items.{Right, Good, not_both}

-- ---- tests
pub and_l : (a b : Bool) → (a && b) ≡ true → a ≡ true
and_l true b h = refl
and_l false b h = h

pub and_r : (a b : Bool) → (a && b) ≡ true → b ≡ true
and_r true b h = h
and_r false b h = absurd (not_both h refl)

pub or_l : (a b : Bool) → (a || b) ≡ false → a ≡ false
or_l true b h = h
or_l false b h = refl

pub or_r : (a b : Bool) → (a || b) ≡ false → b ≡ false
or_r true b h = absurd (not_both refl h)
or_r false b h = h

pub not-true : (a : Bool) → not a ≡ true → a ≡ false
not-true true h = sym h
not-true false h = refl

pub not_and_true : (a b : Bool) → a ≡ false → b ≡ true → (not a && b) ≡ true
not_and_true a b x y = simp (x, y)

pub flip : (a b : ℕ) → eqb a b ≡ false → eqb b a ≡ false
flip a b e = ne_eqb b a (λ (q : b ≡ a). eqb-false a b e (sym q))

swap : (a b c : Bool) → (a || (b || c)) ≡ (b || (a || c))
swap true true c = refl
swap true false c = refl
swap false b c = refl

-- ---- a drop
kept_true : (ℓ m : ℕ) (f : List (List ℕ)) → eqb m ℓ ≡ true → kept_of ℓ m f ≡ dead_of f
unfolding kept_of
kept_true ℓ m f e = if_true (eqb m ℓ) _ _ e

kept_false : (ℓ m : ℕ) (f : List (List ℕ)) → eqb m ℓ ≡ false → kept_of ℓ m f ≡ filed m f ∷ []
unfolding kept_of
kept_false ℓ m f e = if_false (eqb m ℓ) _ _ e

dead_good : (fault : Judgement) (f : List (List ℕ)) (is : List Item) → Whole f → Good fault is → Good fault (dead_of f ++ is)
dead_good fault [] is w g = g
dead_good fault (p ∷ f) is w g = ((zeroed_length p ∙ w.0, zeroed_dead p), dead_good fault f is w.1 g)

dead_has : (m : ℕ) (f : List (List ℕ)) (is : List Item) → has_in m (dead_of f ++ is) ≡ has_in m is
dead_has m [] is = refl
dead_has m (p ∷ f) is = dead_has m f is

dead_find : (m : ℕ) (f : List (List ℕ)) (is : List Item) → find_in m (dead_of f ++ is) ≡ find_in m is
dead_find m [] is = refl
dead_find m (p ∷ f) is = dead_find m f is

dead_live : (f : List (List ℕ)) (is : List Item) → live_in (dead_of f ++ is) ≡ live_in is
dead_live [] is = refl
dead_live (p ∷ f) is = dead_live f is

dead_proper : (f : List (List ℕ)) (is : List Item) → proper_in (dead_of f ++ is) ≡ proper_in is
dead_proper [] is = refl
dead_proper (p ∷ f) is = dead_proper f is

dead_size : (f : List (List ℕ)) (is : List Item) → length (places_of (dead_of f ++ is)) ≡ length f + length (places_of is)
dead_size [] is = omega arith
dead_size (p ∷ f) is = let r = dead_size f is in omega arith

pub without_good : (fault : Judgement) (ℓ : ℕ) (is : List Item) → Good fault is → Good fault (without ℓ is)
without_good fault ℓ [] g = tt
without_good fault ℓ (blank ∷ is) g = (tt, without_good fault ℓ is g.1)
without_good fault ℓ (dead p ∷ is) g = (g.0, without_good fault ℓ is g.1)
without_good fault ℓ (filed m f ∷ is) g = go (eqb m ℓ) refl (without_good fault ℓ is g.1)
  where
    go : (t : Bool) → eqb m ℓ ≡ t → Good fault (without ℓ is) → Good fault (kept_of ℓ m f ++ without ℓ is)
    go true q r = subst (λ (x : List Item). Good fault (x ++ without ℓ is)) (sym (kept_true ℓ m f q)) (dead_good fault f (without ℓ is) g.0.0 r)
    go false q r = subst (λ (x : List Item). Good fault (x ++ without ℓ is)) (sym (kept_false ℓ m f q)) (g.0, r)
without_good fault ℓ (junk p ∷ is) g = absurd g.0

pub without_dead : (ℓ : ℕ) (is : List Item) → has_in ℓ (without ℓ is) ≡ false
without_dead ℓ [] = refl
without_dead ℓ (blank ∷ is) = without_dead ℓ is
without_dead ℓ (dead p ∷ is) = without_dead ℓ is
without_dead ℓ (filed m f ∷ is) = go (eqb m ℓ) refl (without_dead ℓ is)
  where
    go : (t : Bool) → eqb m ℓ ≡ t → has_in ℓ (without ℓ is) ≡ false → has_in ℓ (kept_of ℓ m f ++ without ℓ is) ≡ false
    go true q r = ap (λ (x : List Item). has_in ℓ (x ++ without ℓ is)) (kept_true ℓ m f q) ∙ dead_has ℓ f (without ℓ is) ∙ r
    go false q r = ap (λ (x : List Item). has_in ℓ (x ++ without ℓ is)) (kept_false ℓ m f q) ∙ simp (q, r)
without_dead ℓ (junk p ∷ is) = without_dead ℓ is

pub without_other : (ℓ m : ℕ) (is : List Item) → eqb ℓ m ≡ false → has_in m (without ℓ is) ≡ has_in m is
without_other ℓ m [] n = refl
without_other ℓ m (blank ∷ is) n = without_other ℓ m is n
without_other ℓ m (dead p ∷ is) n = without_other ℓ m is n
without_other ℓ m (filed k f ∷ is) n = go (eqb k ℓ) refl (without_other ℓ m is n)
  where
    go : (t : Bool) → eqb k ℓ ≡ t → has_in m (without ℓ is) ≡ has_in m is → has_in m (kept_of ℓ k f ++ without ℓ is) ≡ (eqb k m || has_in m is)
    go true q r =
        let e : eqb k m ≡ false = ap (λ (x : ℕ). eqb x m) (eqb-true k ℓ q) ∙ n in
        ap (λ (x : List Item). has_in m (x ++ without ℓ is)) (kept_true ℓ k f q) ∙ dead_has m f (without ℓ is) ∙ r ∙ sym (ap (λ (x : Bool). x || has_in m is) e)
    go false q r = ap (λ (x : List Item). has_in m (x ++ without ℓ is)) (kept_false ℓ k f q) ∙ ap (λ (x : Bool). eqb k m || x) r
without_other ℓ m (junk p ∷ is) n = without_other ℓ m is n

pub without_none : (ℓ : ℕ) (is : List Item) → find_in ℓ (without ℓ is) ≡ []
without_none ℓ [] = refl
without_none ℓ (blank ∷ is) = without_none ℓ is
without_none ℓ (dead p ∷ is) = without_none ℓ is
without_none ℓ (filed m f ∷ is) = go (eqb m ℓ) refl (without_none ℓ is)
  where
    go : (t : Bool) → eqb m ℓ ≡ t → find_in ℓ (without ℓ is) ≡ [] → find_in ℓ (kept_of ℓ m f ++ without ℓ is) ≡ []
    go true q r = ap (λ (x : List Item). find_in ℓ (x ++ without ℓ is)) (kept_true ℓ m f q) ∙ dead_find ℓ f (without ℓ is) ∙ r
    go false q r = ap (λ (x : List Item). find_in ℓ (x ++ without ℓ is)) (kept_false ℓ m f q) ∙ if_false (eqb m ℓ) f _ q ∙ r
without_none ℓ (junk p ∷ is) = without_none ℓ is

pub without_find : (ℓ m : ℕ) (is : List Item) → eqb ℓ m ≡ false → find_in m (without ℓ is) ≡ find_in m is
without_find ℓ m [] n = refl
without_find ℓ m (blank ∷ is) n = without_find ℓ m is n
without_find ℓ m (dead p ∷ is) n = without_find ℓ m is n
without_find ℓ m (filed k f ∷ is) n = go (eqb k ℓ) refl (without_find ℓ m is n)
  where
    go : (t : Bool) → eqb k ℓ ≡ t → find_in m (without ℓ is) ≡ find_in m is → find_in m (kept_of ℓ k f ++ without ℓ is) ≡ (if eqb k m then f else find_in m is)
    go true q r =
        let e : eqb k m ≡ false = ap (λ (x : ℕ). eqb x m) (eqb-true k ℓ q) ∙ n in
        ap (λ (x : List Item). find_in m (x ++ without ℓ is)) (kept_true ℓ k f q) ∙ dead_find m f (without ℓ is) ∙ r ∙ sym (if_false (eqb k m) f (find_in m is) e)
    go false q r = ap (λ (x : List Item). find_in m (x ++ without ℓ is)) (kept_false ℓ k f q) ∙ ap (λ (x : List (List ℕ)). (if eqb k m then f else x)) r
without_find ℓ m (junk p ∷ is) n = without_find ℓ m is n

pub without_proper : (ℓ : ℕ) (is : List Item) → proper_in is ≡ true → proper_in (without ℓ is) ≡ true
without_proper ℓ [] h = refl
without_proper ℓ (blank ∷ is) h = without_proper ℓ is h
without_proper ℓ (dead p ∷ is) h = without_proper ℓ is h
without_proper ℓ (filed m f ∷ is) h = go (eqb m ℓ) refl (without_proper ℓ is (and_r (not (has_in m is)) (proper_in is) h))
  where
    go : (t : Bool) → eqb m ℓ ≡ t → proper_in (without ℓ is) ≡ true → proper_in (kept_of ℓ m f ++ without ℓ is) ≡ true
    go true q r = ap (λ (x : List Item). proper_in (x ++ without ℓ is)) (kept_true ℓ m f q) ∙ dead_proper f (without ℓ is) ∙ r
    go false q r =
        ap (λ (x : List Item). proper_in (x ++ without ℓ is)) (kept_false ℓ m f q)
        ∙ not_and_true (has_in m (without ℓ is)) (proper_in (without ℓ is))
        (without_other ℓ m is (flip m ℓ q) ∙ not-true (has_in m is) (and_l (not (has_in m is)) (proper_in is) h)) r
without_proper ℓ (junk p ∷ is) h = h

pub without_size : (ℓ : ℕ) (is : List Item) → length (places_of (without ℓ is)) ≡ length (places_of is)
without_size ℓ [] = refl
without_size ℓ (blank ∷ is) = ap suc (without_size ℓ is)
without_size ℓ (dead p ∷ is) = ap suc (without_size ℓ is)
without_size ℓ (filed m f ∷ is) = go (eqb m ℓ) refl (without_size ℓ is)
  where
    go : (t : Bool) → eqb m ℓ ≡ t → length (places_of (without ℓ is)) ≡ length (places_of is) → length (places_of (kept_of ℓ m f ++ without ℓ is)) ≡ length (f ++ places_of is)
    go true q r =
        ap (λ (x : List Item). length (places_of (x ++ without ℓ is))) (kept_true ℓ m f q) ∙ dead_size f (without ℓ is)
        ∙ ap (λ (n : ℕ). length f + n) r ∙ sym (length-append f (places_of is))
    go false q r =
        ap (λ (x : List Item). length (places_of (x ++ without ℓ is))) (kept_false ℓ m f q) ∙ length-append f (places_of (without ℓ is))
        ∙ ap (λ (n : ℕ). length f + n) r ∙ sym (length-append f (places_of is))
without_size ℓ (junk p ∷ is) = ap suc (without_size ℓ is)

-- live blocks without a file, which stands once: those with it less its own
pub live_without : (ℓ : ℕ) (is : List Item) → proper_in is ≡ true → live_in (without ℓ is) + length (find_in ℓ is) ≡ live_in is
live_without ℓ [] h = refl
live_without ℓ (blank ∷ is) h = live_without ℓ is h
live_without ℓ (dead p ∷ is) h = live_without ℓ is h
live_without ℓ (filed m f ∷ is) h = go (eqb m ℓ) refl (live_without ℓ is (and_r (not (has_in m is)) (proper_in is) h))
  where
    none : (is : List Item) → has_in ℓ is ≡ false → find_in ℓ is ≡ []
    none [] x = refl
    none (blank ∷ is) x = none is x
    none (dead p ∷ is) x = none is x
    none (filed k g ∷ is) x = if_false (eqb k ℓ) g (find_in ℓ is) (or_l (eqb k ℓ) (has_in ℓ is) x) ∙ none is (or_r (eqb k ℓ) (has_in ℓ is) x)
    none (junk p ∷ is) x = none is x

    go : (t : Bool) → eqb m ℓ ≡ t → live_in (without ℓ is) + length (find_in ℓ is) ≡ live_in is
        → live_in (kept_of ℓ m f ++ without ℓ is) + length (if eqb m ℓ then f else find_in ℓ is) ≡ length f + live_in is
    go true q r =
        let a : live_in (kept_of ℓ m f ++ without ℓ is) ≡ live_in (without ℓ is) = ap (λ (x : List Item). live_in (x ++ without ℓ is)) (kept_true ℓ m f q) ∙ dead_live f (without ℓ is) in
        let b : length (if eqb m ℓ then f else find_in ℓ is) ≡ length f = ap (λ (x : List (List ℕ)). length x) (if_true (eqb m ℓ) f (find_in ℓ is) q) in
        let u : has_in ℓ is ≡ false = ap (λ (x : ℕ). has_in x is) (sym (eqb-true m ℓ q)) ∙ not-true (has_in m is) (and_l (not (has_in m is)) (proper_in is) h) in
        let c : length (find_in ℓ is) ≡ 0 = ap (λ (x : List (List ℕ)). length x) (none is u) in
        omega arith
    go false q r =
        let a : live_in (kept_of ℓ m f ++ without ℓ is) ≡ length f + live_in (without ℓ is) = ap (λ (x : List Item). live_in (x ++ without ℓ is)) (kept_false ℓ m f q) in
        let b : length (if eqb m ℓ then f else find_in ℓ is) ≡ length (find_in ℓ is) = ap (λ (x : List (List ℕ)). length x) (if_false (eqb m ℓ) f (find_in ℓ is) q) in
        omega arith
live_without ℓ (junk p ∷ is) h = absurd (not_both h refl)

-- ---- a run of blank places: what is left of the items behind it
pub record RunOf (n : ℕ) (is js : List Item) : Type 0 where
  pub has : (m : ℕ) → has_in m js ≡ has_in m is
  pub find : (m : ℕ) → find_in m js ≡ find_in m is
  pub live : live_in js ≡ live_in is
  pub proper : proper_in js ≡ proper_in is
  pub size : length (places_of js) + n ≡ length (places_of is)
  pub good : (fault : Judgement) → Good fault is → Good fault js

pub run_of : (n : ℕ) (is : List Item) → blank_run n is ≡ true → RunOf n is (drop n is)
run_of zero is r = record { has = λ (m : ℕ). refl; find = λ (m : ℕ). refl; live = refl; proper = refl; size = omega arith; good = λ (fault : Judgement) (g : Good fault is). g }
run_of (suc n) [] r = absurd (not_both r refl)
run_of (suc n) (blank ∷ is) r =
    let o = run_of n is r in let s = o.size in
    record { has = o.has; find = o.find; live = o.live; proper = o.proper; size = omega arith; good = λ (fault : Judgement) (g : Good fault (blank ∷ is)). o.good fault g.1 }
run_of (suc n) (dead p ∷ is) r = absurd (not_both r refl)
run_of (suc n) (filed m f ∷ is) r = absurd (not_both r refl)
run_of (suc n) (junk p ∷ is) r = absurd (not_both r refl)

-- ---- a file laid among items that have none under its letter
pub record Laid (ℓ : ℕ) (f : List (List ℕ)) (is js : List Item) : Type 0 where
  pub has : (m : ℕ) → has_in m js ≡ (eqb ℓ m || has_in m is)
  pub find : (m : ℕ) → find_in m js ≡ (if eqb ℓ m then f else find_in m is)
  pub live : live_in js ≡ live_in is + length f
  pub proper : proper_in is ≡ true → proper_in js ≡ true
  pub good : (fault : Judgement) → Good fault is → Right fault (filed ℓ f) → Good fault js

laid_blank : (ℓ : ℕ) (f : List (List ℕ)) (is js : List Item) → Laid ℓ f is js → Laid ℓ f (blank ∷ is) (blank ∷ js)
laid_blank ℓ f is js o =
    record { has = o.has; find = o.find; live = o.live; proper = o.proper; good = λ (fault : Judgement) (g : Good fault (blank ∷ is)) (r : Right fault (filed ℓ f)). (tt, o.good fault g.1 r) }

laid_dead : (ℓ : ℕ) (f : List (List ℕ)) (p : List ℕ) (is js : List Item) → Laid ℓ f is js → Laid ℓ f (dead p ∷ is) (dead p ∷ js)
laid_dead ℓ f p is js o =
    record { has = o.has; find = o.find; live = o.live; proper = o.proper; good = λ (fault : Judgement) (g : Good fault (dead p ∷ is)) (r : Right fault (filed ℓ f)). (g.0, o.good fault g.1 r) }

laid_junk : (ℓ : ℕ) (f : List (List ℕ)) (p : List ℕ) (is js : List Item) → Laid ℓ f is js → Laid ℓ f (junk p ∷ is) (junk p ∷ js)
laid_junk ℓ f p is js o =
    record { has = o.has; find = o.find; live = o.live; proper = λ (h : false ≡ true). h; good = λ (fault : Judgement) (g : Good fault (junk p ∷ is)) (r : Right fault (filed ℓ f)). absurd g.0 }

laid_filed : (ℓ : ℕ) (f : List (List ℕ)) (k : ℕ) (g : List (List ℕ)) (is js : List Item) → eqb k ℓ ≡ false → Laid ℓ f is js → Laid ℓ f (filed k g ∷ is) (filed k g ∷ js)
laid_filed ℓ f k g is js n o =
    record {
      has = λ (m : ℕ). ap (λ (x : Bool). eqb k m || x) (o.has m) ∙ swap (eqb k m) (eqb ℓ m) (has_in m is);
      find = λ (m : ℕ). ap (λ (x : List (List ℕ)). (if eqb k m then g else x)) (o.find m) ∙ sided m (eqb k m) refl (eqb ℓ m) refl;
      live = (let e = o.live in omega arith);
      proper = λ (h : proper_in (filed k g ∷ is) ≡ true).
          not_and_true (has_in k js) (proper_in js)
          (o.has k ∙ ap (λ (x : Bool). x || has_in k is) (flip k ℓ n) ∙ not-true (has_in k is) (and_l (not (has_in k is)) (proper_in is) h))
          (o.proper (and_r (not (has_in k is)) (proper_in is) h));
      good = λ (fault : Judgement) (h : Good fault (filed k g ∷ is)) (r : Right fault (filed ℓ f)). (h.0, o.good fault h.1 r);
    }
  where
    sided : (m : ℕ) (a : Bool) → eqb k m ≡ a → (b : Bool) → eqb ℓ m ≡ b → (if a then g else if b then f else find_in m is) ≡ (if b then f else if a then g else find_in m is)
    sided m true x true y = absurd (eqb-false k ℓ n (eqb-true k m x ∙ sym (eqb-true ℓ m y)))
    sided m true x false y = refl
    sided m false x true y = refl
    sided m false x false y = refl

-- into a run
pub laid : (ℓ : ℕ) (f : List (List ℕ)) (is : List Item) → has_in ℓ is ≡ false → fits_in (length f) is ≡ true → Laid ℓ f is (laid_in ℓ f is)
laid ℓ f [] n h = absurd (not_both h refl)
laid ℓ f (i ∷ is) n h = go (blank_run (length f) (i ∷ is)) refl (laid ℓ f is)
  where
    after : (i : Item) → has_in ℓ (i ∷ is) ≡ false → (has_in ℓ is ≡ false → Laid ℓ f is (laid_in ℓ f is)) → Laid ℓ f (i ∷ is) (i ∷ laid_in ℓ f is)
    after blank n r = laid_blank ℓ f is (laid_in ℓ f is) (r n)
    after (dead p) n r = laid_dead ℓ f p is (laid_in ℓ f is) (r n)
    after (filed k g) n r = laid_filed ℓ f k g is (laid_in ℓ f is) (or_l (eqb k ℓ) (has_in ℓ is) n) (r (or_r (eqb k ℓ) (has_in ℓ is) n))
    after (junk p) n r = laid_junk ℓ f p is (laid_in ℓ f is) (r n)

    go : (t : Bool) → blank_run (length f) (i ∷ is) ≡ t → (has_in ℓ is ≡ false → fits_in (length f) is ≡ true → Laid ℓ f is (laid_in ℓ f is)) → Laid ℓ f (i ∷ is) (laid_in ℓ f (i ∷ is))
    go true q r =
        let o = run_of (length f) (i ∷ is) q in
        let D = drop (length f) (i ∷ is) in
        let w : Laid ℓ f (i ∷ is) (filed ℓ f ∷ D) = record {
          has = λ (m : ℕ). ap (λ (x : Bool). eqb ℓ m || x) (o.has m);
          find = λ (m : ℕ). ap (λ (x : List (List ℕ)). (if eqb ℓ m then f else x)) (o.find m);
          live = (let e = o.live in omega arith);
          proper = λ (p : proper_in (i ∷ is) ≡ true). not_and_true (has_in ℓ D) (proper_in D) (o.has ℓ ∙ n) (o.proper ∙ p);
          good = λ (fault : Judgement) (g : Good fault (i ∷ is)) (s : Right fault (filed ℓ f)). (s, o.good fault g);
        } in
        subst (λ (x : List Item). Laid ℓ f (i ∷ is) x) (sym (if_true (blank_run (length f) (i ∷ is)) (filed ℓ f ∷ D) (i ∷ laid_in ℓ f is) q)) w
    go false q r =
        let e : fits_in (length f) is ≡ true = sym (ap (λ (x : Bool). x || fits_in (length f) is) q) ∙ h in
        subst (λ (x : List Item). Laid ℓ f (i ∷ is) x) (sym (if_false (blank_run (length f) (i ∷ is)) (filed ℓ f ∷ drop (length f) (i ∷ is)) (i ∷ laid_in ℓ f is) q))
        (after i n (λ (z : has_in ℓ is ≡ false). r z e))

-- by a slide
frees : (k : ℕ) (m : ℕ) → (has_in m (replicate k blank) ≡ false) × (find_in m (replicate k blank) ≡ []) × (live_in (replicate k blank) ≡ 0) × (proper_in (replicate k blank) ≡ true)
frees zero m = (refl, refl, refl, refl)
frees (suc k) m = frees k m

frees_good : (fault : Judgement) (k : ℕ) → Good fault (replicate k blank)
frees_good fault zero = tt
frees_good fault (suc k) = (tt, frees_good fault k)

frees_size : (k : ℕ) → length (places_of (replicate k blank)) ≡ k
frees_size zero = refl
frees_size (suc k) = ap suc (frees_size k)

pub slid : (ℓ : ℕ) (f : List (List ℕ)) (k : ℕ) (is : List Item) → has_in ℓ is ≡ false → Laid ℓ f is (files_of is ++ (filed ℓ f ∷ replicate k blank))
slid ℓ f k [] n =
    record {
      has = λ (m : ℕ). ap (λ (x : Bool). eqb ℓ m || x) (frees k m).0;
      find = λ (m : ℕ). ap (λ (x : List (List ℕ)). (if eqb ℓ m then f else x)) (frees k m).1;
      live = (let e = (frees k 0).2 in omega arith);
      proper = λ (h : true ≡ true). not_and_true (has_in ℓ (replicate k blank)) (proper_in (replicate k blank)) (frees k ℓ).0 (frees k ℓ).3;
      good = λ (fault : Judgement) (g : Unit {0}) (r : Right fault (filed ℓ f)). (r, frees_good fault k);
    }
slid ℓ f k (blank ∷ is) n =
    let o = slid ℓ f k is n in
    record { has = o.has; find = o.find; live = o.live; proper = o.proper; good = λ (fault : Judgement) (g : Good fault (blank ∷ is)) (r : Right fault (filed ℓ f)). o.good fault g.1 r }
slid ℓ f k (dead p ∷ is) n =
    let o = slid ℓ f k is n in
    record { has = o.has; find = o.find; live = o.live; proper = o.proper; good = λ (fault : Judgement) (g : Good fault (dead p ∷ is)) (r : Right fault (filed ℓ f)). o.good fault g.1 r }
slid ℓ f k (filed j g ∷ is) n = laid_filed ℓ f j g is (files_of is ++ (filed ℓ f ∷ replicate k blank)) (or_l (eqb j ℓ) (has_in ℓ is) n) (slid ℓ f k is (or_r (eqb j ℓ) (has_in ℓ is) n))
slid ℓ f k (junk p ∷ is) n =
    let o = slid ℓ f k is n in
    record { has = o.has; find = o.find; live = o.live; proper = λ (h : false ≡ true). absurd (not_both h refl); good = λ (fault : Judgement) (g : Good fault (junk p ∷ is)) (r : Right fault (filed ℓ f)). o.good fault g.1 r }

-- ---- how many places
pub laid_size : (ℓ : ℕ) (f : List (List ℕ)) (is : List Item) → fits_in (length f) is ≡ true → length (places_of (laid_in ℓ f is)) ≡ length (places_of is)
laid_size ℓ f [] h = absurd (not_both h refl)
laid_size ℓ f (i ∷ is) h = go (blank_run (length f) (i ∷ is)) refl (laid_size ℓ f is)
  where
    after : (i : Item) → length (places_of (laid_in ℓ f is)) ≡ length (places_of is) → length (places_of (i ∷ laid_in ℓ f is)) ≡ length (places_of (i ∷ is))
    after blank r = ap suc r
    after (dead p) r = ap suc r
    after (filed k g) r = length-append g (places_of (laid_in ℓ f is)) ∙ ap (λ (n : ℕ). length g + n) r ∙ sym (length-append g (places_of is))
    after (junk p) r = ap suc r

    go : (t : Bool) → blank_run (length f) (i ∷ is) ≡ t → (fits_in (length f) is ≡ true → length (places_of (laid_in ℓ f is)) ≡ length (places_of is))
        → length (places_of (laid_in ℓ f (i ∷ is))) ≡ length (places_of (i ∷ is))
    go true q r =
        let o = (run_of (length f) (i ∷ is) q).size in
        let D = drop (length f) (i ∷ is) in
        ap (λ (x : List Item). length (places_of x)) (if_true (blank_run (length f) (i ∷ is)) (filed ℓ f ∷ D) (i ∷ laid_in ℓ f is) q)
        ∙ length-append f (places_of D) ∙ (let z : length f + length (places_of D) ≡ length (places_of (i ∷ is)) = omega arith in z)
    go false q r =
        let e : fits_in (length f) is ≡ true = sym (ap (λ (x : Bool). x || fits_in (length f) is) q) ∙ h in
        ap (λ (x : List Item). length (places_of x)) (if_false (blank_run (length f) (i ∷ is)) (filed ℓ f ∷ drop (length f) (i ∷ is)) (i ∷ laid_in ℓ f is) q) ∙ after i (r e)

pub slid_size : (N ℓ : ℕ) (f : List (List ℕ)) (is : List Item) → live_in is + length f ≤ N → length (places_of (slid_in N ℓ f is)) ≡ N
slid_size N ℓ f is h = size is (N - (live_in is + length f)) ∙ (let z : live_in is + (length f + (N - (live_in is + length f))) ≡ N = omega arith in z)
  where
    size : (is : List Item) (k : ℕ) → length (places_of (files_of is ++ (filed ℓ f ∷ replicate k blank))) ≡ live_in is + (length f + k)
    size [] k = let e = frees_size k in length-append f (places_of (replicate k blank)) ∙ (let z : length f + length (places_of (replicate k blank)) ≡ 0 + (length f + k) = omega arith in z)
    size (blank ∷ is) k = size is k
    size (dead p ∷ is) k = size is k
    size (filed m g ∷ is) k =
        let r = size is k in let X = places_of (files_of is ++ (filed ℓ f ∷ replicate k blank)) in
        length-append g X ∙ (let z : length g + length X ≡ (length g + live_in is) + (length f + k) = omega arith in z)
    size (junk p ∷ is) k = size is k

pub live_within : (is : List Item) → live_in is ≤ length (places_of is)
live_within [] = omega arith
live_within (blank ∷ is) = let r = live_within is in omega arith
live_within (dead p ∷ is) = let r = live_within is in omega arith
live_within (filed m f ∷ is) = let r = live_within is in let e = length-append f (places_of is) in omega arith
live_within (junk p ∷ is) = let r = live_within is in omega arith

-- a run long enough is never there without room
pub run_room : (ℓ : ℕ) (f : List (List ℕ)) (is : List Item) → has_in ℓ is ≡ false → fits_in (length f) is ≡ true → live_in is + length f ≤ length (places_of is)
run_room ℓ f is n h =
    let a = (laid ℓ f is n h).live in let b = laid_size ℓ f is h in let c = live_within (laid_in ℓ f is) in omega arith

-- ---- an add
pub added : (N ℓ : ℕ) (f : List (List ℕ)) (is : List Item) → Laid ℓ f (without ℓ is) (added_in N ℓ f is)
unfolding added_in
added N ℓ f is = go (run_for ℓ f is) refl
  where
    go : (t : Bool) → run_for ℓ f is ≡ t → Laid ℓ f (without ℓ is) (if t then laid_in ℓ f (without ℓ is) else slid_in N ℓ f (without ℓ is))
    go true q = laid ℓ f (without ℓ is) (without_dead ℓ is) q
    go false q = slid ℓ f (N - (live_in (without ℓ is) + length f)) (without ℓ is) (without_dead ℓ is)

pub added_size : (N ℓ : ℕ) (f : List (List ℕ)) (is : List Item) → length (places_of is) ≡ N → no_room N ℓ f is ≡ false → length (places_of (added_in N ℓ f is)) ≡ N
unfolding added_in no_room
added_size N ℓ f is e r = go (run_for ℓ f is) refl
  where
    go : (t : Bool) → run_for ℓ f is ≡ t → length (places_of (if t then laid_in ℓ f (without ℓ is) else slid_in N ℓ f (without ℓ is))) ≡ N
    go true q = laid_size ℓ f (without ℓ is) q ∙ without_size ℓ is ∙ e
    go false q = slid_size N ℓ f (without ℓ is) (ltb-false N (live_in (without ℓ is) + length f) r)
