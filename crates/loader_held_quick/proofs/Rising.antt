-- What interruptions add to an erase, by a walk over a list in which each poll is above the one before it: one poll more adds its own cost.
use mathlib.Core.Path.{◌≡◌, refl, sym, ap, ◌∙◌}
use mathlib.Core.Bool.{Bool, true, false, ◌||◌}
use mathlib.Core.List.{List, [], ◌∷◌, ◌++◌}
use Prim.Native.Nat.{ℕ, zero, suc, ◌+◌, ◌-◌, ◌*◌, ◌≤◌, ◌<◌}
use native.Mathlib.Nat.{zero-add}
use native.Mathlib.Omega.{arith}
use lib.ListN.{length, get_or, take}
use lib.Seq.{take-suc}
use lib.Dec.{eqb, ltb}
use borrow.Author.Tests.{eq-eqb, ne_eqb, eqb-true, eqb-false, ltb-true, ltb-false}
use Rattle.std.specs.Prelude.{if◌then◌else◌}
use Rattle.common.proofs.Choice.{if_true}
use Rattle.device.specs.declared.Device.{Device}
use Rattle.loader_held.specs.Holds.{listed}
use Rattle.loader_held_claims.specs.HeldMade.{waits_of, added_at, added_in}
use Rattle.loader_held_quick.specs.HeldQuick.{cost_at}
use Rattle.loader_held_quick.proofs.Listing.{or_true}
use Rattle.loader_held_quick.proofs.Adding.{last_is}

-- a list with one number more at its end: that one is listed, and else what was
listed_new : (qs : List ℕ) (p : ℕ) → listed p (qs ++ (p ∷ [])) ≡ true
unfolding listed
listed_new [] p = ap (λ (b : Bool). b || false) (eq-eqb p p refl)
listed_new (q ∷ qs) p = ap (λ (b : Bool). eqb q p || b) (listed_new qs p) ∙ or_true (eqb q p)

listed_old : (qs : List ℕ) (p m : ℕ) → (p ≡ m → ⊥) → listed m (qs ++ (p ∷ [])) ≡ listed m qs
unfolding listed
listed_old [] p m z = ap (λ (b : Bool). b || false) (ne_eqb p m z)
listed_old (q ∷ qs) p m z = ap (λ (b : Bool). eqb q m || b) (listed_old qs p m z)

swap : (a r : ℕ) → a + r ≡ 0 + r + a
swap a r = omega arith

regroup : (h r a : ℕ) → h + (r + a) ≡ h + r + a
regroup h r a = omega arith

module _ (d : Device) (bs : List ℕ) where
  -- with no poll listed nothing is added
  pub adds_none : (n m : ℕ) → added_in d bs [] n m ≡ 0
  unfolding listed
  adds_none n zero = refl
  adds_none n (suc m) = zero-add (added_in d bs [] (n + 1) m) ∙ adds_none (n + 1) m

  -- lists that list the same polls of the erase
  added_same : (ps qs : List ℕ) (m n : ℕ) → ((x : ℕ) → n < x → x ≤ n + m → listed x ps ≡ listed x qs) → added_in d bs ps n m ≡ added_in d bs qs n m
  added_same ps qs zero n h = refl
  added_same ps qs (suc m) n h =
      let e : listed (n + 1) ps ≡ listed (n + 1) qs = h (n + 1) (omega arith) (omega arith) in
      let f : added_in d bs ps (n + 1) m ≡ added_in d bs qs (n + 1) m = added_same ps qs m (n + 1) (λ x p q. h x (omega arith) (omega arith)) in
      λ i. (if e i then added_at d bs m else 0) + f i

  module _ (qs : List ℕ) (p : ℕ) (o : listed p qs ≡ false) where
    abbrev P : List ℕ
    P = qs ++ (p ∷ [])

    -- one poll more, with t polls to come after it
    added_one : (m n t : ℕ) → n < p → p + t ≡ n + m → added_in d bs P n m ≡ added_in d bs qs n m + added_at d bs t
    added_one zero n t h e = absurd (let y : ⊥ = omega arith in y)
    added_one (suc m) n t h e = go (eqb (n + 1) p) refl (λ g. added_one m (n + 1) t g (omega (arith, e)))
      where
        go : (b : Bool) → eqb (n + 1) p ≡ b → (n + 1 < p → added_in d bs P (n + 1) m ≡ added_in d bs qs (n + 1) m + added_at d bs t)
            → (if listed (n + 1) P then added_at d bs m else 0) + added_in d bs P (n + 1) m ≡ (if listed (n + 1) qs then added_at d bs m else 0) + added_in d bs qs (n + 1) m + added_at d bs t
        go true q ih =
            let a : n + 1 ≡ p = eqb-true (n + 1) p q in
            let y : listed (n + 1) P ≡ true = ap (λ (x : ℕ). listed x P) a ∙ listed_new qs p in
            let z : listed (n + 1) qs ≡ false = ap (λ (x : ℕ). listed x qs) a ∙ o in
            let s : added_in d bs P (n + 1) m ≡ added_in d bs qs (n + 1) m = added_same P qs m (n + 1) (λ x f g. listed_old qs p x (λ (w : p ≡ x). omega arith)) in
            let k : t ≡ m = omega (arith, a, e) in
            (λ i. (if y i then added_at d bs m else 0) + s i)
            ∙ swap (added_at d bs m) (added_in d bs qs (n + 1) m)
            ∙ sym (λ i. (if z i then added_at d bs m else 0) + added_in d bs qs (n + 1) m + added_at d bs (k i))
        go false q ih =
            let a = eqb-false (n + 1) p q in
            let y : listed (n + 1) P ≡ listed (n + 1) qs = listed_old qs p (n + 1) (λ (w : p ≡ n + 1). a (sym w)) in
            let g : n + 1 < p = below a in
            (λ i. (if y i then added_at d bs m else 0) + ih g i) ∙ regroup (if listed (n + 1) qs then added_at d bs m else 0) (added_in d bs qs (n + 1) m) (added_at d bs t)
          where
            below : (n + 1 ≡ p → ⊥) → n + 1 < p
            below a = omega arith

-- what the polls of a list add with one more that is above all of them
pub rising_adds : (d : Device) (bs qs : List ℕ) (n p e : ℕ) → ((m : ℕ) → n < m → listed m qs ≡ false) → n < p
    → added_in d bs (qs ++ (p ∷ [])) 0 e ≡ added_in d bs qs 0 e + (if ltb e p then 0 else cost_at d.suspend (length bs) (eqb p e))
unfolding cost_at
rising_adds d bs qs n p e f h = go (ltb e p) refl
  where
    go : (b : Bool) → ltb e p ≡ b
        → added_in d bs (qs ++ (p ∷ [])) 0 e ≡ added_in d bs qs 0 e + (if b then 0 else length bs + 3 + (if eqb p e then 0 else waits_of d.suspend))
    go true q =
        let l : e < p = ltb-true e p q in
        added_same d bs (qs ++ (p ∷ [])) qs e 0 (λ x a b. listed_old qs p x (λ (w : p ≡ x). omega arith)) ∙ (let z : added_in d bs qs 0 e ≡ added_in d bs qs 0 e + 0 = omega arith in z)
    go false q =
        let l : p ≤ e = ltb-false e p q in
        added_one d bs qs p (f p h) e 0 (e - p) (omega arith) (omega arith)
        ∙ ap (λ (b : Bool). added_in d bs qs 0 e + (length bs + 3 + (if b then 0 else waits_of d.suspend))) (last_is p e l)

-- .. and all of them together add no more than so much for each cycle of the erase
pub capped : (added c n p e cost : ℕ) → c ≡ (if ltb e p then 0 else cost) → c ≤ 131072 → n < p → added ≤ n * 131072 → added ≤ e * 131072 → added + c ≤ e * 131072
capped added c n p e cost q m h f g = go (ltb e p) refl
  where
    go : (b : Bool) → ltb e p ≡ b → added + c ≤ e * 131072
    go true o = let z : c ≡ 0 = q ∙ if_true (ltb e p) 0 cost o in omega arith
    go false o = let l : p ≤ e = ltb-false e p o in omega arith

-- .. and it is the highest then
pub rising_above : (qs : List ℕ) (n p : ℕ) → ((m : ℕ) → n < m → listed m qs ≡ false) → n < p → (m : ℕ) → p < m → listed m (qs ++ (p ∷ [])) ≡ false
rising_above qs n p f h m g = listed_old qs p m (λ (w : p ≡ m). omega arith) ∙ f m (omega arith)

-- the first polls with the next one
pub take_next : (ps : List ℕ) (i : ℕ) → i < length ps → take (i + 1) ps ≡ take i ps ++ (get_or ps i 0 ∷ [])
take_next ps i h = ap (λ (n : ℕ). take n ps) (let q : i + 1 ≡ suc i = omega arith in q) ∙ take-suc ps i 0 h

pub none_listed : (m : ℕ) → listed m [] ≡ false
unfolding listed
none_listed m = refl
