-- What interruptions add, from one listed poll to the next; and whether there is one.
use mathlib.Core.Path.{◌≡◌, refl, sym, ap, ◌∙◌}
use mathlib.Core.Bool.{Bool, true, false, ◌&&◌, ◌||◌}
use mathlib.Core.List.{List}
use Prim.Native.Nat.{ℕ, zero, suc, ◌+◌, ◌-◌, ◌≤◌, ◌<◌}
use native.Mathlib.Nat.{zero-add}
use native.Mathlib.Omega.{arith}
use lib.ListN.{length}
use lib.Dec.{eqb}
use borrow.Author.Tests.{eq-eqb, ne_eqb}
use Rattle.std.specs.Prelude.{if◌then◌else◌}
use Rattle.common.proofs.Choice.{if_true, if_false}
use Rattle.device.specs.declared.Device.{Device}
use Rattle.model_types.specs.declared.Pins.{Pins}
use Rattle.loader_walk.specs.Walks.{rises_in}
use Rattle.loader_run_claims.specs.Ends.{end_number}
use Rattle.loader_held.specs.Holds.{listed}
use Rattle.loader_held_claims.specs.HeldMade.{waits_of, is_last, interrupts, added_at, added_in}
use Rattle.loader_held_claims.specs.HeldEnds.{erases, added_tried, added_by}
use Rattle.loader_held_claims.proofs.Rooms.{none_added}
use Rattle.loader_held_quick.specs.HeldQuick.{cost_at}

-- no poll is to come after the last one
pub last_is : (n e : ℕ) → n ≤ e → is_last (e - n) ≡ eqb n e
last_is n e h = go (e - n) refl
  where
    go : (k : ℕ) → e - n ≡ k → is_last k ≡ eqb n e
    go zero q = sym (eq-eqb n e (omega (arith, q, h)))
    go (suc k) q = sym (ne_eqb n e (λ (z : n ≡ e). omega arith))

module _ (d : Device) (bs ps : List ℕ) where
  -- polls that are not listed add nothing
  skip : (j t m n : ℕ) → t ≡ j + m → ((i : ℕ) → n < i → i ≤ n + j → listed i ps ≡ false) → added_in d bs ps n t ≡ added_in d bs ps (n + j) m
  skip zero t m n e h =
      let p : t ≡ m = omega (arith, e) in
      let q : n ≡ n + 0 = omega arith in
      λ i. added_in d bs ps (q i) (p i)
  skip (suc j) zero m n e h = absurd (let y : ⊥ = omega arith in y)
  skip (suc j) (suc t) m n e h =
      ap (λ (b : Bool). (if b then added_at d bs t else 0) + added_in d bs ps (n + 1) t) (h (n + 1) (omega arith) (omega arith))
      ∙ zero-add (added_in d bs ps (n + 1) t)
      ∙ skip j t m (n + 1) (omega (arith, e)) (λ i p q. h i (omega arith) (omega arith))
      ∙ ap (λ (x : ℕ). added_in d bs ps x m) (let q : n + 1 + j ≡ n + suc j = omega arith in q)

  -- up to the next one that is listed, and with it
  pub added_next : (n x e : ℕ) → n < x → x ≤ e → listed x ps ≡ true → ((i : ℕ) → n + 1 ≤ i → i < x → listed i ps ≡ false)
      → added_in d bs ps n (e - n) ≡ cost_at d.suspend (length bs) (eqb x e) + added_in d bs ps x (e - x)
  unfolding cost_at
  added_next n x e h l m f =
      skip (x - n - 1) (e - n) (suc (e - x)) n (omega arith) (λ i p q. f i (omega arith) (omega arith))
      ∙ ap (λ (y : ℕ). (if listed y ps then added_at d bs (e - x) else 0) + added_in d bs ps y (e - x)) (let q : n + (x - n - 1) + 1 ≡ x = omega arith in q)
      ∙ ap (λ (b : Bool). (if b then added_at d bs (e - x) else 0) + added_in d bs ps x (e - x)) m
      ∙ ap (λ (b : Bool). length bs + 3 + (if b then 0 else waits_of d.suspend) + added_in d bs ps x (e - x)) (last_is x e l)

  -- no more of them
  pub added_over : (n e : ℕ) → n ≤ e → ((i : ℕ) → n + 1 ≤ i → i < e + 1 → listed i ps ≡ false) → added_in d bs ps n (e - n) ≡ 0
  added_over n e l f = skip (e - n) (e - n) 0 n (omega arith) (λ i p q. f i (omega arith) (omega arith))

  pub added_all : (n e : ℕ) → e ≤ n → added_in d bs ps n (e - n) ≡ 0
  added_all n e h = ap (λ (m : ℕ). added_in d bs ps n m) (let q : e - n ≡ 0 = omega arith in q)

  -- nothing added: none is made
  pub none_made : (m n : ℕ) → added_in d bs ps n m ≡ 0 → interrupts ps n m ≡ false
  none_made zero n e = refl
  none_made (suc m) n e = go (listed (n + 1) ps) e (λ q. none_made m (n + 1) q)
    where
      go : (t : Bool) → (if t then added_at d bs m else 0) + added_in d bs ps (n + 1) m ≡ 0 → (added_in d bs ps (n + 1) m ≡ 0 → interrupts ps (n + 1) m ≡ false)
          → (t || interrupts ps (n + 1) m) ≡ false
      go true q f = absurd (let y : ⊥ = omega arith in y)
      go false q f = f (omega (arith, q))

  pub some_made : (m n : ℕ) → (added_in d bs ps n m ≡ 0 → ⊥) → interrupts ps n m ≡ true
  some_made m n z = go (interrupts ps n m) refl
    where
      go : (t : Bool) → interrupts ps n m ≡ t → interrupts ps n m ≡ true
      go true e = e
      go false e = absurd (z (none_added d bs ps m n e))

-- what is added, by whether a bit must rise and the erase can begin
module _ (d : Device) (p : Pins) (k : ℕ) (w ys bs ps : List ℕ) where
  pub added_level : rises_in w ys ≡ false → added_by d p k w ys bs ps ≡ 0
  unfolding added_by
  added_level e = if_false (rises_in w ys) _ 0 e

  pub level_erases : rises_in w ys ≡ false → erases d p k w ys ≡ false
  unfolding erases
  level_erases e = ap (λ (b : Bool). b && eqb (end_number d p k w ys) 0) e

  module _ (r : rises_in w ys ≡ true) where
    pub added_tried_lem : eqb (end_number d p k w ys) 0 ≡ false → added_by d p k w ys bs ps ≡ added_tried ps
    unfolding added_by
    added_tried_lem e = if_true (rises_in w ys) _ 0 r ∙ if_false (eqb (end_number d p k w ys) 0) (added_in d bs ps 0 d.erase) (added_tried ps) e

    pub tried_erases : eqb (end_number d p k w ys) 0 ≡ false → erases d p k w ys ≡ false
    unfolding erases
    tried_erases e = λ i. r i && e i

    pub added_begun : eqb (end_number d p k w ys) 0 ≡ true → added_by d p k w ys bs ps ≡ added_in d bs ps 0 d.erase
    unfolding added_by
    added_begun e = if_true (rises_in w ys) _ 0 r ∙ if_true (eqb (end_number d p k w ys) 0) (added_in d bs ps 0 d.erase) (added_tried ps) e

    pub begun_erases : eqb (end_number d p k w ys) 0 ≡ true → erases d p k w ys ≡ true
    unfolding erases
    begun_erases e = λ i. r i && e i
