-- Every interrupted load ends, after a first number of cycles, from any input whatever.
use mathlib.Core.Path.{◌≡◌, refl, sym, ap, ◌∙◌, subst}
use mathlib.Core.Bool.{Bool, true, false}
use mathlib.Core.List.{List}
use Prim.Native.Nat.{ℕ, zero, suc, ◌+◌, ◌-◌, ◌≤◌, ◌<◌}
use native.Mathlib.Omega.{arith}
use lib.ListN.{length}
use lib.Dec.{ltb}
use borrow.Author.Tests.{ltb-true, ltb-false}
use Rattle.common.proofs.Choice.{unlike}
use Rattle.device.specs.declared.Device.{Device}
use Rattle.loader.specs.Stages.{is_ended}
use Rattle.loader_held_run.specs.HeldTurns.{HeldConfig, held_moved, held_after}
use Rattle.loader_held_run.specs.HeldRuns.{held_bound, held_driven}
use Rattle.loader_held_run.specs.HeldPromises.{HeldFirstEnd}
use Rattle.loader_held_run.proofs.HeldMeasure.{held_remains, held_bound_lem, held_some}
use Rattle.loader_held_run.proofs.HeldTurning.{ended_stays, after_going, moved_less}

-- whether such a load has ended
abbrev pub over : HeldConfig → Bool
over c = is_ended c.loader.stage

module _ (d : Device) (w bs ps : List ℕ) where
  abbrev after : ℕ → HeldConfig → HeldConfig
  after k c = held_after k d w bs ps c

  abbrev next : HeldConfig → HeldConfig
  next c = held_moved d w bs ps c

  -- the count never falls
  pub count_grows : (k : ℕ) (c : HeldConfig) → c.count ≤ (after k c).count
  count_grows zero c = omega arith
  count_grows (suc k) c = go (over c) refl (count_grows k (next c))
    where
      go : (b : Bool) → over c ≡ b → c.count + 1 ≤ (after k (next c)).count → c.count ≤ (after (suc k) c).count
      go true e h = subst (λ (x : HeldConfig). c.count ≤ x.count) (sym (ended_stays (suc k) d w bs ps c e)) (omega arith)
      go false e h = subst (λ (x : HeldConfig). c.count ≤ x.count) (sym (after_going k d w bs ps c e)) (omega arith)

  -- what any number of turns leaves is what as many cycles leave as were counted
  pub counted : (k : ℕ) (c : HeldConfig) → after k c ≡ after ((after k c).count - c.count) c
  counted zero c = ap (λ (j : ℕ). after j c) (let z : 0 ≡ c.count - c.count = omega arith in z)
  counted (suc k) c = go (over c) refl (counted k (next c)) (count_grows k (next c))
    where
      go : (b : Bool) → over c ≡ b → after k (next c) ≡ after ((after k (next c)).count - (c.count + 1)) (next c)
          → c.count + 1 ≤ (after k (next c)).count
          → after (suc k) c ≡ after ((after (suc k) c).count - c.count) c
      go true e h g = ended_stays (suc k) d w bs ps c e ∙ sym (ended_stays ((after (suc k) c).count - c.count) d w bs ps c e)
      go false e h g =
          let x = (after k (next c)).count in
          let n : suc (x - (c.count + 1)) ≡ x - c.count = omega arith in
          let m : x - c.count ≡ (after (suc k) c).count - c.count = ap (λ (y : HeldConfig). y.count - c.count) (sym (after_going k d w bs ps c e)) in
          after_going k d w bs ps c e ∙ h ∙ sym (after_going (x - (c.count + 1)) d w bs ps c e) ∙ ap (λ (j : ℕ). after j c) (n ∙ m)

  -- no load had ended before the last cycle that was counted
  pub going_before : (k j : ℕ) (c : HeldConfig) → j < (after k c).count - c.count → over (after j c) ≡ false
  going_before zero j c h = absurd (omega arith)
  going_before (suc k) zero c h = go (over c) refl
    where
      go : (b : Bool) → over c ≡ b → over c ≡ false
      go true e = absurd (let z : 0 < c.count - c.count = subst (λ (x : HeldConfig). 0 < x.count - c.count) (ended_stays (suc k) d w bs ps c e) h in omega arith)
      go false e = e
  going_before (suc k) (suc j) c h = go (over c) refl (going_before k j (next c))
    where
      go : (b : Bool) → over c ≡ b → (j < (after k (next c)).count - (c.count + 1) → over (after j (next c)) ≡ false) → over (after (suc j) c) ≡ false
      go true e rest =
          absurd (let z : suc j < c.count - c.count = subst (λ (x : HeldConfig). suc j < x.count - c.count) (ended_stays (suc k) d w bs ps c e) h in omega arith)
      go false e rest =
          let z : suc j < (after k (next c)).count - c.count = subst (λ (x : HeldConfig). suc j < x.count - c.count) (after_going k d w bs ps c e) h in
          subst (λ (x : HeldConfig). over x ≡ false) (sym (after_going j d w bs ps c e)) (rest (omega arith))

  -- as many turns as the records have left at most bring a load to its end
  pub enough : (m : ℕ) (c : HeldConfig) → held_remains c.loader c.hold (length w) (length bs) ≤ m → over (after m c) ≡ true
  enough zero c h = go (over c) refl
    where
      go : (b : Bool) → over c ≡ b → over c ≡ true
      go true e = e
      go false e = absurd (let z = held_some c.loader c.hold (length w) (length bs) e in omega arith)
  enough (suc m) c h = go (over c) refl (enough m (next c))
    where
      go : (b : Bool) → over c ≡ b → (held_remains (next c).loader (next c).hold (length w) (length bs) ≤ m → over (after m (next c)) ≡ true) → over (after (suc m) c) ≡ true
      go true e rest = subst (λ (x : HeldConfig). over x ≡ true) (sym (ended_stays (suc m) d w bs ps c e)) e
      go false e rest =
          let f = moved_less d w bs ps c e in
          subst (λ (x : HeldConfig). over x ≡ true) (sym (after_going m d w bs ps c e)) (rest (omega arith))

  -- every load ends, whatever the polls, the addresses, the records and the device's state
  pub always_ends : (c : HeldConfig) → over (held_driven d w bs ps c) ≡ true
  unfolding held_driven
  always_ends c = enough (held_bound (length w) (length bs)) c (held_bound_lem c.loader c.hold (length w) (length bs))

  -- an end that any number of turns reaches is the one that the bound reaches
  pub end_only : (k : ℕ) (c : HeldConfig) → over (after k c) ≡ true → held_driven d w bs ps c ≡ after k c
  unfolding held_driven
  end_only k c e = same k (held_bound (length w) (length bs)) c e (always_ends c)
    where
      same : (k m : ℕ) (c : HeldConfig) → over (after k c) ≡ true → over (after m c) ≡ true → after m c ≡ after k c
      same zero m c p q = ended_stays m d w bs ps c p
      same (suc k) zero c p q = sym (ended_stays (suc k) d w bs ps c q)
      same (suc k) (suc m) c p q = same k m (held_turn_of c) p q
        where
          held_turn_of : HeldConfig → HeldConfig
          held_turn_of x = after 1 x

  pub first_end : (c : HeldConfig) → c.count ≡ 0 → HeldFirstEnd d w bs ps c (held_driven d w bs ps c)
  unfolding held_driven
  first_end c z =
      let e = after (held_bound (length w) (length bs)) c in
      let n : e.count - c.count ≡ e.count = ap (λ (j : ℕ). e.count - j) z ∙ none e.count in
      record {
        reached = counted (held_bound (length w) (length bs)) c ∙ ap (λ (j : ℕ). after j c) n;
        ended = always_ends c;
        first = λ j h. going_before (held_bound (length w) (length bs)) j c (subst (λ (m : ℕ). j < m) (sym n) h);
      }
    where
      none : (x : ℕ) → x - 0 ≡ x
      none x = omega arith

  -- there is one such number
  pub first_only : (c e : HeldConfig) → HeldFirstEnd d w bs ps c e → (k : ℕ) → over (after k c) ≡ true → ((j : ℕ) → j < k → over (after j c) ≡ false) → k ≡ e.count
  first_only c e f k h g = go (ltb k e.count) refl (ltb e.count k) refl
    where
      go : (a : Bool) → ltb k e.count ≡ a → (b : Bool) → ltb e.count k ≡ b → k ≡ e.count
      go true p b q = absurd (unlike (sym h ∙ f.first k (ltb-true _ _ p)))
      go false p true q =
          absurd (unlike (sym (subst (λ (x : HeldConfig). over x ≡ true) f.reached f.ended) ∙ g e.count (ltb-true _ _ q)))
      go false p false q = let x = ltb-false k e.count p in let y = ltb-false e.count k q in omega arith
