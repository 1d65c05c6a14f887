-- The ways out of a cycle: refused early, refused late, or accepted.
use mathlib.Core.Path.{◌≡◌, refl, ◌∙◌}
use Prim.Native.Nat.{ℕ}
use lib.Dec.{eqb}
use borrow.Author.Tests.{ne_eqb}
use Rattle.std.specs.Prelude.{if◌then◌else◌}
use Rattle.common.proofs.Choice.{if_false}
use Rattle.common.proofs.Numbers.{given_append}
use Rattle.device.specs.declared.Device.{Device}
use Rattle.model_types.specs.declared.State.{State}
use Rattle.model_types.specs.declared.Cycle.{Cycle}
use Rattle.model_operation.specs.Settling.{settle_of}
use Rattle.model_judge.specs.Judging.{early, judge_of}
use Rattle.model_rules.specs.Cycles.{late, number_of, late_of, refused_by, accept_of, decide_of}

module _ (d : Device) (s : State) (c : Cycle) (array residue : ℕ) where
  -- the late numbers are asked only where the early ones give nothing
  pub number_split : number_of d s c array residue
      ≡ (if eqb (judge_of d s c array residue) 0 then late_of d.part (settle_of d.part s c.pins).state c else judge_of d s c array residue)
  unfolding number_of judge_of late_of
  number_split = given_append (early d s c array residue) (late d.part (settle_of d.part s c.pins).state c) refl

  pub number_early : (n : ℕ) → judge_of d s c array residue ≡ n → (n ≡ 0 → ⊥) → number_of d s c array residue ≡ n
  number_early n e z = number_split ∙ rw e (if_false (eqb n 0) _ _ (ne_eqb n 0 z))

  pub number_late : (n : ℕ) → judge_of d s c array residue ≡ 0 → late_of d.part (settle_of d.part s c.pins).state c ≡ n → number_of d s c array residue ≡ n
  number_late n e h = number_split ∙ rw e h

  -- a number that is not 0 refuses, and 0 accepts
  pub refused : (n : ℕ) → number_of d s c array residue ≡ n → (n ≡ 0 → ⊥) → decide_of d s c array residue ≡ refused_by n s
  unfolding decide_of
  refused n e z = rw e (if_false (eqb n 0) _ _ (ne_eqb n 0 z))

  pub accepted : number_of d s c array residue ≡ 0 → decide_of d s c array residue ≡ accept_of d c (settle_of d.part s c.pins)
  unfolding decide_of
  accepted e = rw e refl
