-- What is known of a cycle that nothing refuses, and of a proper state.
use mathlib.Core.Path.{◌≡◌, refl, sym, ◌∙◌}
use mathlib.Core.Bool.{false, ◌||◌}
use Prim.Native.Nat.{ℕ}
use lib.Dec.{eqb}
use borrow.Author.Tests.{eqb-true, not-false}
use Rattle.common.proofs.Choice.{or_left, or_right}
use Rattle.common.proofs.Numbers.{given_no_row, no_head, no_tail}
use Rattle.device.specs.declared.Device.{Device}
use Rattle.device.specs.Parts.{unknown_device, size_of}
use Rattle.model_types.specs.declared.State.{State}
use Rattle.model_types.specs.declared.Cycle.{Cycle}
use Rattle.model_levels.specs.Levels.{bad_levels}
use Rattle.model_states.specs.States.{improper}
use Rattle.model_states.specs.Inner.{bad_mode, bad_status, bad_left, bad_address}
use Rattle.model_states.proofs.Proper.{improper_parts}
use Rattle.model_operation.specs.Settling.{settle_of}
use Rattle.model_rules.specs.Cycles.{table_of, number_of, no_command, suspended_read, no_identifier}
use Rattle.model_judge.specs.Judging.{past_array, short_residue}

-- a proper state, part by part
pub record Proper (d : Device) (s : State) : Type 0 where
  pub mode : bad_mode s.phase s.mode ≡ false
  pub status : bad_status s.phase s.status ≡ false
  pub left : bad_left d s.phase s.left ≡ false
  pub address : bad_address d s.phase s.address ≡ false

pub proper_parts : (d : Device) (s : State) → improper d s ≡ false → Proper d s
proper_parts d s h =
    let a = bad_mode s.phase s.mode in
    let b = bad_status s.phase s.status in
    let l = bad_left d s.phase s.left in
    let m = bad_address d s.phase s.address in
    let e : (((a || b) || l) || m) ≡ false = sym (improper_parts d s) ∙ h in
    record {
      mode = or_left a b (or_left (a || b) l (or_left ((a || b) || l) m e));
      status = or_right a b (or_left (a || b) l (or_left ((a || b) || l) m e));
      left = or_right (a || b) l (or_left ((a || b) || l) m e);
      address = or_right ((a || b) || l) m e;
    }

pub parts_proper : (d : Device) (s : State) → Proper d s → improper d s ≡ false
parts_proper d s p = improper_parts d s ∙ simp (p.mode, p.status, p.left, p.address)

-- none of the nine numbers applies
pub record Fine (d : Device) (s : State) (c : Cycle) (array residue : ℕ) : Type 0 where
  pub known : unknown_device d ≡ false
  pub sized : array ≡ size_of d.part
  pub proper : Proper d s
  pub levels : bad_levels d.part c ≡ false
  pub inside : past_array d.part c ≡ false
  pub enough : short_residue d.part s c residue ≡ false
  pub command : no_command d.part (settle_of d.part s c.pins).state c ≡ false
  pub reading : suspended_read d.part (settle_of d.part s c.pins).state c ≡ false
  pub naming : no_identifier d.part (settle_of d.part s c.pins).state c ≡ false

pub fine : (d : Device) (s : State) (c : Cycle) (array residue : ℕ) → number_of d s c array residue ≡ 0 → Fine d s c array residue
unfolding number_of
fine d s c array residue e =
    let r = given_no_row (table_of d s c array residue) refl e in
    let r2 = no_tail r in
    let r3 = no_tail r2 in
    let r4 = no_tail r3 in
    let r5 = no_tail r4 in
    let r6 = no_tail r5 in
    let r7 = no_tail r6 in
    let r8 = no_tail r7 in
    let r9 = no_tail r8 in
    record {
      known = no_head r;
      sized = eqb-true array (size_of d.part) (not-false (eqb array (size_of d.part)) (no_head r2));
      proper = proper_parts d s (no_head r3);
      levels = no_head r4;
      inside = no_head r5;
      enough = no_head r6;
      command = no_head r7;
      reading = no_head r8;
      naming = no_head r9;
    }
