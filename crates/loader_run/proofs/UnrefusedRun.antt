-- What is known of a run that nothing refuses.
use mathlib.Core.Path.{◌≡◌, refl}
use mathlib.Core.Bool.{false, not}
use Prim.Native.Nat.{ℕ, ◌≤◌}
use native.Mathlib.Omega.{arith}
use lib.Dec.{eqb}
use borrow.Author.Tests.{eqb-true, not-false}
use Rattle.common.proofs.Choice.{or_left, or_right}
use Rattle.common.proofs.Numbers.{given_no_row, no_head, no_tail}
use Rattle.device.specs.declared.Device.{Device}
use Rattle.device.specs.Parts.{unknown_device, size_of, length_of}
use Rattle.model_rules.proofs.Facts.{Proper, proper_parts}
use Rattle.loader_steps.specs.Front.{barred_pins, no_block, wrong_lengths}
use Rattle.loader_steps.proofs.SmallAddresses.{length_small}
use Rattle.loader_run.specs.Runs.{run_rows, run_number, run_first}
use Rattle.model_types.specs.Phases.{under_way}
use Rattle.loader_run.specs.declared.Job.{Job}

pub record Good (j : Job) (array w sc : ℕ) : Type 0 where
  pub known : unknown_device j.device ≡ false
  pub sized : array ≡ size_of j.device.part
  pub proper : Proper j.device j.state
  pub levels : barred_pins j.device.part j.pins ≡ false
  pub block : no_block j.device.part j.block ≡ false
  pub wanted : w ≡ length_of j.device.part j.block
  pub scratch : sc ≡ length_of j.device.part j.block
  pub free : under_way j.state.phase ≡ false

same_lengths : (d : Device) (k w sc : ℕ) → wrong_lengths d.part k w sc ≡ false → (w ≡ length_of d.part k) × (sc ≡ length_of d.part k)
unfolding wrong_lengths
same_lengths d k w sc e =
    let a = eqb w (length_of d.part k) in
    let b = eqb sc (length_of d.part k) in
    (eqb-true w _ (not-false a (or_left (not a) (not b) e)), eqb-true sc _ (not-false b (or_right (not a) (not b) e)))

pub good : (j : Job) (array w sc : ℕ) → run_number j array w sc ≡ 0 → Good j array w sc
unfolding run_first
good j array w sc e =
    let r = given_no_row (run_rows j array w sc) refl e in
    let r2 = no_tail r in
    let r3 = no_tail r2 in
    let r4 = no_tail r3 in
    let r5 = no_tail r4 in
    let r6 = no_tail r5 in
    let r7 = no_tail r6 in
    record {
      known = no_head r;
      sized = eqb-true array (size_of j.device.part) (not-false (eqb array (size_of j.device.part)) (no_head r2));
      proper = proper_parts j.device j.state (no_head r3);
      levels = no_head r4;
      block = no_head r5;
      wanted = (same_lengths j.device j.block w sc (no_head r6)).0;
      scratch = (same_lengths j.device j.block w sc (no_head r6)).1;
      free = no_head r7;
    }

pub short : (j : Job) (array w sc : ℕ) → run_number j array w sc ≡ 0 → w ≤ 524288
short j array w sc e = omega (arith, (good j array w sc e).wanted, length_small j.device.part j.block)
