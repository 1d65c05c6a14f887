-- A call's answer, way by way, and the run in the front of the rooms lent.
use mathlib.Core.Path.{◌≡◌, sym, ◌∙◌}
use mathlib.Core.Bool.{true, false}
use mathlib.Core.List.{List}
use Prim.Native.Nat.{ℕ, ◌-◌}
use native.Mathlib.Omega.{arith}
use lib.ListN.{get_or, take}
use borrow.Rule.Slice.PartMut.{mid_of}
use Rattle.common.proofs.Choice.{if_true, if_false}
use Rattle.device.specs.declared.Device.{Device}
use Rattle.model_types.specs.declared.Pins.{Pins}
use Rattle.model_types.specs.declared.State.{State}
use Rattle.model_states.specs.States.{fresh_state}
use Rattle.loader_from_file.specs.Loads.{load_left}
use Rattle.verify_answer.specs.Answers.{numeral_of, bytes_of}
use Rattle.load_told.specs.Tellings.{pins_of, load_of, call_wrong, misused, ended_by, asked_device, told}
use Rattle.loader.specs.declared.Work.TheVariants.{Load}
use Rattle.loader_run.specs.Runs.{job_of}

module _ (count : ℕ) (xs device block f letter mode program erase w sc : List ℕ) where
  pub told_wrong : call_wrong count letter (numeral_of mode) ≡ true → misused xs w sc ≡ told count xs device block f letter mode program erase w sc
  unfolding told
  told_wrong e = sym (if_true (call_wrong count letter (numeral_of mode)) (misused xs w sc) (ended_by (asked_device device mode program erase) (numeral_of block) xs w sc f (get_or letter 0 0)) e)

  pub told_right : call_wrong count letter (numeral_of mode) ≡ false
      → ended_by (asked_device device mode program erase) (numeral_of block) xs w sc f (get_or letter 0 0) ≡ told count xs device block f letter mode program erase w sc
  unfolding told
  told_right e = sym (if_false (call_wrong count letter (numeral_of mode)) (misused xs w sc) (ended_by (asked_device device mode program erase) (numeral_of block) xs w sc f (get_or letter 0 0)) e)

-- a load in the front of the rooms lent
pub load_is : (d : Device) (k : ℕ) (xs w sc f : List ℕ) (letter n : ℕ) (s : State) (p : Pins) → n ≡ bytes_of d.part k w sc → s ≡ fresh_state → p ≡ pins_of k
    → load_left (job_of (Load true) d s p k) xs (mid_of 0 (n - 0) w) (mid_of 0 (n - 0) sc) f letter ≡ load_of d k xs w sc f letter
unfolding load_of
load_is d k xs w sc f letter n s p e g h =
    let m : n - 0 ≡ bytes_of d.part k w sc = (let z : n - 0 ≡ n = omega arith in z) ∙ e in
    λ i. load_left (job_of (Load true) d (g i) (h i) k) xs (take (m i) w) (take (m i) sc) f letter
