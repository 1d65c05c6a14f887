-- The walk over numbers read as records comes to the numbers of the check's answer.
use mathlib.Core.Path.{◌≡◌, refl, ap, ◌∙◌}
use mathlib.Core.List.{List, [], ◌∷◌, ◌++◌}
use Prim.Native.Nat.{ℕ, suc, ◌≤◌}
use lib.ListN.{length}
use Rattle.recording.specs.declared.Noted.{Noted}
use Rattle.recording_walk.specs.declared.Walk.{Walk}
use Rattle.recording_walk.specs.declared.Checked.{Checked}
use Rattle.recording_walk.specs.Inner.{most, went_over, bytes_over, walk_from, end_of}
use Rattle.recording_walk.proofs.Going.{answers}
use Rattle.c_cycle.specs.declared.DeviceNumbers.{DeviceNumbers}
use Rattle.c_cycle.specs.declared.StateNumbers.{StateNumbers}
use Rattle.c_cycle.specs.Values.{device_in, state_in}
use Rattle.c_recording.specs.declared.RecordNumbers.{RecordNumbers}
use Rattle.c_recording.specs.declared.CheckedNumbers.{CheckedNumbers}
use Rattle.c_recording.specs.Records.{record_in, records_in, checked_out, checked_returned, array_checked}

-- as many records as structs of numbers, and one more at the end of either list
pub records_length : (ns : List RecordNumbers) → length (records_in ns) ≡ length ns
records_length [] = refl
records_length (n ∷ ns) = ap suc (records_length ns)

pub records_snoc : (ns : List RecordNumbers) (n : RecordNumbers) → records_in (ns ++ (n ∷ [])) ≡ records_in ns ++ (record_in n ∷ [])
records_snoc [] n = refl
records_snoc (x ∷ ns) n = ap (λ (rs : List Noted). record_in x ∷ rs) (records_snoc ns n)

-- at the end of the list
module _ (d : DeviceNumbers) (s : StateNumbers) (ns : List RecordNumbers) (promised bytes : List ℕ) where
  abbrev w : Walk
  w = walk_from (device_in d) (state_in s) (length bytes)

  pub checked_returned_lem : length (records_in ns) ≤ most → (g : CheckedNumbers)
      → g ≡ checked_out s (end_of (went_over bytes w (records_in ns)) promised (bytes_over bytes w (records_in ns))) → g ≡ checked_returned d s ns promised bytes
  unfolding checked_returned
  checked_returned_lem few g e = e ∙ ap (λ (c : Checked). checked_out s c) (answers (device_in d) (state_in s) (records_in ns) promised bytes few).0

  pub array_returned : length (records_in ns) ≤ most → (l : List ℕ) → l ≡ bytes_over bytes w (records_in ns) → l ≡ array_checked d s ns bytes
  unfolding array_checked
  array_returned few l e = e ∙ (answers (device_in d) (state_in s) (records_in ns) promised bytes few).1
