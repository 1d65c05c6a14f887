-- `recording_wear::is_recording` meets its contract.
use Rattle.recording_wear.specs.Recorded.{looks_recorded}
use Rattle.recording_wear.proofs.is_recording.Goals as goal

pub returns : goal.returns
unfolding looks_recorded
returns c = simp c.nth.ensures
