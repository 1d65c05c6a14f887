-- `recording_replay::cuts` meets its contract.
use Rattle.recording.specs.Recordings.{cuts_off}
use Rattle.recording_replay.proofs.cuts.Goals as goal

pub returns : goal.returns
unfolding cuts_off
returns c = simp (c.vpp_low.ensures, c.rp_low.ensures, c.is_pending.ensures)
