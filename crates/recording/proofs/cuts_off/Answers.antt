use Rattle.recording.specs.Recordings.{cuts_off}
use Rattle.recording.proofs.cuts_off.Goals as goal

pub returns : goal.returns
unfolding cuts_off
returns c = simp (c.vpp_low.ensures, c.rp_low.ensures, c.is_pending.ensures)
