use Rattle.recording.specs.Inner.{unbarred}
use Rattle.recording.proofs.unbarred.Goals as goal

pub returns : goal.returns
unfolding unbarred
returns c = simp (c.locked.ensures, c.unsupplied.ensures, c.rp_low.ensures, c.is_write.ensures)
