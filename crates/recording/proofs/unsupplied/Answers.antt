use Rattle.model_actions.specs.Performed.{unsupplied}
use Rattle.recording.proofs.unsupplied.Goals as goal

pub returns : goal.returns
unfolding unsupplied
returns c = simp c.vpp_low.ensures
