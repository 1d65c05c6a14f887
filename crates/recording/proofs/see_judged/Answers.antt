use Rattle.recording.specs.Inner.{seen_judged}
use Rattle.recording.proofs.see_judged.Goals as goal

pub returns : goal.returns
unfolding seen_judged
returns c = simp (c.see.ensures.result, c.decide_judged-x.ensures)
