-- `recording_wear::judged` meets its contract.
use Rattle.recording_wear.specs.Recorded.{judged_blank}
use Rattle.recording_wear.proofs.judged.Goals as goal

pub returns : goal.returns
unfolding judged_blank
returns c = c.judge.ensures.result
