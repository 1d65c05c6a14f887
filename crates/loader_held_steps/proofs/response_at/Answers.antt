use Rattle.loader_held_steps.proofs.response_at.Reads as reads
use Rattle.loader_held_steps.proofs.response_at.Lts as lts
use Rattle.loader_held_steps.proofs.saying.Reads as saying-reads
use Rattle.loader_held_steps.proofs.response_at.Goals as goal

-- src/lib.rt:205:1
pub returns : goal.returns
returns c = simp c.saying.ensures
