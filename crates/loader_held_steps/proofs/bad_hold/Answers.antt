use Rattle.loader_held_steps.specs.HeldFront.{bad_hold}
use Rattle.loader_held_steps.proofs.bad_hold.Reads as reads
use Rattle.loader_held_steps.proofs.bad_hold.Lts as lts
use Rattle.loader_held_steps.proofs.is_fetching.Reads as is-fetching-reads
use Rattle.loader_held_steps.proofs.is_interrupting.Reads as is-interrupting-reads
use Rattle.loader_held_steps.proofs.waits_erase.Reads as waits-erase-reads
use Rattle.loader_held_steps.proofs.bad_hold.Goals as goal

-- src/lib.rt:94:1
pub returns : goal.returns
unfolding bad_hold
returns c = simp (c.is_fetching.ensures, c.waits_erase.ensures, c.is_interrupting.ensures)
