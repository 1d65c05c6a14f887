-- `loader_steps::outs::out` meets its contract.
use Rattle.loader_steps.proofs.outs.out.Goals as goal

pub here-requires : goal.here-requires
here-requires c = c.first-a.ensures

pub returns : goal.returns
returns c = simp (c.cycle_in.ensures, c.here.ensures, c.first-a.ensures)
