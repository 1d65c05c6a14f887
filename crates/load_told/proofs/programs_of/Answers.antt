-- `load_told::programs_of` meets its contract.
use Rattle.load_told.proofs.programs_of.Goals as goal

pub returns : goal.returns
returns c = simp (c.less.ensures, c.erase_cost.ensures, c.less-rest.ensures, c.least-m.ensures)
