-- `loader_steps::front::setup_number` meets its contract.
use Rattle.loader_steps.proofs.front.setup_number.Goals as goal

pub setup_by-requires : goal.setup_by-requires
setup_by-requires c = c.length-n.ensures

pub returns : goal.returns
returns c = c.setup_by.ensures
