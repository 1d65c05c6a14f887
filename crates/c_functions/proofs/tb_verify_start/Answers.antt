-- `c_functions::tb_verify_start` meets its contract.
use Rattle.c_steps.specs.Steps.{started_of}
use Rattle.c_functions.specs.Calls.{started_at}
use Rattle.c_functions.proofs.tb_verify_start.Goals as goal

pub returns : goal.returns
unfolding started_at started_of
returns c = c.started.ensures
