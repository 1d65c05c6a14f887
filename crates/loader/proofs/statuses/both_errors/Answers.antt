use Rattle.loader.specs.Statuses.{both_errors}
use Rattle.loader.proofs.statuses.both_errors.Goals as goal

pub returns : goal.returns
unfolding both_errors
returns c = simp (c.erase_error.ensures, c.program_error.ensures)
