use mathlib.Core.Path.{sym}
use Rattle.model_states.proofs.Proper.{improper_parts}
use Rattle.model_states.proofs.improper.Goals as goal

pub returns : goal.returns
returns c =
    simp (c.bad_address.ensures, c.bad_left.ensures, c.bad_status.ensures, c.bad_mode.ensures)
    (sym (improper_parts _ _))
