use Rattle.c_functions.specs.Calls.{wear_added}
use Rattle.c_functions.proofs.tb_wear_add.Goals as goal

pub returns : goal.returns
unfolding wear_added
returns c =
    simp (c.reported_out.ensures, c.add_to-after.ensures, c.wear_in-counts.ensures, c.report_in-before.ensures)
