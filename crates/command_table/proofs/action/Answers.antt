use Rattle.model_commands.specs.Commands.{command_of}
use Rattle.command_table.proofs.Rule.{at_any_cycle}
use Rattle.command_table.proofs.action.Goals as goal

pub returns : goal.returns
unfolding command_of
returns c =
    let a = c.args in
    simp (c.action_for.ensures, c.entry.ensures, c.row_of.ensures) (at_any_cycle a.part a.ph a.c)
