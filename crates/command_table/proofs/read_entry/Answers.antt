use mathlib.Core.Path.{refl}
use Rattle.command_table.specs.Table.{command_table}
use Rattle.command_table.specs.Actions.{entry_in}
use Rattle.command_table.proofs.read_entry.Goals as goal

pub returns : goal.returns
unfolding entry_in command_table
returns c = refl
