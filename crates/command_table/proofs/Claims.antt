-- What the board designer's table is: the command rules, entry by entry.
use mathlib.Core.Path.{◌≡◌}
use mathlib.Core.Bool.{true}
use Prim.Native.Nat.{ℕ, ◌+◌, ◌*◌, ◌/◌, ◌%◌, ◌<◌}
use Rattle.device.specs.declared.Part.{Part}
use Rattle.model_types.specs.declared.Phase.{Phase}
use Rattle.model_types.specs.declared.Cycle.{Cycle}
use Rattle.model_commands.specs.Commands.{command_of, action_of}
use Rattle.command_table.specs.Table.{command_table}
use Rattle.command_table.specs.Actions.{row_of, phase_at, action_for, entry_in, entry_at, each, line_follows}
use Rattle.command_table.proofs.Rule.{all_lines, at_any_part, at_any_cycle}

-- one test over the table: each of its lines has 16 entries, and each entry follows its rule
pub every_entry : each line_follows 0 command_table ≡ true
every_entry = all_lines

-- each of the 1,792 entries, for every part, asks for what the command rules ask: the state is the line's, the byte the line's and column's
pub each_entry : (part : Part) (line column : ℕ) → line < 112 → column < 16
    → action_for part (entry_in line column) ≡ action_of part (phase_at (line / 16)) (line % 16 * 16 + column)
each_entry = at_any_part

-- for every part, phase and cycle the table's action is the action of the command rules
pub table_is_rule : (part : Part) (ph : Phase) (c : Cycle) → action_for part (entry_at (row_of ph) (command_of c)) ≡ action_of part ph (command_of c)
table_is_rule = at_any_cycle
