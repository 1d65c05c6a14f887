use borrow.Author.Tests.{lt-ltb, le-ltb}
use Rattle.command_table.specs.Actions.{entry_at}
use Rattle.command_table.proofs.entry.Goals as goal

pub returns-then-row-gt6 : goal.returns-then-row-gt6
unfolding entry_at
returns-then-row-gt6 c = simp (lt-ltb _ _ c.if-row-gt6.true)

pub returns : goal.returns
unfolding entry_at
returns c = simp (c.read_entry.ensures, le-ltb _ _ c.if-row-gt6.false)
