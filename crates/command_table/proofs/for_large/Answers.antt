use mathlib.Core.Path.{sym, ◌∙◌}
use Rattle.command_table.specs.Actions.{for_large}
use Rattle.command_table.proofs.for_large.Goals as goal

pub returns-then-is_large : goal.returns-then-is_large
unfolding for_large
returns-then-is_large c = simp (sym c.is_large.ensures ∙ c.if-is_large.true)

pub returns : goal.returns
unfolding for_large
returns c = simp (sym c.is_large.ensures ∙ c.if-is_large.false)
