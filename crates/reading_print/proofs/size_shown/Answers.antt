use Rattle.std.proofs.Common.{sym, ◌∙◌}
use Rattle.reading_print.specs.Texts.{size_shown}
use Rattle.reading_print.proofs.size_shown.Goals as goal

pub returns-then-is_under : goal.returns-then-is_under
unfolding size_shown
returns-then-is_under c = simp (sym c.is_under.ensures ∙ c.if-is_under.true)

pub returns : goal.returns
unfolding size_shown
returns c = simp (sym c.is_under.ensures ∙ c.if-is_under.false)
