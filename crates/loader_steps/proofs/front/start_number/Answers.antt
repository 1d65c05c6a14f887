use mathlib.Core.Path.{sym, ◌∙◌}
use Rattle.loader_steps.specs.Front.{start_number, setup_number}
use Rattle.loader_steps.proofs.front.start_number.Goals as goal

pub returns-then-unknown_part : goal.returns-then-unknown_part
unfolding start_number setup_number
returns-then-unknown_part c = simp (sym c.unknown_part.ensures ∙ c.if-unknown_part.true)

pub returns : goal.returns
unfolding start_number setup_number
returns c = simp (c.setup_number.ensures, sym c.unknown_part.ensures ∙ c.if-unknown_part.false)
