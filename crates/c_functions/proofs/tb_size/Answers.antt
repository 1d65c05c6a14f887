use mathlib.Core.Path.{sym, ◌∙◌}
use Rattle.c_functions.specs.Geometry.{size_returned}
use Rattle.c_functions.proofs.tb_size.Goals as goal

pub returns-then-unknown_part : goal.returns-then-unknown_part
unfolding size_returned
returns-then-unknown_part c = simp (sym c.unknown_part.ensures ∙ c.if-unknown_part.true)

pub returns : goal.returns
unfolding size_returned
returns c = simp (c.size.ensures, sym c.unknown_part.ensures ∙ c.if-unknown_part.false)
