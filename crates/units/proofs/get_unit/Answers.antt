use native.Mathlib.Omega.{arith}
use mathlib.Core.Path.{◌∙◌}
use Rattle.units.proofs.get_unit.Goals as goal

pub returns-then-word : goal.returns-then-word
returns-then-word c = simp c.if-word.true (c.get_word.ensures, omega arith)

pub returns : goal.returns
returns c = simp c.if-word.false (c.wide.ensures.0 ∙ c.nth.ensures, omega (arith, c.wide.ensures.0, c.wide.ensures.1))
