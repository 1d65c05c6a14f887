-- `c_recording::units_for` meets its contract.
use mathlib.Core.Path.{sym, ◌∙◌}
use native.Mathlib.Omega.{arith}
use Rattle.c_recording.proofs.units_for.Goals as goal

pub returns-then-is_timed : goal.returns-then-is_timed
returns-then-is_timed c = λ h. (c.units_of.ensures, sym c.is_timed.ensures ∙ c.if-is_timed.true)

pub returns : goal.returns
returns c = λ h. absurd (omega (arith, h))
