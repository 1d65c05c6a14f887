use native.Mathlib.Omega.{arith}
use Rattle.units.proofs.next_byte.Goals as goal

pub returns-then-high : goal.returns-then-high
returns-then-high c = simp c.if-high.true

pub returns : goal.returns
returns c = simp c.if-high.false (omega arith)
