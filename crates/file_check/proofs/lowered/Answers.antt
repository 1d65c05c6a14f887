use native.Mathlib.Omega.{arith}
use Rattle.file_check.proofs.lowered.Goals as goal

pub returns-then-x-ge65521 : goal.returns-then-x-ge65521
returns-then-x-ge65521 c = omega arith

pub returns : goal.returns
returns c = omega arith
