-- `weighed` meets its contract.
use native.Mathlib.Omega.{arith}
use Rattle.file_check.proofs.weighed.Goals as goal

pub returns : goal.returns
returns c = omega arith
