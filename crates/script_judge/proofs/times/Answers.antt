-- `script_judge::times` meets its contract.
use native.Mathlib.Nat.{mul-le-mul}
use native.Mathlib.Omega.{arith}
use borrow.Author.Tests.{le-leb, lt-leb}
use Rattle.script_judge.proofs.times.Goals as goal

pub overflow_mul-p : goal.overflow_mul-p
overflow_mul-p c = let k = mul-le-mul c.requires.0 c.requires.1 in record { fits = omega arith }

pub returns-then-p-n-le9999 : goal.returns-then-p-n-le9999
returns-then-p-n-le9999 c = simp (le-leb _ _ c.if-p-n-le9999.true)

pub returns : goal.returns
returns c = simp (lt-leb _ _ c.if-p-n-le9999.false)
