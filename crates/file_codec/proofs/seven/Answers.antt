-- `seven` meets its contract.
use native.Mathlib.Omega.{arith}
use Rattle.file_codec.proofs.Shifts.{eight_times}
use Rattle.file_codec.proofs.seven.Goals as goal

pub overflow_sub-result : goal.overflow_sub-result
overflow_sub-result c = let e = eight_times c.args.n c.requires in omega arith

pub returns : goal.returns
returns c = let e = eight_times c.args.n c.requires in omega arith
