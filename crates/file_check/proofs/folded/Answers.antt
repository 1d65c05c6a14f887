-- `folded` meets its contract.
use native.Mathlib.Omega.{arith}
use Prim.Native.Nat.{◌/◌, ◌<◌}
use Rattle.file_check.proofs.Sums.{high_fits}
use Rattle.file_check.proofs.folded.Goals as goal

pub overflow_sub-result : goal.overflow_sub-result
overflow_sub-result c = high_fits c.args.x c.ranges.x.fits

pub returns : goal.returns
returns c =
    let x = c.args.x in
    let h : x < 4294967296 = c.ranges.x.fits in
    let q : x / 65536 < 65536 = omega arith in omega arith
