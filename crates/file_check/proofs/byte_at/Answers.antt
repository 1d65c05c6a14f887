use mathlib.Core.Path.{refl}
use native.Mathlib.Omega.{arith}
use Rattle.file_check.proofs.byte_at.Goals as goal

pub bounds-block-place : goal.bounds-block-place
bounds-block-place c = omega arith

pub overflow_cast-result : goal.overflow_cast-result
overflow_cast-result c = record { fits = omega (arith, (c.shared_slice_known-1.given c.args.place).fits) }

pub returns : goal.returns
returns c = (refl, (c.shared_slice_known-1.given c.args.place).fits)
