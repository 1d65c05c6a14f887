-- `knots::put_six` meets its contract.
use mathlib.Core.Path.{◌∙◌}
use mathlib.Core.List.{[], ◌∷◌}
use Prim.Native.Nat.{◌/◌, ◌%◌}
use native.Mathlib.Omega.{arith}
use lib.Seq.{sets-eq, lt-length-sets}
use Rattle.reading_text.specs.Tables.{six_of}
use Rattle.reading_text.proofs.Walks.{six_only}
use Rattle.c_words.proofs.knots.put_six.Goals as goal

pub bounds-out-4 : goal.bounds-out-4
bounds-out-4 c = lt-length-sets c.args.out.now 0 (c.args.volts / 16777216 % 256 ∷ c.args.volts / 65536 % 256 ∷ c.args.volts / 256 % 256 ∷ c.args.volts % 256 ∷ []) (omega (arith, c.requires))

pub bounds-out-5 : goal.bounds-out-5
bounds-out-5 c = lt-length-sets c.args.out.now 0 (c.args.volts / 16777216 % 256 ∷ c.args.volts / 65536 % 256 ∷ c.args.volts / 256 % 256 ∷ c.args.volts % 256 ∷ c.args.tenths / 256 % 256 ∷ []) (omega (arith, c.requires))

pub returns : goal.returns
returns c = sets-eq (six_of c.args.volts c.args.tenths) c.args.out.now 0 (omega (arith, c.requires)) ∙ six_only (six_of c.args.volts c.args.tenths) c.args.out.now (omega (arith, c.requires))
