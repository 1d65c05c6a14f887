use Rattle.units.specs.Units.{units}
use Prim.Native.Nat.{ℕ}
use mathlib.Core.Path.{ap, ◌∙◌}
use lib.ListN.{get_or, set}
use lib.Bits.{bit_and, bit_or}
use Rattle.model.proofs.cut_program.Goals as goal

pub returns : goal.returns
returns c =
    let a = c.args in
    let us = units a.word a.array.now in
    record { array_left = c.program_unit.ensures.s_left ∙ ap (λ (x : ℕ). set us a.at (bit_and (get_or us a.at 0) (bit_or a.v x))) c.get_unit-r.ensures.0; array_spare = c.program_unit.ensures.s_spare }
