use lib.ListN.{get_or}
use lib.Bits.{bit_and}
use lib.Seq.{set_out}
use mathlib.Core.Path.{refl, sym}
use Rattle.units.specs.Units.{units}
use Rattle.units.proofs.Widths.{units_length}
use native.Mathlib.Omega.{arith}
use Rattle.units.proofs.program_unit.Goals as goal

pub program_there-requires : goal.program_there-requires
program_there-requires c =
    let s = c.args in
    let l = units_length s.word s.s.now in
    let e = c.units_in.ensures in
    let h = c.if-at-units_in.true in
    omega arith

pub returns : goal.returns
returns c =
    let s = c.args in
    let us = units s.word s.s.now in
    let l = units_length s.word s.s.now in
    let e = c.units_in.ensures in
    let h = c.if-at-units_in.false in
    record { s_left = sym (set_out us s.at (bit_and (get_or us s.at 0) s.v) (omega arith)); s_spare = refl }
