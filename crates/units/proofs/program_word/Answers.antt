use Rattle.units.proofs.Words.{program_law}
use Rattle.units.proofs.Widths.{both_in}
use native.Mathlib.Omega.{arith}
use Rattle.units.proofs.program_word.Goals as goal

pub first_byte-a-requires : goal.first_byte-a-requires
first_byte-a-requires c = let a = c.args in let h = both_in a.s.now a.w.word c.requires in omega arith

pub program_byte-requires : goal.program_byte-requires
program_byte-requires c =
    let e = c.first_byte-a.ensures in
    let h = both_in c.args.s.now c.args.w.word c.requires in
    omega arith

pub overflow_add-i : goal.overflow_add-i
overflow_add-i c =
    let e = c.first_byte-a.ensures in
    let h = both_in c.args.s.now c.args.w.word c.requires in
    record { fits = omega arith }

pub program_byte-requires-2 : goal.program_byte-requires-2
program_byte-requires-2 c =
    let e = c.first_byte-a.ensures in
    let h = both_in c.args.s.now c.args.w.word c.requires in
    let l = c.program_byte.auto.s in
    omega arith

pub returns : goal.returns
returns c =
    let e = c.first_byte-a.ensures in
    let h = both_in c.args.s.now c.args.w.word c.requires in
    let both = program_law c.args.s.now _ _ c.args.w.word _ c.args.v _ _ e c.low.ensures c.high.ensures
    c.program_byte.ensures c.program_byte-2.ensures (omega arith) (c.slice_known-1.given c.first_byte-a.result.byte).fits in record { s_left = both.0; s_spare = both.1 }
