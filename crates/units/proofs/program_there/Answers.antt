use Rattle.units.proofs.Widths.{word_in, byte_in, program_low}
use mathlib.Core.Path.{refl}
use Rattle.units.proofs.program_there.Goals as goal

pub program_word-requires : goal.program_word-requires
program_word-requires c = word_in c.args.word c.args.s.now c.args.at c.if-word.true c.requires

pub returns-then-word : goal.returns-then-word
returns-then-word c = simp c.if-word.true c.program_word.ensures

pub program_byte-requires : goal.program_byte-requires
program_byte-requires c = byte_in c.args.word c.args.s.now c.args.at c.if-word.false c.requires

pub returns : goal.returns
returns c =
    simp c.if-word.false
    (record { s_left = program_low c.args.s.now _ c.args.at c.args.v _ c.low.ensures (c.slice_known-1.given c.args.at).fits c.program_byte.ensures; s_spare = refl })
