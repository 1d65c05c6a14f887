use Rattle.units.proofs.Widths.{true_bytes}
use Rattle.units.proofs.byte_of.Goals as goal

pub first_byte-a-requires : goal.first_byte-a-requires
first_byte-a-requires c = true_bytes c.args.word c.args.at 18446744073709551616 c.if-word.true c.requires

pub returns-then-word : goal.returns-then-word
returns-then-word c = simp (c.first_byte-a.ensures, c.if-word.true)
