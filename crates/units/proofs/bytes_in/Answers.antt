use Rattle.units.proofs.Widths.{true_bytes}
use Rattle.units.proofs.bytes_in.Goals as goal

pub overflow_mul-result : goal.overflow_mul-result
overflow_mul-result c = record { fits = true_bytes c.args.word c.args.n 18446744073709551616 c.if-word.true c.requires }

pub returns-then-word : goal.returns-then-word
returns-then-word c = simp c.if-word.true
