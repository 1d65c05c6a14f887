use Rattle.std.proofs.Common.{refl}
use lib.Ieee.{of_bits, neg}
use Rattle.reading_print.proofs.is_under.Goals as goal

pub returns : goal.returns
unfolding neg of_bits
returns c = refl
