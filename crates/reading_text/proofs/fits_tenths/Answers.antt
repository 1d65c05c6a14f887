-- `reading_text::fits_tenths` meets its contract.
use Rattle.std.proofs.Common.{arith}
use Rattle.std.proofs.lemmas.Bool.Decides.{nat_tests}
use Rattle.reading_text.specs.Tables.{fits_tenths}
use Rattle.reading_text.proofs.fits_tenths.Goals as goal

pub returns : goal.returns
unfolding fits_tenths
returns c = grind (arith, nat_tests)
