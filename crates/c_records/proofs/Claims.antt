-- What is claimed of a record's numbers, in one place.
use mathlib.Core.Path.{◌≡◌}
use mathlib.Core.Bool.{true, false}
use lib.Dec.{ltb}
use Rattle.device.specs.Parts.{unknown_part}
use Rattle.loader.specs.declared.Loader.{Loader}
use Rattle.loader_steps.specs.Front.{bad_record}
use Rattle.c_records.specs.Records.{no_record, loader_in, loader_out}
use Rattle.c_records.specs.declared.LoaderNumbers.{LoaderNumbers}
use Rattle.c_records.proofs.Border as border

-- There and back, and back and there; numbers that stand for no record are refused 3, but for a mode that is neither 0 nor 1: that is no
-- part's, and 1 comes first.
pub record_back : (l : Loader) → loader_in (loader_out l) ≡ l
record_back = border.record_back

pub record_numbers : (n : LoaderNumbers) → no_record n ≡ false → loader_out (loader_in n) ≡ n
record_numbers = border.record_numbers

pub no_record_bad : (n : LoaderNumbers) → no_record n ≡ true → bad_record (loader_in n) ≡ true
no_record_bad = border.no_record_bad

pub no_mode_part : (n : LoaderNumbers) → ltb 1 n.word ≡ true → unknown_part (loader_in n).part ≡ true
no_mode_part = border.no_mode_part
