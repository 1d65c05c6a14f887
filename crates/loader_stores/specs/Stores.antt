-- What the data of a cycle do to scratch, a list of units.
use Rattle.std.specs.Prelude.{Bool, ◌&&◌, List, ℕ, length, get_or, set, replicate, eqb, if◌then◌else◌}
use Rattle.units.specs.Units.{carried}
use Rattle.model_types.specs.Cells.{ones}
use Rattle.device.specs.declared.Part.{Part}
use Rattle.loader.specs.declared.Stage.{Stage}
use Rattle.loader.specs.declared.Stage.TheVariants.{Clearing, Opening, Reading, EraseAsking, EraseConfirming, EraseWaiting, ProgramAsking}
use Rattle.loader.specs.declared.Stage.TheVariants.{ProgramSending, ProgramWaiting, Closing, Verifying, Ended}
use Rattle.loader.specs.declared.Loader.{Loader}
use Rattle.loader.specs.Statuses.{status_in, is_ready, erase_end, program_end}

-- an erase that ended well
unfoldable pub erased_well : ℕ → Bool
erased_well sr = is_ready sr && eqb (erase_end sr) 0

-- .. fills scratch with ones (R-load-2)
abbrev pub erase_stored : Part → ℕ → List ℕ → List ℕ
erase_stored part sr sc = if erased_well sr then replicate (length sc) (ones part) else sc

-- a program that ended well
unfoldable pub programmed_well : ℕ → Bool
programmed_well sr = is_ready sr && eqb (program_end sr) 0

-- .. puts its unit, the wanted one of its place, into scratch (R-load-3)
abbrev pub program_stored : ℕ → ℕ → List ℕ → List ℕ → List ℕ
program_stored place sr w sc = if programmed_well sr then set sc place (get_or w place 0) else sc

-- what the data do to scratch: reads store them, and an operation that ended well does there what it did to the block
-- (R-load-1, R-load-4)
abbrev pub store_in : Stage → Part → ℕ → ℕ → List ℕ → List ℕ → List ℕ
store_in Clearing part place v w sc = sc
store_in Opening part place v w sc = sc
store_in Reading part place v w sc = set sc place (carried part.word v)
store_in EraseAsking part place v w sc = sc
store_in EraseConfirming part place v w sc = sc
store_in EraseWaiting part place v w sc = erase_stored part (status_in v) sc
store_in ProgramAsking part place v w sc = sc
store_in ProgramSending part place v w sc = sc
store_in ProgramWaiting part place v w sc = program_stored place (status_in v) w sc
store_in Closing part place v w sc = sc
store_in Verifying part place v w sc = set sc place (carried part.word v)
store_in (Ended n) part place v w sc = sc

-- .. by the record's own stage
abbrev pub store_of : Loader → ℕ → List ℕ → List ℕ → List ℕ
store_of l v w sc = store_in l.stage l.part l.place v w sc
