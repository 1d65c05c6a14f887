-- The store on a part: which numbers are given and in which order, what is returned, and what is left in everything lent.
use Rattle.std.specs.Prelude.{Bool, not, ◌||◌, true, List, [], ◌∷◌, ◌++◌, ℕ, ◌/◌, length, take, drop, eqb, if◌then◌else◌}
use Rattle.common.specs.Numbers.{Row, row, given}
use Rattle.device.specs.declared.Part.{Part}
use Rattle.device.specs.declared.Device.{Device}
use Rattle.device.specs.Parts.{unknown_part, is_large, size_of, length_of, start_of}
use Rattle.model_types.specs.declared.Pins.{Pins}
use Rattle.model_types.specs.declared.State.{State}
use Rattle.file_codec.specs.File.{Outcome, outcome_by, limit, read_rows}
use Rattle.loader_run.specs.declared.Ran.{Ran}
use Rattle.loader_run.specs.Runs.{RunLeft, lent_rows, lent_run, job_of}
use Rattle.store_places.specs.Store.{items_in, is_proper, no_room, places_in, find_of, drop_of, add_of, find_rows}
use Rattle.store_survey.specs.Survey.{reader_number}
use Rattle.loader.specs.declared.Work.TheVariants.{Load}
use Rattle.loader_run.specs.declared.Job.{Job}

-- the bytes of the main block, block 3, in a part's array
abbrev pub main_of : Part → List ℕ → List ℕ
main_of part xs = take (length_of part 3) (drop (start_of part 3) xs)

-- 1: the part is not known, or it is one of 5 to 8, which have no store (R-number-1)
unfoldable pub no_store : Part → Bool
no_store part = unknown_part part || is_large part

-- the refusals of an image: 1, then 2 for so many bytes
abbrev pub part_number : Part → ℕ → ℕ
part_number part n = given (row 1 (no_store part) ∷ row 2 (not (eqb n (size_of part))) ∷ [])

-- the refusals of a find before room is asked for: 1, 2, then 44, 42
abbrev pub seek_rows : Part → List ℕ → ℕ → List Row
seek_rows part xs ℓ =
    row 1 (no_store part) ∷ row 2 (not (eqb (length xs) (size_of part))) ∷ find_rows (reader_number limit) ℓ (main_of part xs) []

-- the first refusal of these, 0 where nothing refuses
unfoldable pub seek_number : Part → List ℕ → ℕ → ℕ
seek_number part xs ℓ = given (seek_rows part xs ℓ)

-- what is found under a letter, given room: the refusal, or the file's bytes
unfoldable pub found_on : Part → List ℕ → ℕ → Outcome
found_on part xs ℓ = outcome_by (seek_number part xs ℓ) (find_of (reader_number limit) ℓ (main_of part xs))

-- what a change runs: a load of block 3 and the verify after it
abbrev pub change_job : Device → State → Pins → Job
change_job d s p = job_of (Load true) d s p 3

-- the refusals of a change: 1 for a part of 5 to 8, then those of a run of block 3, then those of the change itself (R-store-5)
abbrev pub change_rows : Device → State → Pins → ℕ → ℕ → ℕ → List Row → List Row
change_rows d s p array memory scratch own = row 1 (is_large d.part) ∷ (lent_rows (change_job d s p) array memory scratch ++ own)

-- .. of a run of block 3 alone
unfoldable pub change_number : Device → State → Pins → ℕ → ℕ → ℕ → ℕ
change_number d s p array memory scratch = given (change_rows d s p array memory scratch [])

-- .. of a drop: 44, 42
abbrev pub drop_rows : Device → State → Pins → List ℕ → ℕ → ℕ → ℕ → List Row
drop_rows d s p xs memory scratch ℓ =
    change_rows d s p (length xs) memory scratch (find_rows (reader_number limit) ℓ (main_of d.part xs) [])

-- .. of an add: the reader's for the letter, then 44, 43
abbrev pub adding_rows : Device → State → Pins → List ℕ → ℕ → ℕ → List ℕ → ℕ → List Row
adding_rows d s p xs memory scratch f ℓ =
    change_rows d s p (length xs) memory scratch
    (read_rows limit f ℓ
    (row 44 (not (is_proper (reader_number limit) (main_of d.part xs)))
    ∷ row 43 (no_room (length (main_of d.part xs) / 512) ℓ (places_in f) (items_in (reader_number limit) (main_of d.part xs)))
    ∷ []))

-- the first refusal of a drop, 0 where nothing refuses
unfoldable pub drop_number : Device → State → Pins → List ℕ → ℕ → ℕ → ℕ → ℕ
drop_number d s p xs memory scratch ℓ = given (drop_rows d s p xs memory scratch ℓ)

-- the first refusal of an add, 0 where nothing refuses
unfoldable pub add_number : Device → State → Pins → List ℕ → ℕ → ℕ → List ℕ → ℕ → ℕ
add_number d s p xs memory scratch f ℓ = given (adding_rows d s p xs memory scratch f ℓ)

-- what a change returns and leaves: its result, the array, memory and scratch
pub record ChangeLeft : Type 0 where
  pub ran : Ran
  pub bytes : List ℕ
  pub memory : List ℕ
  pub scratch : List ℕ

-- .. of one whose run was made, with the block's new contents in memory
abbrev pub change_made : RunLeft → List ℕ → ChangeLeft
change_made r new = record { ran = r.ran; bytes = r.bytes; memory = new; scratch = r.scratch }

-- .. of one that is refused: no cycle is counted and nothing is touched
abbrev pub change_refused : ℕ → State → List ℕ → List ℕ → List ℕ → ChangeLeft
change_refused n s xs memory scratch =
    record { ran = record { count = 0; end = n; address = 0; state = s }; bytes = xs; memory = memory; scratch = scratch }

-- by its number and the block's new contents: refused, or the contents put into memory and one run of block 3 made with them
unfoldable pub change_left : ℕ → List ℕ → Device → State → Pins → List ℕ → List ℕ → List ℕ → ChangeLeft
change_left n new d s p xs memory scratch = if eqb n 0 then change_made (lent_run (change_job d s p) xs new scratch) new
    else change_refused n s xs memory scratch

-- a drop of a letter, and an add of the file f under a letter
abbrev pub drop_left : Device → State → Pins → List ℕ → List ℕ → List ℕ → ℕ → ChangeLeft
drop_left d s p xs memory scratch ℓ =
    change_left (drop_number d s p xs (length memory) (length scratch) ℓ) (drop_of (reader_number limit) ℓ (main_of d.part xs)) d s p xs
    memory scratch

-- what an add of the file f under a letter returns and leaves
abbrev pub add_left : Device → State → Pins → List ℕ → List ℕ → List ℕ → List ℕ → ℕ → ChangeLeft
add_left d s p xs memory scratch f ℓ =
    change_left (add_number d s p xs (length memory) (length scratch) f ℓ) (add_of (reader_number limit) ℓ f (main_of d.part xs)) d s p xs
    memory scratch
