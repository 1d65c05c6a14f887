-- A load from a file whose erase is interrupted, on lent bytes: after the tests of a load from a file come those of the addresses and the
-- room, and only then wanted is filled and the run made.
use Rattle.std.specs.Prelude.{List, ◌++◌, ℕ, length, eqb, if◌then◌else◌}
use Rattle.common.specs.Numbers.{Row}
use Rattle.model_types.specs.declared.State.{State}
use Rattle.loader_run.specs.declared.Ran.{Ran}
use Rattle.loader_from_file.specs.Loads.{load_rows, wanted_of}
use Rattle.loader_held_lists.specs.Listings.{held_rows}
use Rattle.loader_held_run.specs.HeldRuns.{HeldLeft, lent_held}
use Rattle.loader_run.specs.declared.Job.{Job}
use Rattle.loader_run.specs.Runs.{run_first}

-- the tests of such a load of so many lent bytes, in their order: a run's, the file's, then those of the addresses and the room
-- (R-held-3)
abbrev pub held_load_rows : Job → ℕ → ℕ → ℕ → List ℕ → ℕ → List ℕ → ℕ → List Row
held_load_rows j array w sc f asked bs room = load_rows j array w sc f asked ++ held_rows j.device.part j.block bs room

-- the first refusal of these, 0 where nothing refuses
abbrev pub held_load_number : Job → ℕ → ℕ → ℕ → List ℕ → ℕ → List ℕ → ℕ → ℕ
held_load_number j array w sc f asked bs room = run_first (held_load_rows j array w sc f asked bs room)

-- what such a load returns and leaves: its result, the array, wanted, scratch and the room
pub record HeldLoadLeft : Type 0 where
  pub ran : Ran
  pub bytes : List ℕ
  pub wanted : List ℕ
  pub scratch : List ℕ
  pub room : List ℕ

-- .. of a load whose run was made, with what was wanted of it
abbrev pub held_load_made : HeldLeft → List ℕ → HeldLoadLeft
held_load_made r w = record { ran = r.ran; bytes = r.bytes; wanted = w; scratch = r.scratch; room = r.room }

-- .. of a load that is refused: no cycle is counted and nothing is touched
abbrev pub held_load_refused : ℕ → State → List ℕ → List ℕ → List ℕ → List ℕ → HeldLoadLeft
held_load_refused n s xs w sc room =
    record { ran = record { count = 0; end = n; address = 0; state = s }; bytes = xs; wanted = w; scratch = sc; room = room }

-- a load from a file f for the letter asked, interrupted at the polls ps, with the verify after it or without: refused by its number, or
-- wanted filled and the run made
unfoldable pub held_file_left : Job → List ℕ → List ℕ → List ℕ → List ℕ → ℕ → List ℕ → List ℕ → List ℕ → HeldLoadLeft
held_file_left j xs w sc f asked ps bs room =
    if eqb (held_load_number j (length xs) (length w) (length sc) f asked bs (length room)) 0
    then held_load_made (lent_held j xs (wanted_of f (length w)) sc ps bs room) (wanted_of f (length w))
    else held_load_refused (held_load_number j (length xs) (length w) (length sc) f asked bs (length room)) j.state xs w sc room
