-- A load and a verify from a file, on lent bytes: after a run's own tests the file is judged, and only then wanted is filled and the run
-- made.
use Rattle.std.specs.Prelude.{not, ◌||◌, List, [], ◌∷◌, ◌++◌, ℕ, ◌-◌, length, get_or, replicate, eqb, ltb, if◌then◌else◌}
use Rattle.common.specs.Numbers.{Row, row, given}
use Rattle.model_types.specs.declared.State.{State}
use Rattle.file_codec.specs.File.{limit, length_wrong, blocks_in, blocks_rows}
use Rattle.loader_run.specs.declared.Ran.{Ran}
use Rattle.loader_run.specs.Runs.{RunLeft, lent_rows, lent_run, run_first}
use Rattle.loader_run.specs.declared.Job.{Job}

-- the tests of a file for a block of n bytes: 30 also where it is longer than the block, then block by block 38 or else 31, then 32, 33,
-- 34; then 35 (R-order-3, R-number-30)
abbrev pub file_rows : List ℕ → ℕ → ℕ → List Row
file_rows f asked n =
    row 30 (length_wrong limit (length f) || ltb n (length f))
    ∷ blocks_rows (blocks_in f) (get_or f 0 0) 0 (blocks_in f) f (row 35 (not (eqb (get_or f 0 0) asked)) ∷ [])

-- the file's number alone
unfoldable pub file_number : List ℕ → ℕ → ℕ → ℕ
file_number f asked n = given (file_rows f asked n)

-- the tests of a load from a file of so many lent bytes, in their order: a run's, then the file's (R-order-3)
abbrev pub load_rows : Job → ℕ → ℕ → ℕ → List ℕ → ℕ → List Row
load_rows j array w sc f asked = lent_rows j array w sc ++ file_rows f asked w

-- the number of a load from a file
abbrev pub load_number : Job → ℕ → ℕ → ℕ → List ℕ → ℕ → ℕ
load_number j array w sc f asked = run_first (load_rows j array w sc f asked)

-- what a load wants of a block of n bytes: the file, then FFH to the end (R-load-8)
abbrev pub wanted_of : List ℕ → ℕ → List ℕ
wanted_of f n = f ++ replicate (n - length f) 255

-- wanted after a load's tests: filled where they gave 0, else as it was (R-order-3)
unfoldable pub wanted_by : ℕ → List ℕ → List ℕ → List ℕ
wanted_by n f w = if eqb n 0 then wanted_of f (length w) else w

-- what a load returns and leaves: its result, the array, wanted and scratch
pub record LoadLeft : Type 0 where
  pub ran : Ran
  pub bytes : List ℕ
  pub wanted : List ℕ
  pub scratch : List ℕ

-- .. of a load whose run was made, with what was wanted of it
abbrev pub load_made : RunLeft → List ℕ → LoadLeft
load_made r w = record { ran = r.ran; bytes = r.bytes; wanted = w; scratch = r.scratch }

-- .. of a load that is refused: no cycle is counted and nothing is touched
abbrev pub load_refused : ℕ → State → List ℕ → List ℕ → List ℕ → LoadLeft
load_refused n s xs w sc = record { ran = record { count = 0; end = n; address = 0; state = s }; bytes = xs; wanted = w; scratch = sc }

-- a job from a file, a load or a verify: refused by the load's number, or wanted filled and the run made
unfoldable pub load_left : Job → List ℕ → List ℕ → List ℕ → List ℕ → ℕ → LoadLeft
load_left j xs w sc f asked =
    if eqb (load_number j (length xs) (length w) (length sc) f asked) 0
    then load_made (lent_run j xs (wanted_of f (length w)) sc) (wanted_of f (length w))
    else load_refused (load_number j (length xs) (length w) (length sc) f asked) j.state xs w sc
