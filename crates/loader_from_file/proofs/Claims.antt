-- What is claimed of a load from a file and of a verify from a file, in one place: of both as of any job.
use mathlib.Core.Path.{◌≡◌}
use mathlib.Core.List.{List}
use mathlib.Core.Logic.{◌↔◌}
use Prim.Native.Nat.{ℕ, ◌<◌}
use lib.ListN.{length}
use Rattle.common.specs.Numbers.{Foremost, NoRow}
use Rattle.loader_from_file.specs.Loads.{load_rows, load_left}
use Rattle.loader_run.specs.declared.Job.{Job}
use Rattle.loader_from_file.proofs.Leaving as leaving

-- The numbers: a load makes no cycle and ends with m exactly where m's own condition holds and that of no number before it does.
pub refused_exactly : (j : Job) (xs w sc f : List ℕ) (asked : ℕ) (m : ℕ) → (m ≡ 0 → ⊥)
    → (((load_left j xs w sc f asked).ran.count ≡ 0) × ((load_left j xs w sc f asked).ran.end ≡ m)) ↔ Foremost (load_rows j (length xs) (length w) (length sc) f asked) m
refused_exactly = leaving.refused_exactly

-- It makes cycles exactly where no condition of the run and none of the file holds.
pub accepted_exactly : (j : Job) (xs w sc f : List ℕ) (asked : ℕ) → (0 < (load_left j xs w sc f asked).ran.count) ↔ NoRow (load_rows j (length xs) (length w) (length sc) f asked)
accepted_exactly = leaving.accepted_exactly

-- A refused load has count 0 and the number, and leaves state, array, wanted and scratch as they were: wanted is filled only after the
-- tests.
pub refused_leaves : (j : Job) (xs w sc f : List ℕ) (asked : ℕ) (m : ℕ) → (m ≡ 0 → ⊥) → Foremost (load_rows j (length xs) (length w) (length sc) f asked) m
    → ((load_left j xs w sc f asked).ran ≡ record { count = 0; end = m; address = 0; state = j.state }) × ((load_left j xs w sc f asked).bytes ≡ xs)
    × ((load_left j xs w sc f asked).wanted ≡ w) × ((load_left j xs w sc f asked).scratch ≡ sc)
refused_leaves = leaving.refused_leaves
