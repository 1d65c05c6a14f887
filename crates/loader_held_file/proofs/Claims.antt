-- What is claimed of a load from a file whose erase is interrupted, in one place.
use mathlib.Core.Path.{◌≡◌}
use mathlib.Core.List.{List}
use mathlib.Core.Logic.{◌↔◌}
use Prim.Native.Nat.{ℕ, ◌<◌}
use lib.ListN.{length}
use Rattle.common.specs.Numbers.{Foremost, NoRow}
use Rattle.loader_from_file.specs.Loads.{wanted_of}
use Rattle.loader_held_run.specs.HeldRuns.{lent_held}
use Rattle.loader_held_file.specs.HeldLoads.{held_load_rows, held_load_made, held_load_refused, held_file_left}
use Rattle.loader_run.specs.declared.Job.{Job}
use Rattle.loader_held_file.proofs.HeldFileLeaving as leaving

-- The numbers: such a load makes no cycle and ends with m exactly where m's own condition holds and that of no number before it does: a
-- run's, then the file's, then 5, 45, 46 and 37.
pub refused_exactly : (j : Job) (xs w sc f : List ℕ) (asked : ℕ) (ps bs room : List ℕ) (m : ℕ) → (m ≡ 0 → ⊥)
    → (((held_file_left j xs w sc f asked ps bs room).ran.count ≡ 0) × ((held_file_left j xs w sc f asked ps bs room).ran.end ≡ m))
    ↔ Foremost (held_load_rows j (length xs) (length w) (length sc) f asked bs (length room)) m
refused_exactly = leaving.refused_exactly

-- It makes cycles exactly where none of these conditions holds.
pub accepted_exactly : (j : Job) (xs w sc f : List ℕ) (asked : ℕ) (ps bs room : List ℕ)
    → (0 < (held_file_left j xs w sc f asked ps bs room).ran.count) ↔ NoRow (held_load_rows j (length xs) (length w) (length sc) f asked bs (length room))
accepted_exactly = leaving.accepted_exactly

-- A refused load has count 0 and the number, and leaves state, array, wanted, scratch and room as they were: wanted is filled only after
-- the tests.
pub refused_leaves : (j : Job) (xs w sc f : List ℕ) (asked : ℕ) (ps bs room : List ℕ) (m : ℕ) → (m ≡ 0 → ⊥)
    → Foremost (held_load_rows j (length xs) (length w) (length sc) f asked bs (length room)) m
    → held_file_left j xs w sc f asked ps bs room ≡ held_load_refused m j.state xs w sc room
refused_leaves = leaving.refused_leaves

-- A load that nothing refuses is the interrupted run with the file, then FFH to the block's end, as wanted.
pub is_the_run : (j : Job) (xs w sc f : List ℕ) (asked : ℕ) (ps bs room : List ℕ)
    → NoRow (held_load_rows j (length xs) (length w) (length sc) f asked bs (length room))
    → held_file_left j xs w sc f asked ps bs room ≡ held_load_made (lent_held j xs (wanted_of f (length w)) sc ps bs room) (wanted_of f (length w))
is_the_run j xs w sc f asked ps bs room h = leaving.made_left j xs w sc f asked ps bs room (leaving.rows_none j xs w sc f asked ps bs room h)
