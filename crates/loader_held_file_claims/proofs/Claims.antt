-- What is claimed of a load from a file with interruptions (02 xi).
use mathlib.Core.Bool.{Bool}
use mathlib.Core.List.{List}
use Prim.Native.Nat.{ℕ}
use Rattle.loader_held_file_claims.specs.HeldThrough.{HeldFileStart, HeldFileLoaded}
use Rattle.loader_run.specs.declared.Job.{Job}
use Rattle.loader_held_file_claims.proofs.HeldThrough as through

-- Demand 3 through a file, whatever polls are told: the load ends well, the block holds the file and FFH to its end, every other byte is
-- as before, the count is the formula's and what the interruptions add, the room holds what was read; and all else of demand 3 holds of
-- the run that it makes.
pub file_loaded : (verify : Bool) (j : Job) (xs w sc f : List ℕ) (asked : ℕ) (ps bs room : List ℕ) → HeldFileStart j xs w sc f asked bs room
    → HeldFileLoaded verify j xs w sc f asked ps bs room
file_loaded = through.loaded
