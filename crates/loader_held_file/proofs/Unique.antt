-- Two results that a promise of this crate allows are equal, and so is what it leaves in each thing lent.
use mathlib.Core.Path.{◌≡◌}
use mathlib.Core.List.{List}
use Prim.Native.Nat.{ℕ}
use Rattle.common.specs.Choice.{Unique}
use Rattle.common.proofs.Choice.{only}
use Rattle.loader_run.specs.declared.Ran.{Ran}
use Rattle.loader_held_file.specs.HeldLoads.{held_file_left}
use Rattle.loader_run.specs.declared.Job.{Job}

pub load_held_unique : (j : Job) (xs w sc f : List ℕ) (asked : ℕ) (ps bs room : List ℕ) → Unique (λ (r : Ran). r ≡ (held_file_left j xs w sc f asked ps bs room).ran)
load_held_unique j xs w sc f asked ps bs room = only (held_file_left j xs w sc f asked ps bs room).ran

pub load_held_array_unique : (j : Job) (xs w sc f : List ℕ) (asked : ℕ) (ps bs room : List ℕ) → Unique (λ (left : List ℕ). left ≡ (held_file_left j xs w sc f asked ps bs room).bytes)
load_held_array_unique j xs w sc f asked ps bs room = only (held_file_left j xs w sc f asked ps bs room).bytes

pub load_held_wanted_unique : (j : Job) (xs w sc f : List ℕ) (asked : ℕ) (ps bs room : List ℕ) → Unique (λ (left : List ℕ). left ≡ (held_file_left j xs w sc f asked ps bs room).wanted)
load_held_wanted_unique j xs w sc f asked ps bs room = only (held_file_left j xs w sc f asked ps bs room).wanted

pub load_held_scratch_unique : (j : Job) (xs w sc f : List ℕ) (asked : ℕ) (ps bs room : List ℕ) → Unique (λ (left : List ℕ). left ≡ (held_file_left j xs w sc f asked ps bs room).scratch)
load_held_scratch_unique j xs w sc f asked ps bs room = only (held_file_left j xs w sc f asked ps bs room).scratch

pub load_held_room_unique : (j : Job) (xs w sc f : List ℕ) (asked : ℕ) (ps bs room : List ℕ) → Unique (λ (left : List ℕ). left ≡ (held_file_left j xs w sc f asked ps bs room).room)
load_held_room_unique j xs w sc f asked ps bs room = only (held_file_left j xs w sc f asked ps bs room).room
