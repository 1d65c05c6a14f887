-- Two results that a promise of this crate allows are equal, and so is what it leaves in each thing lent.
use mathlib.Core.Path.{◌≡◌}
use mathlib.Core.List.{List}
use Prim.Native.Nat.{ℕ}
use Rattle.common.specs.Choice.{Unique}
use Rattle.common.proofs.Choice.{only}
use Rattle.model_types.specs.declared.State.{State}
use Rattle.loader_run.specs.declared.Ran.{Ran}
use Rattle.loader_held_run.specs.HeldRuns.{held_run_number, ran_refused, lent_held}
use Rattle.loader_run.specs.declared.Job.{Job}

pub held_number_unique : (j : Job) (array w sc : ℕ) (bs : List ℕ) (room : ℕ) → Unique (λ (r : ℕ). r ≡ held_run_number j array w sc bs room)
held_number_unique j array w sc bs room = only (held_run_number j array w sc bs room)

pub run_held_unique : (j : Job) (xs w sc ps bs room : List ℕ) → Unique (λ (r : Ran). r ≡ (lent_held j xs w sc ps bs room).ran)
run_held_unique j xs w sc ps bs room = only (lent_held j xs w sc ps bs room).ran

pub run_held_array_unique : (j : Job) (xs w sc ps bs room : List ℕ) → Unique (λ (left : List ℕ). left ≡ (lent_held j xs w sc ps bs room).bytes)
run_held_array_unique j xs w sc ps bs room = only (lent_held j xs w sc ps bs room).bytes

pub run_held_scratch_unique : (j : Job) (xs w sc ps bs room : List ℕ) → Unique (λ (left : List ℕ). left ≡ (lent_held j xs w sc ps bs room).scratch)
run_held_scratch_unique j xs w sc ps bs room = only (lent_held j xs w sc ps bs room).scratch

pub run_held_room_unique : (j : Job) (xs w sc ps bs room : List ℕ) → Unique (λ (left : List ℕ). left ≡ (lent_held j xs w sc ps bs room).room)
run_held_room_unique j xs w sc ps bs room = only (lent_held j xs w sc ps bs room).room

pub refused_unique : (n : ℕ) (s : State) → Unique (λ (r : Ran). r ≡ ran_refused n s)
refused_unique n s = only (ran_refused n s)
