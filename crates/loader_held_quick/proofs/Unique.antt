-- Two results that a promise of this crate allows are equal, and so is what it leaves in each thing lent.
use mathlib.Core.Path.{◌≡◌}
use mathlib.Core.List.{List}
use Rattle.common.specs.Choice.{Unique}
use Rattle.common.proofs.Choice.{only}
use Prim.Native.Nat.{ℕ}
use Rattle.loader_run.specs.declared.Job.{Job}
use Rattle.loader_held_run.specs.HeldRuns.{HeldLeft, lent_held}

pub run_held_quick_unique : (j : Job) (xs w sc ps bs room : List ℕ) → Unique (λ (r : HeldLeft). r ≡ lent_held j xs w sc ps bs room)
run_held_quick_unique j xs w sc ps bs room = only (lent_held j xs w sc ps bs room)
