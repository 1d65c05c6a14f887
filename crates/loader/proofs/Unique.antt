-- Two results that a promise of this crate allows are equal.
use mathlib.Core.Path.{◌≡◌}
use mathlib.Core.Bool.{Bool}
use Prim.Native.Nat.{ℕ}
use Rattle.common.specs.Choice.{Unique}
use Rattle.common.proofs.Choice.{only}
use Rattle.loader.specs.declared.Stage.{Stage}
use Rattle.loader.specs.declared.StageIs.{StageIs}
use Rattle.loader.specs.declared.Work.{Work}
use Rattle.loader.specs.Stages.{stage_is, first_stage, verifies}
use Rattle.loader.specs.Statuses.{is_ready, erase_end, program_end}

pub stage_is_unique : (stage : Stage) → Unique (λ (r : StageIs). r ≡ stage_is stage)
stage_is_unique stage = only (stage_is stage)

pub first_stage_unique : (work : Work) → Unique (λ (r : Stage). r ≡ first_stage work)
first_stage_unique work = only (first_stage work)

pub verifies_unique : (work : Work) → Unique (λ (r : Bool). r ≡ verifies work)
verifies_unique work = only (verifies work)

pub is_ready_unique : (b : ℕ) → Unique (λ (r : Bool). r ≡ is_ready b)
is_ready_unique b = only (is_ready b)

pub erase_end_unique : (b : ℕ) → Unique (λ (r : ℕ). r ≡ erase_end b)
erase_end_unique b = only (erase_end b)

pub program_end_unique : (b : ℕ) → Unique (λ (r : ℕ). r ≡ program_end b)
program_end_unique b = only (program_end b)
