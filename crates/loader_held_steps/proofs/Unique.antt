-- Two results that a promise of this crate allows are equal, and so is what it leaves in each thing lent.
use mathlib.Core.Path.{◌≡◌}
use mathlib.Core.Bool.{Bool}
use mathlib.Core.List.{List}
use Prim.Native.Nat.{ℕ}
use Rattle.common.specs.Choice.{Unique}
use Rattle.common.proofs.Choice.{only}
use Rattle.device.specs.declared.Part.{Part}
use Rattle.model_types.specs.declared.Pins.{Pins}
use Rattle.model_types.specs.declared.Cycle.{Cycle}
use Rattle.loader.specs.declared.Loader.{Loader}
use Rattle.loader_held.specs.declared.Hold.{Hold}
use Rattle.loader_held_steps.specs.declared.HeldResponse.{HeldResponse}
use Rattle.loader_held_steps.specs.HeldFront.{start_held_response, start_held_told, step_held_response, step_held_told, held_scratch_left, held_room_left}

pub start_held_unique : (verify : Bool) (part : Part) (p : Pins) (k : ℕ) (w sc bs : List ℕ) (room : ℕ) → Unique (λ (r : HeldResponse). r ≡ start_held_response verify part p k w sc bs room)
start_held_unique verify part p k w sc bs room = only (start_held_response verify part p k w sc bs room)

pub start_held_told_unique : (verify : Bool) (part : Part) (p : Pins) (k : ℕ) (w sc bs : List ℕ) (room : ℕ) → Unique (λ (told : ℕ × List Cycle × List ℕ). told ≡ start_held_told verify part p k w sc bs room)
start_held_told_unique verify part p k w sc bs room = only (start_held_told verify part p k w sc bs room)

pub step_held_unique : (l : Loader) (h : Hold) (v : ℕ) (w sc ps bs : List ℕ) (room : ℕ) → Unique (λ (r : HeldResponse). r ≡ step_held_response l h v w sc ps bs room)
step_held_unique l h v w sc ps bs room = only (step_held_response l h v w sc ps bs room)

pub step_held_told_unique : (l : Loader) (h : Hold) (v : ℕ) (w sc ps bs : List ℕ) (room : ℕ) → Unique (λ (told : ℕ × List Cycle × List ℕ). told ≡ step_held_told l h v w sc ps bs room)
step_held_told_unique l h v w sc ps bs room = only (step_held_told l h v w sc ps bs room)

pub step_held_scratch_unique : (l : Loader) (h : Hold) (v : ℕ) (wanted scratch bs : List ℕ) (room : ℕ) → Unique (λ (left : List ℕ). left ≡ held_scratch_left l h v wanted scratch bs room)
step_held_scratch_unique l h v wanted scratch bs room = only (held_scratch_left l h v wanted scratch bs room)

pub step_held_room_unique : (l : Loader) (h : Hold) (v : ℕ) (wanted scratch bs room : List ℕ) → Unique (λ (left : List ℕ). left ≡ held_room_left l h v wanted scratch bs room)
step_held_room_unique l h v wanted scratch bs room = only (held_room_left l h v wanted scratch bs room)
