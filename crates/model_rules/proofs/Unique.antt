-- Two results that a promise of this crate allows are equal.
use mathlib.Core.Path.{◌≡◌}
use mathlib.Core.Bool.{Bool}
use Prim.Native.Nat.{ℕ}
use Rattle.common.specs.Choice.{Unique}
use Rattle.common.proofs.Choice.{only}
use Rattle.device.specs.declared.Part.{Part}
use Rattle.device.specs.declared.Device.{Device}
use Rattle.model_types.specs.declared.Action.{Action}
use Rattle.model_types.specs.declared.Mode.{Mode}
use Rattle.model_types.specs.declared.Reply.{Reply}
use Rattle.model_types.specs.declared.Settled.{Settled}
use Rattle.model_types.specs.declared.State.{State}
use Rattle.model_types.specs.declared.Cycle.{Cycle}
use Rattle.model_types.specs.declared.Decision.{Decision}
use Rattle.model_rules.specs.Cycles.{code_place, identifier_of}
use Rattle.model_rules.specs.Inner.{settled_by, decide_read, decide_write, decide_judged, asks_array}

pub decide_judged_unique : (d : Device) (s : State) (c : Cycle) → Unique (λ (r : Decision). r ≡ decide_judged d s c)
decide_judged_unique d s c = only (decide_judged d s c)

pub asks_array_unique : (s : State) (c : Cycle) → Unique (λ (r : Bool). r ≡ asks_array s c)
asks_array_unique s c = only (asks_array s c)

pub settled_by_unique : (reply : Reply) (t : Settled) → Unique (λ (r : Decision). r ≡ settled_by reply t)
settled_by_unique reply t = only (settled_by reply t)

pub read_unique : (m : Mode) (part : Part) (s : State) (c : Cycle) (t : Settled) → Unique (λ (r : Decision). r ≡ decide_read m part s c t)
read_unique m part s c t = only (decide_read m part s c t)

pub write_unique : (a : Action) (d : Device) (s : State) (c : Cycle) (t : Settled) → Unique (λ (r : Decision). r ≡ decide_write a d s c t)
write_unique a d s c t = only (decide_write a d s c t)

pub code_place_unique : (part : Part) (a : ℕ) → Unique (λ (r : ℕ). r ≡ code_place part a)
code_place_unique part a = only (code_place part a)

pub identifier_unique : (part : Part) (a : ℕ) → Unique (λ (r : ℕ). r ≡ identifier_of part a)
identifier_unique part a = only (identifier_of part a)
