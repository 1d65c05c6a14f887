-- Two results that a promise of this crate allows are equal.
use mathlib.Core.Path.{◌≡◌}
use mathlib.Core.Bool.{Bool}
use Prim.Native.Nat.{ℕ}
use Rattle.common.specs.Choice.{Unique}
use Rattle.common.proofs.Choice.{only}
use Rattle.device.specs.declared.Part.{Part}
use Rattle.model_types.specs.declared.Pins.{Pins}
use Rattle.model_types.specs.declared.Cycle.{Cycle}
use Rattle.model_levels.specs.Levels.{rp_low, vpp_low, vpp_high, bad_pins, bad_levels, unlocked, locked}

pub rp_low_unique : (p : Pins) → Unique (λ (r : Bool). r ≡ rp_low p)
rp_low_unique p = only (rp_low p)

pub vpp_low_unique : (part : Part) (p : Pins) → Unique (λ (r : Bool). r ≡ vpp_low part p)
vpp_low_unique part p = only (vpp_low part p)

pub vpp_high_unique : (part : Part) (p : Pins) → Unique (λ (r : Bool). r ≡ vpp_high part p)
vpp_high_unique part p = only (vpp_high part p)

pub bad_pins_unique : (part : Part) (p : Pins) → Unique (λ (r : Bool). r ≡ bad_pins part p)
bad_pins_unique part p = only (bad_pins part p)

pub bad_levels_unique : (part : Part) (c : Cycle) → Unique (λ (r : Bool). r ≡ bad_levels part c)
bad_levels_unique part c = only (bad_levels part c)

pub unlocked_unique : (part : Part) (p : Pins) (oe : ℕ) → Unique (λ (r : Bool). r ≡ unlocked part p oe)
unlocked_unique part p oe = only (unlocked part p oe)

pub locked_unique : (part : Part) (c : Cycle) → Unique (λ (r : Bool). r ≡ locked part c)
locked_unique part c = only (locked part c)
