-- Pin levels and supply bands.
use Rattle.std.specs.Prelude.{Bool, false, not, ◌&&◌, ◌||◌, ℕ, eqb, ltb, leb, if◌then◌else◌}
use Rattle.device.specs.Parts.{is_large, block_of}
use Rattle.device.specs.declared.Part.{Part}
use Rattle.model_types.specs.declared.Pins.{Pins}
use Rattle.model_types.specs.declared.Cycle.{Cycle}
use Rattle.model_types.specs.declared.Kind.{Kind}
use Rattle.model_types.specs.declared.Kind.TheVariants.{Read, Write, Idle}

-- RP# is low (R-cycle-1)
abbrev pub rp_low : Pins → Bool
rp_low p = eqb p.rp 0

-- VPP is low: 0 to 6,500 mV, on devices 5 to 8 0 to 1,500 (R-cycle-2)
unfoldable pub vpp_low : Part → Pins → Bool
vpp_low part p = if is_large part then leb p.vpp 1500 else leb p.vpp 6500

-- VPP at 12 V: 11,400 to 12,600 mV (R-cycle-2)
unfoldable pub at_twelve : Pins → Bool
at_twelve p = leb 11400 p.vpp && leb p.vpp 12600

-- VPP at 5 V: 4,500 to 5,500 mV (R-cycle-2)
unfoldable pub at_five : Pins → Bool
at_five p = leb 4500 p.vpp && leb p.vpp 5500

-- VPP is high: at 12 V, on devices 5 to 8 also at 5 V (R-cycle-2)
unfoldable pub vpp_high : Part → Pins → Bool
vpp_high part p = if is_large part then at_five p || at_twelve p else at_twelve p

-- WP# is not 0 or 1, on devices 5 to 8; the others have no such pin and it is not looked at (R-cycle-1)
unfoldable pub bad_wp : Part → Pins → Bool
bad_wp part p = if is_large part then ltb 1 p.wp else false

-- RP# is not 0, 1 or 2, VPP is in no band, or WP# is bad (R-number-4)
unfoldable pub bad_pins : Part → Pins → Bool
bad_pins part p = (ltb 2 p.rp || not (vpp_low part p || vpp_high part p)) || bad_wp part p

-- the highest level of OE# on a write: devices 5 to 8 have no V_HH there (R-cycle-2)
unfoldable pub most_oe : Part → ℕ
most_oe part = if is_large part then 0 else 1

-- OE# is not 0, nor 1 on a write of devices 1 to 4 (R-cycle-1)
abbrev pub bad_oe : Part → Kind → ℕ → Bool
bad_oe part Read oe = ltb 0 oe
bad_oe part Write oe = ltb (most_oe part) oe
bad_oe part Idle oe = ltb 0 oe

-- refusal 4: a pin level outside what the cycle allows (R-number-4)
unfoldable pub bad_levels : Part → Cycle → Bool
bad_levels part c = bad_pins part c.pins || bad_oe part c.kind c.oe

-- RP# or OE# at V_HH unlocks the boot block; on devices 5 to 8 RP# at V_HH or WP# high (R-lock-1)
unfoldable pub unlocked : Part → Pins → ℕ → Bool
unlocked part p oe = if is_large part then eqb p.rp 2 || eqb p.wp 1 else eqb p.rp 2 || eqb oe 1

-- the address is in the boot block, and nothing unlocks it (R-lock-1)
unfoldable pub locked : Part → Cycle → Bool
locked part c = not (unlocked part c.pins c.oe) && eqb (block_of part c.address) 0
