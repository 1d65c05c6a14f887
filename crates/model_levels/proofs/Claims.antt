-- What is claimed of levels, in one place.
use mathlib.Core.Path.{◌≡◌}
use mathlib.Core.Bool.{true, false}
use Rattle.device.specs.declared.Part.{Part}
use Rattle.model_types.specs.declared.Pins.{Pins}
use Rattle.model_levels.specs.Levels.{vpp_low, vpp_high}
use Rattle.model_levels.proofs.Bands as bands

-- VPP high is not low, whatever the part.
pub not_low : (part : Part) (p : Pins) → vpp_high part p ≡ true → vpp_low part p ≡ false
not_low = bands.not_low
