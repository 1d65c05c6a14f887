-- Starts that there are: every block of every device, in byte mode and, of devices 5 to 8, in word mode.
use Rattle.std.specs.Prelude.{Bool, true, false, ◌&&◌, ℕ, zero, suc, eqb}
use Rattle.device.specs.declared.Device.{Device}
use Rattle.device.specs.Parts.{size_of, length_of}
use Rattle.units.specs.Units.{bytes_in}
use Rattle.model_types.specs.declared.Pins.{Pins}
use Rattle.model_states.specs.States.{fresh_state}
use Rattle.model_levels.specs.Levels.{vpp_high, unlocked}
use Rattle.loader_run.specs.Runs.{lent_number, job_of}
use Rattle.loader.specs.declared.Work.TheVariants.{Load}

-- a device with P 2, E 3, S 1
abbrev pub device_of : ℕ → Bool → Device
device_of n word = record { part = record { number = n; word = word }; program = 2; erase = 3; suspend = 1 }

-- RP# (1 high, 2 at V_HH), VPP in millivolts, WP#
abbrev pub levels : ℕ → ℕ → ℕ → Pins
levels rp vpp wp = record { rp = rp; vpp = vpp; wp = wp }

-- a run of block k on a fresh device, its array and block lent by as many bytes as they have, is refused by no number, VPP is high and the
-- boot block is unlocked
abbrev pub starts_at : Pins → ℕ → Bool → ℕ → Bool
starts_at p n word k =
    let d : Device = device_of n word in
    (eqb (lent_number (job_of (Load true) d fresh_state p k) (bytes_in word (size_of d.part)) (bytes_in word (length_of d.part k))
    (bytes_in word (length_of d.part k))) 0
    && vpp_high d.part p)
    && unlocked d.part p 0

-- blocks 0 up to k
abbrev pub starts_up_to : Pins → ℕ → Bool → ℕ → Bool
starts_up_to p n word zero = starts_at p n word zero
starts_up_to p n word (suc k) = starts_up_to p n word k && starts_at p n word (suc k)

-- all blocks: four, five or seven
abbrev pub four_start : Pins → Bool
four_start p = ((starts_up_to p 1 false 3 && starts_up_to p 2 false 3) && starts_up_to p 3 false 3) && starts_up_to p 4 false 3

-- .. of devices 5 to 8, in bytes or in words
abbrev pub large_start : Pins → Bool → Bool
large_start p word = ((starts_up_to p 5 word 4 && starts_up_to p 6 word 4) && starts_up_to p 7 word 6) && starts_up_to p 8 word 6

-- devices 1 to 4 with RP# at V_HH; devices 5 to 8 at 12 V and at 5 V, with RP# at V_HH and with WP# high, in bytes and in words
abbrev pub all_start : Bool
all_start =
    ((((four_start (levels 2 12000 0) && large_start (levels 2 12000 0) false) && large_start (levels 1 12000 1) false)
    && large_start (levels 1 5000 1) false)
    && (large_start (levels 2 12000 0) true && large_start (levels 1 12000 1) true))
    && (large_start (levels 1 5000 1) true && large_start (levels 2 5000 0) true)
