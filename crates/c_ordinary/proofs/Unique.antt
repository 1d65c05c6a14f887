-- Two results that a promise of this crate allows are equal, and so is what it leaves in the array.
use mathlib.Core.Path.{◌≡◌}
use mathlib.Core.Bool.{Bool}
use Prim.Native.Nat.{ℕ, ◌<◌, ◌%◌}
use lib.Dec.{leb}
use Rattle.common.specs.Choice.{Unique}
use Rattle.common.proofs.Choice.{only}
use Rattle.c_cycle.specs.declared.DeviceNumbers.{DeviceNumbers}
use Rattle.c_cycle.specs.declared.StateNumbers.{StateNumbers}
use Rattle.c_cycle.specs.declared.BusNumbers.{BusNumbers}
use Rattle.c_cycle.specs.declared.AnswerNumbers.{AnswerNumbers}
use Rattle.c_ordinary.specs.Ordinary.{units_for, level_in, fair_level_in, timed_in, ordinary_in, fair_in, key_of, resting_in, rested_as, commanded_of, commanded_by}
use Rattle.c_ordinary.specs.declared.Commanded.{Commanded}

pub is_level_unique : (rp oe wp vpp : ℕ) → Unique (λ (r : Bool). r ≡ level_in rp oe wp vpp)
is_level_unique rp oe wp vpp = only (level_in rp oe wp vpp)

pub is_fair_level_unique : (rp oe wp vpp : ℕ) → Unique (λ (r : Bool). r ≡ fair_level_in rp oe wp vpp)
is_fair_level_unique rp oe wp vpp = only (fair_level_in rp oe wp vpp)

pub is_timed_unique : (n : DeviceNumbers) → Unique (λ (r : Bool). r ≡ timed_in n)
is_timed_unique n = only (timed_in n)

pub is_ordinary_unique : (n : DeviceNumbers) (b : BusNumbers) (len : ℕ) → Unique (λ (r : Bool). r ≡ ordinary_in n b len)
is_ordinary_unique n b len = only (ordinary_in n b len)

pub is_fair_unique : (n : DeviceNumbers) (b : BusNumbers) (len : ℕ) → Unique (λ (r : Bool). r ≡ fair_in n b len)
is_fair_unique n b len = only (fair_in n b len)

pub is_resting_unique : (n : StateNumbers) → Unique (λ (r : Bool). r ≡ resting_in n)
is_resting_unique n = only (resting_in n)

pub units_of_unique : (number word len : ℕ) → Unique (λ (r : ℕ). r ≡ units_for number word len)
units_of_unique number word len = only (units_for number word len)

pub key_of_unique : (n : StateNumbers) → Unique (λ (r : ℕ). (r ≡ key_of n) × (n.mode < 256) × (n.status < 256) × (n.phase < 256))
key_of_unique n r q p s = only (key_of n) r q p.0 s.0

pub rested_unique : (n : StateNumbers) (seen v mode sr phase : ℕ) → Unique (λ (r : AnswerNumbers). r ≡ rested_as n seen v mode sr phase)
rested_unique n seen v mode sr phase = only (rested_as n seen v mode sr phase)

pub command_of_unique : (kind byte mode sr : ℕ) → Unique (λ (r : Commanded). r ≡ commanded_of kind byte mode sr)
command_of_unique kind byte mode sr = only (commanded_of kind byte mode sr)

pub command_by_unique : (number kind unit mode sr : ℕ) → Unique (λ (r : Commanded). r ≡ commanded_by (leb 5 number) kind (unit % 256) mode sr)
command_by_unique number kind unit mode sr = only (commanded_by (leb 5 number) kind (unit % 256) mode sr)
