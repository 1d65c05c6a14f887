-- A bus cycle in numbers, and what makes one ordinary. What is ordinary is not part of what a buyer must believe: the answer is the cycle's
-- own, whichever way it goes.
use Rattle.std.specs.Prelude.{◌≡◌, Bool, true, false, not, ◌&&◌, ℕ, ◌+◌, ◌-◌, ◌*◌, ◌/◌, ◌%◌, ◌≤◌, ◌<◌, eqb, ltb, leb, if◌then◌else◌}
use Rattle.std.specs.Int.Bits.{bit_and}
use Rattle.units.specs.Units.{lent_in}
use Rattle.device.specs.Parts.{unknown_device, size_of}
use Rattle.model_levels.specs.Levels.{bad_pins}
use Rattle.c_cycle.specs.Values.{device_in, pins_in}
use Rattle.c_cycle.specs.declared.DeviceNumbers.{DeviceNumbers}
use Rattle.c_cycle.specs.declared.StateNumbers.{StateNumbers}
use Rattle.c_cycle.specs.declared.BusNumbers.{BusNumbers}
use Rattle.c_cycle.specs.declared.AnswerNumbers.{AnswerNumbers}
use Rattle.c_ordinary.specs.declared.Commanded.{Commanded}

-- the bytes of a part's array, none where there is no such part
unfoldable pub bytes_for : ℕ → ℕ
bytes_for n =
    if eqb n 1 then 131072
    else if eqb n 2 then 131072
    else if eqb n 3 then 16384
    else if eqb n 4 then 16384
    else if eqb n 5 then 262144
    else if eqb n 6 then 262144
    else if eqb n 7 then 524288
    else if eqb n 8 then 524288
    else 0

-- the units of a known part's array where so many bytes are lent, none otherwise
unfoldable pub units_for : ℕ → ℕ → ℕ → ℕ
units_for number word len =
    if not (eqb (bytes_for number) len) then 0
    else if eqb word 0 then len
    else if not (eqb word 1) then 0
    else if ltb number 5 then 0
    else len / 2

-- levels that are good on every part, with RP# up and OE# low: VPP at 12 V, at 5 V (low on devices 1 to 4), or at 1,500 mV and below
unfoldable pub level_in : ℕ → ℕ → ℕ → ℕ → Bool
level_in rp oe wp vpp =
    if not (eqb oe 0) then false
    else if ltb 1 wp then false
    else if eqb rp 0 then false
    else if ltb 2 rp then false
    else if leb 11400 vpp then leb vpp 12600
    else if leb 4500 vpp then leb vpp 5500
    else leb vpp 1500

-- levels that are good on every part, with OE# low, wherever RP# is: VPP at 12 V, at 5 V (low on devices 1 to 4), or at 1,500 mV and below
unfoldable pub fair_level_in : ℕ → ℕ → ℕ → ℕ → Bool
fair_level_in rp oe wp vpp =
    if not (eqb oe 0) then false
    else if ltb 1 wp then false
    else if ltb 2 rp then false
    else if leb 11400 vpp then leb vpp 12600
    else if leb 4500 vpp then leb vpp 5500
    else leb vpp 1500

-- the test of the times of a program, an erase and a suspend
unfoldable pub timed_in : DeviceNumbers → Bool
timed_in n =
    if eqb n.program 0 then false
    else if eqb n.erase 0 then false
    else if eqb n.suspend 0 then false
    else leb n.suspend 100

-- the test of an ordinary cycle on so many bytes, but for its kind
unfoldable pub ordinary_in : DeviceNumbers → BusNumbers → ℕ → Bool
ordinary_in n b len =
    if not (timed_in n) then false
    else if level_in b.rp b.oe b.wp b.vpp then ltb b.address (units_for n.number n.word len)
    else false

-- the test of a fair cycle on so many bytes, but for its kind
unfoldable pub fair_in : DeviceNumbers → BusNumbers → ℕ → Bool
fair_in n b len =
    if not (timed_in n) then false
    else if fair_level_in b.rp b.oe b.wp b.vpp then ltb b.address (units_for n.number n.word len)
    else false

-- the first four numbers of a state as one
abbrev pub key_of : StateNumbers → ℕ
key_of n = n.mode + 256 * n.status + 65536 * n.phase + 16777216 * n.suspend

-- the test of a state at rest
unfoldable pub resting_in : StateNumbers → Bool
resting_in n =
    if not (eqb (n.left + 65536 * n.data + 4294967296 * n.address) 0) then false
    else if ltb 2 n.mode then false
    else eqb (key_of n / 256 % 8) 0 && eqb (key_of n / 16384) 2

-- a cycle on so many bytes that refusals 1, 2, 4 and 5 do not stop: a kind, OE# low, a known device, good levels, an array of its size, an
-- address inside
pub record Fair (n : DeviceNumbers) (b : BusNumbers) (len : ℕ) : Type 0 where
  pub kind : b.kind ≤ 2
  pub oe : b.oe ≡ 0
  pub known : unknown_device (device_in n) ≡ false
  pub pins : bad_pins (device_in n).part (pins_in b.rp b.wp b.vpp) ≡ false
  pub sized : lent_in (device_in n).part.word len ≡ size_of (device_in n).part
  pub inside : b.address < size_of (device_in n).part

-- .. and an ordinary one: RP# is up
pub record Ordinary (n : DeviceNumbers) (b : BusNumbers) (len : ℕ) : Type 0 where
  pub fair : Fair n b len
  pub up : eqb b.rp 0 ≡ false

-- the numbers of a proper state with nothing awaited, running or suspended
pub record Resting (n : StateNumbers) : Type 0 where
  pub address : n.address ≡ 0
  pub left : n.left ≡ 0
  pub unit : n.data ≡ 0
  pub phase : n.phase ≡ 0
  pub suspend : n.suspend ≡ 0
  pub mode : n.mode ≤ 2
  pub low : n.status % 8 ≡ 0
  pub ready : n.status / 64 ≡ 2

-- what is seen, and the state at rest or with a second write awaited, in a mode, status and phase
abbrev pub rested_as : StateNumbers → ℕ → ℕ → ℕ → ℕ → ℕ → AnswerNumbers
rested_as n seen v m sr ph =
    record {
      seen = seen;
      value = v;
      state = record { mode = m; status = sr; phase = ph; suspend = 0; left = 0; «data» = 0; address = 0; wear = n.wear };
    }

-- a command that is known, by what it sets
abbrev pub sets_as : ℕ → ℕ → ℕ → Commanded
sets_as mode sr phase = record { known = true; mode = mode; status = sr; phase = phase }

-- one that is not known
abbrev pub unset_as : Commanded
unset_as = record { known = false; mode = 0; status = 0; phase = 0 }

-- what a cycle other than a read sets at rest, by its kind and byte; other bytes are not known here
unfoldable pub commanded_of : ℕ → ℕ → ℕ → ℕ → Commanded
commanded_of kind byte mode sr =
    if eqb kind 2 then sets_as mode sr 0
    else if not (eqb kind 1) then unset_as
    else if eqb byte 0xFF then sets_as 0 sr 0
    else if eqb byte 0x90 then sets_as 2 sr 0
    else if eqb byte 0x70 then sets_as 1 sr 0
    else if eqb byte 0x50 then sets_as mode (bit_and sr 0xC7) 0
    else if eqb byte 0x20 then sets_as 1 sr 1
    else if eqb byte 0x40 then sets_as 1 sr 2
    else unset_as

-- what B0H sets at rest, and 10H on a large part; other bytes are not known
unfoldable pub seldom_of : Bool → ℕ → ℕ → Commanded
seldom_of large byte sr = if eqb byte 0xB0 then sets_as 0 sr 0 else if large && eqb byte 0x10 then sets_as 1 sr 2 else unset_as

-- what a cycle other than a read sets at rest, by its kind and byte; a byte that is no command is not known
unfoldable pub commanded_by : Bool → ℕ → ℕ → ℕ → ℕ → Commanded
commanded_by large kind byte mode sr =
    if eqb kind 2 then sets_as mode sr 0
    else if not (eqb kind 1) then unset_as
    else if eqb byte 0xFF then sets_as 0 sr 0
    else if eqb byte 0x90 then sets_as 2 sr 0
    else if eqb byte 0x70 then sets_as 1 sr 0
    else if eqb byte 0x50 then sets_as mode (bit_and sr 0xC7) 0
    else if eqb byte 0x20 then sets_as 1 sr 1
    else if eqb byte 0x40 then sets_as 1 sr 2
    else seldom_of large byte sr
