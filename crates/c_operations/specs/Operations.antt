-- A cycle while an operation is awaited, running or suspended, in numbers. None of this is part of what a buyer must believe: the answer
-- is the cycle's own, whichever way it goes.
use Rattle.std.specs.Prelude.{◌≡◌, Bool, true, false, ◌&&◌, ℕ, ◌/◌, ◌%◌, ◌≤◌, ◌<◌, eqb, ltb, leb, if◌then◌else◌}
use Rattle.device.specs.declared.Part.{Part}
use Rattle.device.specs.Parts.{size_of}
use Rattle.model_types.specs.declared.Phase.{Phase}
use Rattle.model_types.specs.declared.Effect.{Effect}
use Rattle.model_levels.specs.Levels.{vpp_low, locked}
use Rattle.model_types.specs.Phases.{is_busy, is_suspending}
use Rattle.model_states.specs.States.{most_left}
use Rattle.model_operation.specs.Settling.{cut_of, finish_of, residue_for}
use Rattle.model_rules.specs.Cycles.{code_place, identifier_of}
use Rattle.c_cycle.specs.Values.{device_in, phase_in, no_state, cycle_in}
use Rattle.c_cycle.specs.declared.DeviceNumbers.{DeviceNumbers}
use Rattle.c_cycle.specs.declared.StateNumbers.{StateNumbers}
use Rattle.c_cycle.specs.declared.BusNumbers.{BusNumbers}
use Rattle.c_cycle.specs.declared.AnswerNumbers.{AnswerNumbers}
use Rattle.c_ordinary.specs.Ordinary.{Ordinary}
use Rattle.c_answers.specs.Answers.{refused_as, given_as}

-- the phase that a state's numbers name
abbrev pub phase_of : StateNumbers → Phase
phase_of n = phase_in n.phase n.data n.suspend

-- the numbers of a proper state with an operation running
pub record Running (d : DeviceNumbers) (n : StateNumbers) : Type 0 where
  pub there : no_state n ≡ false
  pub busy : is_busy (phase_of n) ≡ true
  pub unheld : is_suspending (phase_of n) ≡ false
  pub mode : n.mode ≡ 1
  pub low : n.status % 8 ≡ 0
  pub unready : n.status / 64 ≡ 0
  pub more : 0 < n.left
  pub most : n.left ≤ most_left (device_in d) (phase_of n)
  pub inside : n.address < size_of (device_in d).part
  pub erases : (n.phase ≡ 3 → ⊥) → n.phase ≡ 4

-- a read or an idle cycle that ends an operation
pub record Ending (d : DeviceNumbers) (n : StateNumbers) (b : BusNumbers) : Type 0 where
  pub running : Running d n
  pub last : n.left ≡ 1
  pub unwritten : eqb b.kind 1 ≡ false

-- what the end does to the array
abbrev pub end_in : Part → StateNumbers → Effect
end_in part n = finish_of (phase_of n) part n.address

-- the numbers of a proper state with a suspend under way
pub record Suspending (d : DeviceNumbers) (n : StateNumbers) : Type 0 where
  pub phase : n.phase ≡ 6
  pub mode : n.mode ≡ 1
  pub unit : n.data ≡ 0
  pub low : n.status % 8 ≡ 0
  pub unready : n.status / 64 ≡ 0
  pub some : 0 < n.suspend
  pub within : n.suspend ≤ d.suspend
  pub more : 0 < n.left
  pub most : n.left ≤ d.erase
  pub inside : n.address < size_of (device_in d).part

-- the numbers of a proper state with an erase suspended
pub record Suspended (d : DeviceNumbers) (n : StateNumbers) : Type 0 where
  pub phase : n.phase ≡ 5
  pub mode : n.mode ≤ 1
  pub unit : n.data ≡ 0
  pub suspend : n.suspend ≡ 0
  pub low : n.status % 8 ≡ 0
  pub held : n.status / 64 ≡ 3
  pub more : 0 < n.left
  pub most : n.left ≤ d.erase
  pub inside : n.address < size_of (device_in d).part

-- the numbers of a proper state with a second write awaited, in such a phase
pub record Awaiting (n : StateNumbers) (ph : ℕ) : Type 0 where
  pub phase : n.phase ≡ ph
  pub mode : n.mode ≡ 1
  pub unit : n.data ≡ 0
  pub suspend : n.suspend ≡ 0
  pub low : n.status % 8 ≡ 0
  pub ready : n.status / 64 ≡ 2
  pub left : n.left ≡ 0
  pub address : n.address ≡ 0

-- .. and this write starts its operation, where VPP is not low: SR.3 is clear, and the address not locked
pub record Starting (d : DeviceNumbers) (n : StateNumbers) (b : BusNumbers) (ph : ℕ) : Type 0 where
  pub awaiting : Awaiting n ph
  pub clear : n.status / 8 % 2 ≡ 0
  pub unlocked : locked (device_in d).part (cycle_in b) ≡ false

-- .. or bars it: SR.3 is clear, and the address locked
pub record Barred (d : DeviceNumbers) (n : StateNumbers) (b : BusNumbers) (ph : ℕ) : Type 0 where
  pub awaiting : Awaiting n ph
  pub clear : n.status / 8 % 2 ≡ 0
  pub locked : locked (device_in d).part (cycle_in b) ≡ true

-- an ordinary cycle on so many bytes, with VPP not low
pub record Supplied (d : DeviceNumbers) (b : BusNumbers) (len : ℕ) : Type 0 where
  pub ordinary : Ordinary d b len
  pub supplied : vpp_low (device_in d).part (cycle_in b).pins ≡ false

-- RP# as it is up
unfoldable pub raised_in : ℕ → ℕ
raised_in rp = if eqb rp 0 then 1 else rp

-- an operation goes on, where the levels are good: RP# is up, and VPP not low
unfoldable pub up_in : ℕ → ℕ → ℕ → Bool
up_in number rp vpp = if eqb rp 0 then false else if leb 11400 vpp then true else leb 4500 vpp && leb 5 number

-- a cycle that cuts what is running: RP# is low, or VPP is and the cycle is no write
pub record Cutting (d : DeviceNumbers) (b : BusNumbers) : Type 0 where
  pub low : eqb b.rp 0 ≡ false → vpp_low (device_in d).part (cycle_in b).pins ≡ true
  pub unwritten : eqb b.rp 0 ≡ false → eqb b.kind 1 ≡ false

-- what the cut does to the array
abbrev pub cut_in : Part → StateNumbers → Effect
cut_in part n = cut_of (phase_of n) part n.address

-- the units of residue that it takes
abbrev pub cut_takes : Part → StateNumbers → ℕ
cut_takes part n = residue_for (phase_of n) part n.address

-- an identifier read that leaves the state: the code, or refusal 9
unfoldable pub coded_as : Part → StateNumbers → ℕ → AnswerNumbers
coded_as part n a = if ltb 1 (code_place part a) then refused_as n 9 else given_as n (identifier_of part a)
