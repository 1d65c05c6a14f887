-- What the data sheet's sentences are said with, of a device between two cycles (`World`) and of cycles (`Bus`).
use Rattle.std.specs.Prelude.{◌≡◌, Bool, true, false, not, ◌&&◌, ◌||◌, List, [], ◌∷◌, ℕ, ◌+◌, ◌-◌, length, eqb, ltb, if◌then◌else◌}
use Rattle.device.specs.declared.Device.{Device}
use Rattle.model_types.specs.declared.Kind.{Kind}
use Rattle.model_types.specs.declared.Kind.TheVariants.{Read, Write, Idle}
use Rattle.model_types.specs.declared.Cycle.{Cycle}
use Rattle.model_types.specs.declared.State.{State}
use Rattle.model_types.specs.declared.Pins.{Pins}
use Rattle.model_types.specs.declared.Phase.{Phase}
use Rattle.model_types.specs.declared.Phase.TheVariants.{Free, EraseAwaited, DataAwaited, Programming, Erasing, Suspending, Suspended}
use Rattle.model_types.specs.declared.Mode.TheVariants.{Status}
use Rattle.model_types.specs.declared.Effect.{Effect}
use Rattle.model_types.specs.declared.Effect.TheVariants.{Nothing, Program, Erase, CutProgram, CutErase}
use Rattle.model_types.specs.Kinds.{is_write}
use Rattle.model_levels.specs.Levels.{rp_low, vpp_low, bad_levels}
use Rattle.model_types.specs.Phases.{is_free, is_pending}
use Rattle.model_types.specs.Status.{SR7, SR6, SR5, SR4, SR3, with_bits, without_bits}
use Rattle.model_states.specs.States.{is_at_rest}
use Rattle.model_commands.specs.Commands.{command_of}
use Rattle.model_operation.specs.Settling.{cut_of, finish_of, cut_bits, settle_of}
use Rattle.model_judge.specs.Judging.{judge_of}
use Rattle.model_rules.specs.Cycles.{decide_of}
use Rattle.model.specs.declared.Seen.TheVariants.{NoData}
use Rattle.model.specs.Arrays.{is_refusal, array_of}
use Rattle.model.specs.Begun.{begun_by}
use Rattle.model_history.specs.History.{Bus, World, stepped, world_after, seen_on, effect_by, is_cut}

-- none of refusals 1 to 6 is against a cycle
abbrev pub Judged : Device → World → Bus → Type 0
Judged d v b = judge_of d v.state b.cycle (length v.bytes) (length b.residue) ≡ 0

-- a cycle is not refused
abbrev pub is_taken : Device → World → Bus → Bool
is_taken d v b = not (is_refusal (decide_of d v.state b.cycle (length v.bytes) (length b.residue)).reply)

-- a cycle that leads to a device and shows no data
abbrev pub Quietly : Device → World → Bus → World → Type 0
Quietly d v b w = (stepped d v b ≡ w) × (seen_on d v b ≡ NoData)

-- the operation that a cycle begins
abbrev pub begun_at : Device → World → Bus → Effect
begun_at d v b = begun_by d v.state b.cycle (length v.bytes) (length b.residue)

-- an operation is running: an erase that is being suspended, or is suspended, is not
abbrev pub is_running : Phase → Bool
is_running Free = false
is_running EraseAwaited = false
is_running DataAwaited = false
is_running (Programming b) = true
is_running Erasing = true
is_running (Suspending n) = false
is_running Suspended = false

-- an erase is running, being suspended or suspended
abbrev pub is_erase : Phase → Bool
is_erase Free = false
is_erase EraseAwaited = false
is_erase DataAwaited = false
is_erase (Programming b) = false
is_erase Erasing = true
is_erase (Suspending n) = true
is_erase Suspended = true

-- an operation ends
abbrev pub is_end : Effect → Bool
is_end Nothing = false
is_end (Program a y) = true
is_end (Erase k) = true
is_end (CutProgram a y) = false
is_end (CutErase k) = false

-- a cycle counts for the operation that is running: refused cycles do not, nor those of a suspend (R-cycle-5, R-busy-2)
abbrev pub counts_on : Device → World → Bus → Bool
counts_on d v b = is_running v.state.phase && is_taken d v b

-- how many of a list count
abbrev pub counted_in : Device → World → List Bus → ℕ
counted_in d v [] = 0
counted_in d v (b ∷ bs) = (if counts_on d v b then 1 else 0) + counted_in d (stepped d v b) bs

-- the busy time of an operation: P or E cycles (R-part-5)
abbrev pub busy_time : Device → Effect → ℕ
busy_time d Nothing = 0
busy_time d (Program a y) = d.program
busy_time d (Erase k) = d.erase
busy_time d (CutProgram a y) = 0
busy_time d (CutErase k) = 0

-- where cycles lead that follow the one that begins an operation
abbrev pub after_begun : Device → World → Bus → List Bus → World
after_begun d v b bs = world_after d (stepped d v b) bs

-- .. and how many of them count
abbrev pub counted_after : Device → World → Bus → List Bus → ℕ
counted_after d v b bs = counted_in d (stepped d v b) bs

-- behind them a cycle is the last that counts, and does not cut
abbrev pub IsLast : Device → World → Bus → Effect → List Bus → Bus → Type 0
IsLast d v b op bs e =
    (counted_after d v b bs + 1 ≡ busy_time d op) × (counts_on d (after_begun d v b bs) e ≡ true)
    × (is_cut (effect_by d (after_begun d v b bs) e) ≡ false)

-- RP# is up, VPP is not low, and a cycle is the last of the operation that is running (R-cycle-5)
abbrev pub LastOf : Device → World → Bus → Type 0
LastOf d v b =
    (rp_low b.cycle.pins ≡ false) × (vpp_low d.part b.cycle.pins ≡ false)
    × (is_running v.state.phase ≡ true) × (v.state.left ≡ 1)

-- RP# is up, and VPP is low with an operation running, being suspended or suspended (R-cycle-4)
abbrev pub Falls : Device → World → Bus → Type 0
Falls d v b = (rp_low b.cycle.pins ≡ false) × (vpp_low d.part b.cycle.pins ≡ true) × (is_pending v.state.phase ≡ true)

-- the state that the end of an operation leaves: SR.7 set, mode as it was (R-cycle-5)
abbrev pub end_state : State → State
end_state s = is_at_rest s s.mode (with_bits s.status SR7)

-- the state that a cut by VPP leaves: SR.7, SR.3 and SR.4 or SR.5 set, SR.6 clear, read status (R-cycle-4)
abbrev pub cut_state : State → State
cut_state s = is_at_rest s Status (with_bits (without_bits s.status SR6) (cut_bits s.phase))

-- the array that the end of the operation leaves (R-cycle-5)
abbrev pub end_bytes : Device → World → Bus → List ℕ
end_bytes d v b = array_of (finish_of v.state.phase d.part v.state.address) d.part b.residue v.bytes

-- .. and the one that its cut leaves (R-cycle-7)
abbrev pub cut_bytes : Device → World → Bus → List ℕ
cut_bytes d v b = array_of (cut_of v.state.phase d.part v.state.address) d.part b.residue v.bytes

-- which writes a device takes notice of while an operation is pending (R-busy-1, R-busy-2, R-suspended-1)
abbrev pub heeds : Phase → ℕ → Bool
heeds Free b = true
heeds EraseAwaited b = true
heeds DataAwaited b = true
heeds (Programming x) b = false
heeds Erasing b = eqb b 0xB0
heeds (Suspending n) b = eqb b 0x70
heeds Suspended b = (eqb b 0xFF || eqb b 0x70) || eqb b 0xD0

-- an idle cycle in the place of another, with its levels; OE# is normal
abbrev pub idle_for : Bus → Bus
idle_for b = record {
  cycle = record { kind = Idle; pins = b.cycle.pins; oe = 0; address = b.cycle.address; «data» = b.cycle.data };
  residue = b.residue;
}

-- a write that is ignored: none of refusals 1 to 6 is against it, RP# is up, and the phase that steps 1 to 3 leave takes no notice of it
abbrev pub is_ignored : Device → World → Bus → Bool
is_ignored d v b =
    eqb (judge_of d v.state b.cycle (length v.bytes) (length b.residue)) 0
    && (is_write b.cycle.kind
    && not (rp_low b.cycle.pins || heeds (settle_of d.part v.state b.cycle.pins).state.phase (command_of b.cycle)))

-- the cycles with an idle one in the place of each write that is ignored
abbrev pub unheard : Device → World → List Bus → List Bus
unheard d v [] = []
unheard d v (b ∷ bs) = (if is_ignored d v b then idle_for b else b) ∷ unheard d (stepped d v b) bs

-- the next cycle ends neither the operation nor its suspend
abbrev pub goes_on : Phase → ℕ → Bool
goes_on Free l = false
goes_on EraseAwaited l = false
goes_on DataAwaited l = false
goes_on (Programming b) l = ltb 1 l
goes_on Erasing l = ltb 1 l
goes_on (Suspending n) l = ltb 1 n
goes_on Suspended l = true

-- the cycles to go after one that was counted, of the operation and of its suspend (R-cycle-5, R-busy-2)
abbrev pub left_then : Phase → ℕ → ℕ
left_then Free l = l
left_then EraseAwaited l = l
left_then DataAwaited l = l
left_then (Programming b) l = l - 1
left_then Erasing l = l - 1
left_then (Suspending n) l = l
left_then Suspended l = l

-- .. and the phase, a cycle of a suspend being counted off
abbrev pub phase_then : Phase → Phase
phase_then Free = Free
phase_then EraseAwaited = EraseAwaited
phase_then DataAwaited = DataAwaited
phase_then (Programming b) = Programming b
phase_then Erasing = Erasing
phase_then (Suspending n) = Suspending (n - 1)
phase_then Suspended = Suspended

-- a state with one cycle counted, and nothing else changed
abbrev pub one_less : State → State
one_less s = record {
  mode = s.mode;
  status = s.status;
  phase = phase_then s.phase;
  left = left_then s.phase s.left;
  address = s.address;
  wear = s.wear;
}

-- the error bits SR.5, SR.4 and SR.3 (R-status-1)
pub data ErrorBit : ℕ → Type 0 where
  erase_error : ErrorBit SR5
  program_error : ErrorBit SR4
  supply_error : ErrorBit SR3

-- a cycle clears the error bits: RP# is low, or it writes 50H and its steps 1 to 3 leave the device at rest (R-status-2)
abbrev pub clears : Device → World → Bus → Bool
clears d v b =
    is_taken d v b
    && (rp_low b.cycle.pins
    || (is_write b.cycle.kind
    && (eqb (command_of b.cycle) 0x50 && is_free (settle_of d.part v.state b.cycle.pins).state.phase)))

-- .. and none of a list does
abbrev pub none_clears : Device → World → List Bus → Bool
none_clears d v [] = true
none_clears d v (b ∷ bs) = not (clears d v b) && none_clears d (stepped d v b) bs

-- a confirm or data: the write that an operation may start with (R-second-1)
abbrev pub is_confirm : Phase → Bus → Bool
is_confirm Free b = false
is_confirm EraseAwaited b = is_write b.cycle.kind && eqb (command_of b.cycle) 0xD0
is_confirm DataAwaited b = is_write b.cycle.kind
is_confirm (Programming x) b = false
is_confirm Erasing b = false
is_confirm (Suspending n) b = false
is_confirm Suspended b = false

-- a confirm or data that none of refusals 1 to 6 is against, with RP# up
abbrev pub Confirms : Device → World → Bus → Type 0
Confirms d v b = Judged d v b × (rp_low b.cycle.pins ≡ false) × (is_confirm v.state.phase b ≡ true)

-- the error bit of the operation whose second write is awaited
abbrev pub error_of : Phase → ℕ
error_of Free = 0
error_of EraseAwaited = SR5
error_of DataAwaited = SR4
error_of (Programming x) = 0
error_of Erasing = 0
error_of (Suspending n) = 0
error_of Suspended = 0

-- a cycle with other levels of RP#, WP# and OE#, the pins that unlock
abbrev pub levelled : ℕ → ℕ → ℕ → Bus → Bus
levelled rp wp oe b =
    let pins : Pins = record { rp = rp; wp = wp; vpp = b.cycle.pins.vpp } in
    let cycle : Cycle = record { kind = b.cycle.kind; pins = pins; oe = oe; address = b.cycle.address; «data» = b.cycle.data } in
    record { cycle = cycle; residue = b.residue }

-- both are levels that the rules allow, and RP# is low in both or in none
abbrev pub Comparable : Device → Bus → Bus → Type 0
Comparable d b c =
    (bad_levels d.part b.cycle ≡ false) × (bad_levels d.part c.cycle ≡ false) × (rp_low c.cycle.pins ≡ rp_low b.cycle.pins)

-- a cycle with no address and no data where it is idle (R-cycle-6)
abbrev pub bare_of : Kind → Cycle → Cycle
bare_of Read c = c
bare_of Write c = c
bare_of Idle c = record { kind = c.kind; pins = c.pins; oe = c.oe; address = 0; «data» = 0 }

-- .. and so each of a list
abbrev pub all_bare : List Bus → List Bus
all_bare [] = []
all_bare (b ∷ bs) = record { cycle = bare_of b.cycle.kind b.cycle; residue = b.residue } ∷ all_bare bs
