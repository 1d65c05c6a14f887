-- What a cut by RP# or VPP leaves, and that nothing ends in a cycle with VPP low.
use mathlib.Core.Path.{◌≡◌, refl, sym, ap, ◌∙◌}
use mathlib.Core.Bool.{Bool, true, false, ◌&&◌, cond}
use mathlib.Core.List.{List}
use Prim.Native.Nat.{ℕ}
use lib.ListN.{length, get_or, set}
use lib.Bits.{bit_and, bit_or}
use Rattle.std.specs.Prelude.{if◌then◌else◌}
use Rattle.common.proofs.Choice.{if_ind, unlike}
use Rattle.device.specs.declared.Part.{Part}
use Rattle.device.specs.declared.Device.{Device}
use Rattle.device.specs.Parts.{block_of}
use Rattle.model_types.specs.declared.Kind.TheVariants.{Read, Write, Idle}
use Rattle.model_types.specs.declared.Mode.TheVariants.{Status}
use Rattle.model_types.specs.declared.Cycle.{Cycle}
use Rattle.model_types.specs.declared.Phase.{Phase}
use Rattle.model_types.specs.declared.Phase.TheVariants.{Free, EraseAwaited, DataAwaited, Programming, Erasing, Suspending, Suspended}
use Rattle.model_types.specs.declared.State.{State}
use Rattle.model_types.specs.declared.Action.{Action}
use Rattle.model_types.specs.declared.Effect.{Effect}
use Rattle.model_types.specs.declared.Effect.TheVariants.{Nothing}
use Rattle.model_types.specs.declared.Reply.TheVariants.{Quiet, Gives, Refuses}
use Rattle.model_types.specs.declared.Settled.{Settled}
use Rattle.model_types.specs.declared.Decision.{Decision}
use Rattle.model_levels.specs.Levels.{rp_low, vpp_low}
use Rattle.model_types.specs.Phases.{is_pending, is_busy}
use Rattle.model_states.specs.States.{reset_of}
use Rattle.model_commands.specs.Commands.{command_of, first_write, is_refuse}
use Rattle.model_actions.specs.Performed.{performed_of}
use Rattle.model_operation.specs.Settling.{settled_as, cut_of, cut_by, settle_of}
use Rattle.model_rules.specs.Cycles.{decided_as}
use Rattle.model.specs.declared.Seen.TheVariants.{Data, Refused}
use Rattle.model.specs.Arrays.{residual, array_of}
use Rattle.model.proofs.Outcome.{outcome, accept_effect}
use Rattle.model_history.specs.History.{Bus, World, world_of, stepped, seen_on, effect_by}
use Rattle.model_sheet.specs.Sheet.{Judged, Quietly, Falls, cut_state, cut_bytes, is_erase, is_end}
use Rattle.model_sheet.specs.Sentences.{Cut}
use Rattle.model_sheet.proofs.SettledCases.{settle_reset, settle_cut, when_low, when_idle, when_read, when_write, when_refused, leads, shows}

-- ---- what is left of the array
program_left : (ph : Phase) (y : ℕ) → ph ≡ Programming y → (part : Part) (a : ℕ) (rs xs : List ℕ)
    → array_of (cut_of ph part a) part rs xs ≡ set xs a (bit_and (get_or xs a 0) (bit_or y (get_or rs 0 0)))
program_left ph y e part a rs xs = ap (λ (x : Phase). array_of (cut_of x part a) part rs xs) e

erase_left : (ph : Phase) → is_erase ph ≡ true → (part : Part) (a : ℕ) (rs xs : List ℕ) → array_of (cut_of ph part a) part rs xs ≡ residual part (block_of part a) rs xs
erase_left Free e part a rs xs = absurd (unlike (sym e))
erase_left EraseAwaited e part a rs xs = absurd (unlike (sym e))
erase_left DataAwaited e part a rs xs = absurd (unlike (sym e))
erase_left (Programming b) e part a rs xs = absurd (unlike (sym e))
erase_left Erasing e part a rs xs = refl
erase_left (Suspending n) e part a rs xs = refl
erase_left Suspended e part a rs xs = refl

nothing_left : (ph : Phase) → is_pending ph ≡ false → (part : Part) (a : ℕ) (rs xs : List ℕ) → array_of (cut_of ph part a) part rs xs ≡ xs
nothing_left Free e part a rs xs = refl
nothing_left EraseAwaited e part a rs xs = refl
nothing_left DataAwaited e part a rs xs = refl
nothing_left (Programming b) e part a rs xs = absurd (unlike e)
nothing_left Erasing e part a rs xs = absurd (unlike e)
nothing_left (Suspending n) e part a rs xs = absurd (unlike e)
nothing_left Suspended e part a rs xs = absurd (unlike e)

-- ---- nothing ends with VPP low
cut_is : (ph : Phase) (part : Part) (a : ℕ) → is_end (cut_of ph part a) ≡ false
cut_is Free part a = refl
cut_is EraseAwaited part a = refl
cut_is DataAwaited part a = refl
cut_is (Programming b) part a = refl
cut_is Erasing part a = refl
cut_is (Suspending n) part a = refl
cut_is Suspended part a = refl

idle_phase : (ph : Phase) → is_pending ph ≡ false → is_busy ph ≡ false
idle_phase Free e = refl
idle_phase EraseAwaited e = refl
idle_phase DataAwaited e = refl
idle_phase (Programming b) e = absurd (unlike e)
idle_phase Erasing e = absurd (unlike e)
idle_phase (Suspending n) e = absurd (unlike e)
idle_phase Suspended e = refl

settle_ends : (part : Part) (s : State) (c : Cycle) → vpp_low part c.pins ≡ true → is_end (settle_of part s c.pins).effect ≡ false
unfolding settle_of cut_by
settle_ends part s c low =
    if_ind In (rp_low c.pins) _ _ (λ x. cut_is s.phase part s.address)
    (λ x. if_ind In (vpp_low part c.pins && is_pending s.phase) _ _ (λ v. cut_is s.phase part s.address)
    (λ v. if_ind In (is_busy s.phase) _ _
    (λ b. absurd (unlike (sym b ∙ idle_phase s.phase (sym (ap (λ (y : Bool). y && is_pending s.phase) low) ∙ v))))
    (λ b. refl)))
  where
    In : Settled → Type 0
    In t = is_end t.effect ≡ false

pub none_ends : (d : Device) (v : World) (b : Bus) → vpp_low d.part b.cycle.pins ≡ true → is_end (effect_by d v b) ≡ false
none_ends d v b low =
    outcome d v.state b.cycle (length v.bytes) (length b.residue) (λ (x : Decision). is_end x.effect ≡ false) (λ m z e. refl)
    (λ z f. ap is_end (accept_effect d b.cycle (settle_of d.part v.state b.cycle.pins)) ∙ settle_ends d.part v.state b.cycle low)

-- ---- the cycle of a cut
module _ (d : Device) (v : World) (b : Bus) where
  abbrev e : Effect
  e = cut_of v.state.phase d.part v.state.address

  abbrev s : State
  s = cut_state v.state

  by_reset : Judged d v b → rp_low b.cycle.pins ≡ true → Quietly d v b (world_of (reset_of v.state) (cut_bytes d v b))
  by_reset judged low =
      let done = when_low d v b judged low ∙ ap (λ (t : Settled). decided_as Quiet t.state t.effect) (settle_reset d.part v.state b.cycle.pins low) in
      (leads d v b Quiet (reset_of v.state) e done, shows d v b Quiet (reset_of v.state) e done)

  module _ (judged : Judged d v b) (falls : Falls d v b) where
    up : rp_low b.cycle.pins ≡ false
    up = falls.0

    cuts : settle_of d.part v.state b.cycle.pins ≡ settled_as s e
    cuts = settle_cut d.part v.state b.cycle.pins up falls.2 falls.1

    by_read : b.cycle.kind ≡ Read → (stepped d v b ≡ world_of s (cut_bytes d v b)) × (seen_on d v b ≡ Data s.status)
    by_read k =
        let done = when_read d v b judged up (settled_as s e) cuts Status refl k in
        (leads d v b (Gives s.status) s e done, shows d v b (Gives s.status) s e done)

    by_idle : b.cycle.kind ≡ Idle → Quietly d v b (world_of s (cut_bytes d v b))
    by_idle k = let done = when_idle d v b judged up (settled_as s e) cuts k in (leads d v b Quiet s e done, shows d v b Quiet s e done)

    abbrev a : Action
    a = first_write d.part (command_of b.cycle)

    by_write : b.cycle.kind ≡ Write
        → cond (is_refuse a) ((stepped d v b ≡ v) × (seen_on d v b ≡ Refused 7)) (Quietly d v b (world_of (performed_of a d b.cycle s) (cut_bytes d v b)))
    by_write k = go (is_refuse a) refl
      where
        go : (x : Bool) → is_refuse a ≡ x
            → cond x ((stepped d v b ≡ v) × (seen_on d v b ≡ Refused 7)) (Quietly d v b (world_of (performed_of a d b.cycle s) (cut_bytes d v b)))
        go true r =
            let done = when_refused d v b judged up (settled_as s e) cuts k r in
            (leads d v b (Refuses 7) v.state Nothing done, shows d v b (Refuses 7) v.state Nothing done)
        go false r =
            let done = when_write d v b judged up (settled_as s e) cuts k r in
            (leads d v b Quiet (performed_of a d b.cycle s) e done, shows d v b Quiet (performed_of a d b.cycle s) e done)

  pub cut : Cut d v b
  cut = record {
    by_reset = by_reset;
    by_read = by_read;
    by_idle = by_idle;
    by_write = by_write;
    of_program = λ y p. program_left v.state.phase y p d.part v.state.address b.residue v.bytes;
    of_erase = λ p. erase_left v.state.phase p d.part v.state.address b.residue v.bytes;
    of_nothing = λ p. nothing_left v.state.phase p d.part v.state.address b.residue v.bytes;
    none_ends = none_ends d v b;
  }
