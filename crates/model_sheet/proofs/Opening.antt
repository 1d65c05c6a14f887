-- B0H at rest, and in the cycle that ends or cuts an operation.
use mathlib.Core.Path.{◌≡◌, refl, sym, ap, ◌∙◌}
use mathlib.Core.Bool.{true, false}
use lib.Dec.{eqb}
use borrow.Author.Tests.{eqb-true}
use Rattle.common.proofs.Choice.{and_left, and_right, unlike}
use Rattle.device.specs.declared.Part.{Part}
use Rattle.device.specs.declared.Device.{Device}
use Rattle.model_types.specs.declared.Kind.{Kind}
use Rattle.model_types.specs.declared.Kind.TheVariants.{Read, Write, Idle}
use Rattle.model_types.specs.declared.Mode.TheVariants.{Array}
use Rattle.model_types.specs.declared.Phase.{Phase}
use Rattle.model_types.specs.declared.Phase.TheVariants.{Free, EraseAwaited, DataAwaited, Programming, Erasing, Suspending, Suspended}
use Rattle.model_types.specs.declared.State.{State}
use Rattle.model_types.specs.declared.Action.{Action}
use Rattle.model_types.specs.declared.Action.TheVariants.{ToArray}
use Rattle.model_types.specs.declared.Effect.{Effect}
use Rattle.model_types.specs.declared.Effect.TheVariants.{Nothing}
use Rattle.model_types.specs.declared.Reply.TheVariants.{Quiet}
use Rattle.model_types.specs.declared.Settled.{Settled}
use Rattle.model_types.specs.Kinds.{is_write}
use Rattle.model_levels.specs.Levels.{rp_low}
use Rattle.model_types.specs.Phases.{is_free, is_pending, is_busy}
use Rattle.model_states.specs.States.{reset_of}
use Rattle.model_commands.specs.Commands.{command_of, first_write, action_of, is_refuse}
use Rattle.model_actions.specs.Performed.{performed_of, in_mode}
use Rattle.model_operation.specs.Settling.{settled_as, finish_of, cut_of, settle_of}
use Rattle.model_rules.specs.Cycles.{decided_as}
use Rattle.model.specs.Arrays.{array_of}
use Rattle.model_history.specs.History.{Bus, World, world_of}
use Rattle.model_suspend.specs.Suspends.{is_suspend}
use Rattle.model_sheet.specs.Sheet.{Judged, Quietly, end_state, cut_state}
use Rattle.model_sheet.specs.Sentences.{OpensArray}
use Rattle.model_sheet.proofs.SettledCases.{settle_reset, settle_still, settle_cut, settle_end, when_low, when_write, leads, shows}

pub is_write_lem : (k : Kind) → is_write k ≡ true → k ≡ Write
is_write_lem Read e = absurd (unlike (sym e))
is_write_lem Write e = refl
is_write_lem Idle e = absurd (unlike (sym e))

pub free_is : (ph : Phase) → is_free ph ≡ true → (ph ≡ Free) × (is_pending ph ≡ false) × (is_busy ph ≡ false)
free_is Free e = (refl, refl, refl)
free_is EraseAwaited e = absurd (unlike (sym e))
free_is DataAwaited e = absurd (unlike (sym e))
free_is (Programming b) e = absurd (unlike (sym e))
free_is Erasing e = absurd (unlike (sym e))
free_is (Suspending n) e = absurd (unlike (sym e))
free_is Suspended e = absurd (unlike (sym e))

b0_opens : (part : Part) → action_of part Free 0xB0 ≡ ToArray
unfolding first_write
b0_opens part = refl

module _ (d : Device) (v : World) (b : Bus) (judged : Judged d v b) (asks : is_suspend b.cycle ≡ true) where
  command : command_of b.cycle ≡ 0xB0
  command = eqb-true (command_of b.cycle) 0xB0 (and_right (is_write b.cycle.kind) (eqb (command_of b.cycle) 0xB0) asks)

  kind : b.cycle.kind ≡ Write
  kind = is_write_lem b.cycle.kind (and_left (is_write b.cycle.kind) (eqb (command_of b.cycle) 0xB0) asks)

  -- a device that steps 1 to 3 leave at rest
  opened : (t : State) (e : Effect) → rp_low b.cycle.pins ≡ false → settle_of d.part v.state b.cycle.pins ≡ settled_as t e → t.phase ≡ Free
      → Quietly d v b (world_of (in_mode Array t) (array_of e d.part b.residue v.bytes))
  opened t e up settled free =
      let is : action_of d.part t.phase (command_of b.cycle) ≡ ToArray =
      ap (λ (ph : Phase). action_of d.part ph (command_of b.cycle)) free ∙ ap (action_of d.part Free) command ∙ b0_opens d.part in
      let done = when_write d v b judged up (settled_as t e) settled kind (ap is_refuse is)
      ∙ ap (λ (x : Action). decided_as Quiet (performed_of x d b.cycle t) e) is in
      (leads d v b Quiet (in_mode Array t) e done, shows d v b Quiet (in_mode Array t) e done)

  pub opens : OpensArray d v b
  opens = record {
    at_rest = λ up f. let w = free_is v.state.phase f in opened v.state Nothing up (settle_still d.part v.state b.cycle.pins up w.1 w.2) w.0;
    at_end = λ h. opened (end_state v.state) (finish_of v.state.phase d.part v.state.address) h.0 (settle_end d.part v.state b.cycle.pins h.0 h.1 h.2 h.3) refl;
    at_cut = λ h. opened (cut_state v.state) (cut_of v.state.phase d.part v.state.address) h.0 (settle_cut d.part v.state b.cycle.pins h.0 h.2 h.1) refl;
    at_reset = λ low.
        let e = cut_of v.state.phase d.part v.state.address in
        let done = when_low d v b judged low ∙ ap (λ (t : Settled). decided_as Quiet t.state t.effect) (settle_reset d.part v.state b.cycle.pins low) in
        (leads d v b Quiet (reset_of v.state) e done, shows d v b Quiet (reset_of v.state) e done);
  }
