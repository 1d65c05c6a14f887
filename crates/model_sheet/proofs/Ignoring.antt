-- A write that is ignored does what an idle cycle does in its place, and leaves all but the count.
use mathlib.Core.Path.{◌≡◌, refl, sym, ap, ◌∙◌}
use mathlib.Core.Bool.{Bool, true, false, not, ◌&&◌, ◌||◌}
use mathlib.Core.List.{List, [], ◌∷◌}
use Prim.Native.Nat.{ℕ, ◌-◌}
use lib.ListN.{length}
use lib.Dec.{eqb, ltb, leb}
use borrow.Author.Tests.{eqb-true, ltb-true, not-true}
use Rattle.std.specs.Prelude.{if◌then◌else◌}
use Rattle.common.specs.Numbers.NoRow.{end, past}
use Rattle.common.proofs.Numbers.{given_no_row, no_row_given, no_head, no_tail}
use Rattle.common.proofs.Choice.{if_ind, and_left, and_right, and_none, or_left, or_right, unlike}
use Rattle.device.specs.declared.Part.{Part}
use Rattle.device.specs.declared.Device.{Device}
use Rattle.device.specs.Parts.{size_of}
use Rattle.model_types.specs.declared.Kind.TheVariants.{Write}
use Rattle.model_types.specs.declared.Mode.{Mode}
use Rattle.model_types.specs.declared.Mode.TheVariants.{Array, Status, Identifier}
use Rattle.model_types.specs.declared.Phase.{Phase}
use Rattle.model_types.specs.declared.Phase.TheVariants.{Free, EraseAwaited, DataAwaited, Programming, Erasing, Suspending, Suspended}
use Rattle.model_types.specs.declared.State.{State}
use Rattle.model_types.specs.declared.Action.{Action}
use Rattle.model_types.specs.declared.Action.TheVariants.{Ignore}
use Rattle.model_types.specs.declared.Effect.TheVariants.{Nothing}
use Rattle.model_types.specs.declared.Reply.TheVariants.{Quiet}
use Rattle.model_types.specs.declared.Settled.{Settled}
use Rattle.model_states.specs.Inner.{bad_mode}
use Rattle.model_types.specs.Kinds.{is_write}
use Rattle.model_levels.specs.Levels.{rp_low, vpp_low, bad_pins, bad_oe, bad_levels}
use Rattle.model_types.specs.Phases.{is_busy}
use Rattle.model_states.specs.States.{is_status}
use Rattle.model_commands.specs.Commands.{command_of, while_erasing, while_suspending, while_suspended, action_of, is_refuse}
use Rattle.model_actions.specs.Performed.{performed_of}
use Rattle.model_operation.specs.Settling.{settled_as, settle_of}
use Rattle.model_judge.specs.Judging.{early, judge_of, past_array, short_residue}
use Rattle.model_rules.specs.Cycles.{decided_as, decide_of}
use Rattle.model_history.specs.History.{Bus, World, world_of, stepped, world_after, seen_on, seen_in}
use Rattle.model_sheet.specs.Sheet.{Judged, is_running, Quietly, heeds, idle_for, is_ignored, unheard, goes_on, left_then, phase_then, one_less}
use Rattle.model_sheet.specs.Sentences.{Ignores}
use Rattle.model_sheet.proofs.Opening.{is_write_lem}
use Rattle.model_sheet.proofs.SettledCases.{settle_held, settle_count, settle_suspending, judged_proper, when_idle, when_write, leads, shows}

-- a write that is not heeded asks for nothing
ignore_is : (part : Part) (ph : Phase) (b : ℕ) → heeds ph b ≡ false → action_of part ph b ≡ Ignore
unfolding while_erasing while_suspending while_suspended
ignore_is part Free b e = absurd (unlike e)
ignore_is part EraseAwaited b e = absurd (unlike e)
ignore_is part DataAwaited b e = absurd (unlike e)
ignore_is part (Programming x) b e = refl
ignore_is part Erasing b e = simp e
ignore_is part (Suspending n) b e = simp e
ignore_is part Suspended b e =
    let f = eqb b 0xFF in
    let s = eqb b 0x70 in
    let both = or_left (f || s) (eqb b 0xD0) e in
    simp (or_left f s both, or_right f s both, or_right (f || s) (eqb b 0xD0) e)

-- refusals 1 to 6 are not against an idle cycle in its place
idle_judged : (d : Device) (v : World) (b : Bus) → Judged d v b → Judged d v (idle_for b)
unfolding judge_of bad_levels past_array short_residue
idle_judged d v b z =
    let r = given_no_row (early d v.state b.cycle (length v.bytes) (length b.residue)) refl z in
    let r2 = no_tail r in
    let r3 = no_tail r2 in
    let r4 = no_tail r3 in
    let r5 = no_tail r4 in
    let r6 = no_tail r5 in
    let good : (bad_pins d.part b.cycle.pins || ltb 0 0) ≡ false = simp (or_left (bad_pins d.part b.cycle.pins) (bad_oe d.part b.cycle.kind b.cycle.oe) (no_head r4)) in
    no_row_given (past (no_head r) (past (no_head r2) (past (no_head r3) (past good
    (past (and_none (leb (size_of d.part) b.cycle.address && not (rp_low b.cycle.pins))) (past (no_head r6) end))))))

status_is : (m : Mode) → not (is_status m) ≡ false → m ≡ Status
status_is Array e = absurd (unlike e)
status_is Status e = refl
status_is Identifier e = absurd (unlike e)

-- steps 1 to 3 count one off where they end neither the operation nor its suspend
pub counts_one : (d : Device) (v : World) (b : Bus) → Judged d v b → rp_low b.cycle.pins ≡ false → vpp_low d.part b.cycle.pins ≡ false
    → goes_on v.state.phase v.state.left ≡ true → settle_of d.part v.state b.cycle.pins ≡ settled_as (one_less v.state) Nothing
counts_one d v b judged up high on = go v.state.phase refl on
  where
    s : State
    s = v.state

    runs : (ph : Phase) → s.phase ≡ ph → is_running ph ≡ true → (left_then ph s.left ≡ s.left - 1) → phase_then ph ≡ ph → ltb 1 s.left ≡ true
        → settle_of d.part s b.cycle.pins ≡ settled_as (one_less s) Nothing
    runs ph e r l p o =
        let ps : s.phase ≡ phase_then s.phase = e ∙ sym p ∙ ap phase_then (sym e) in
        let ls : s.left - 1 ≡ left_then s.phase s.left = sym l ∙ ap (λ (x : Phase). left_then x s.left) (sym e) in
        settle_count d.part s b.cycle.pins up high (ap is_running e ∙ r) (ltb-true 1 s.left o)
        ∙ (λ i. settled_as (record { mode = s.mode; status = s.status; phase = ps i; left = ls i; address = s.address; wear = s.wear }) Nothing)

    go : (ph : Phase) → s.phase ≡ ph → goes_on ph s.left ≡ true → settle_of d.part s b.cycle.pins ≡ settled_as (one_less s) Nothing
    go Free e o = absurd (unlike (sym o))
    go EraseAwaited e o = absurd (unlike (sym o))
    go DataAwaited e o = absurd (unlike (sym o))
    go (Programming x) e o = runs (Programming x) e refl refl refl o
    go Erasing e o = runs Erasing e refl refl refl o
    go (Suspending n) e o =
        let m : s.mode ≡ Status = status_is s.mode (ap (λ (ph : Phase). bad_mode ph s.mode) (sym e) ∙ (judged_proper d v b judged).mode) in
        let ps : Suspending (n - 1) ≡ phase_then s.phase = ap phase_then (sym e) in
        let ls : s.left ≡ left_then s.phase s.left = ap (λ (x : Phase). left_then x s.left) (sym e) in
        settle_suspending d.part s b.cycle.pins up high n e (ltb-true 1 n o)
        ∙ (λ i. settled_as (record { mode = sym m i; status = s.status; phase = ps i; left = ls i; address = s.address; wear = s.wear }) Nothing)
    go Suspended e o =
        let ps : s.phase ≡ phase_then s.phase = e ∙ ap phase_then (sym e) in
        let ls : s.left ≡ left_then s.phase s.left = ap (λ (x : Phase). left_then x s.left) (sym e) in
        settle_held d.part s b.cycle.pins up high (ap is_busy e)
        ∙ (λ i. settled_as (record { mode = s.mode; status = s.status; phase = ps i; left = ls i; address = s.address; wear = s.wear }) Nothing)

module _ (d : Device) (v : World) (b : Bus) (judged : Judged d v b) (up : rp_low b.cycle.pins ≡ false) (kind : b.cycle.kind ≡ Write)
    (unheard : heeds (settle_of d.part v.state b.cycle.pins).state.phase (command_of b.cycle) ≡ false) where
  abbrev t : Settled
  t = settle_of d.part v.state b.cycle.pins

  done : decide_of d v.state b.cycle (length v.bytes) (length b.residue) ≡ decided_as Quiet t.state t.effect
  done =
      let is = ignore_is d.part t.state.phase (command_of b.cycle) unheard in
      when_write d v b judged up t refl kind (ap is_refuse is)
      ∙ ap (λ (x : Action). decided_as Quiet (performed_of x d b.cycle t.state) t.effect) is

  idled : decide_of d v.state (idle_for b).cycle (length v.bytes) (length b.residue) ≡ decided_as Quiet t.state t.effect
  idled = when_idle d v (idle_for b) (idle_judged d v b judged) up t refl refl

  -- it does what an idle cycle does in its place
  one_step : stepped d v (idle_for b) ≡ stepped d v b
  one_step = leads d v (idle_for b) Quiet t.state t.effect idled ∙ sym (leads d v b Quiet t.state t.effect done)

  one_seen : seen_on d v (idle_for b) ≡ seen_on d v b
  one_seen = shows d v (idle_for b) Quiet t.state t.effect idled ∙ sym (shows d v b Quiet t.state t.effect done)

  one_count : vpp_low d.part b.cycle.pins ≡ false → goes_on v.state.phase v.state.left ≡ true → Quietly d v b (world_of (one_less v.state) v.bytes)
  one_count high on =
      let counted = done ∙ ap (λ (x : Settled). decided_as Quiet x.state x.effect) (counts_one d v b judged up high on) in
      (leads d v b Quiet (one_less v.state) Nothing counted, shows d v b Quiet (one_less v.state) Nothing counted)

-- ---- the test of a write that is ignored
module _ (d : Device) (v : World) (b : Bus) (is : is_ignored d v b ≡ true) where
  abbrev j : Bool
  j = eqb (judge_of d v.state b.cycle (length v.bytes) (length b.residue)) 0

  abbrev low : Bool
  low = rp_low b.cycle.pins

  abbrev hears : Bool
  hears = heeds (settle_of d.part v.state b.cycle.pins).state.phase (command_of b.cycle)

  rest : (is_write b.cycle.kind && not (low || hears)) ≡ true
  rest = and_right j (is_write b.cycle.kind && not (low || hears)) is

  neither : (low || hears) ≡ false
  neither = not-true (low || hears) (and_right (is_write b.cycle.kind) (not (low || hears)) rest)

  fits : Judged d v b
  fits = eqb-true (judge_of d v.state b.cycle (length v.bytes) (length b.residue)) 0 (and_left j (is_write b.cycle.kind && not (low || hears)) is)

  writes : b.cycle.kind ≡ Write
  writes = is_write_lem b.cycle.kind (and_left (is_write b.cycle.kind) (not (low || hears)) rest)

  pub ignored_step : stepped d v (idle_for b) ≡ stepped d v b
  ignored_step = one_step d v b fits (or_left low hears neither) writes (or_right low hears neither)

  pub ignored_seen : seen_on d v (idle_for b) ≡ seen_on d v b
  ignored_seen = one_seen d v b fits (or_left low hears neither) writes (or_right low hears neither)

  pub but_count : vpp_low d.part b.cycle.pins ≡ false → goes_on v.state.phase v.state.left ≡ true → Quietly d v b (world_of (one_less v.state) v.bytes)
  but_count = one_count d v b fits (or_left low hears neither) writes (or_right low hears neither)

-- ---- any cycles
abbrev instead : Device → World → Bus → Bus
instead d v b = if is_ignored d v b then idle_for b else b

instead_step : (d : Device) (v : World) (b : Bus) → stepped d v (instead d v b) ≡ stepped d v b
instead_step d v b = if_ind (λ (x : Bus). stepped d v x ≡ stepped d v b) (is_ignored d v b) (idle_for b) b (λ e. ignored_step d v b e) (λ e. refl)

instead_seen : (d : Device) (v : World) (b : Bus) → seen_on d v (instead d v b) ≡ seen_on d v b
instead_seen d v b = if_ind (λ (x : Bus). seen_on d v x ≡ seen_on d v b) (is_ignored d v b) (idle_for b) b (λ e. ignored_seen d v b e) (λ e. refl)

as_idle_world : (d : Device) (bs : List Bus) (v : World) → world_after d v (unheard d v bs) ≡ world_after d v bs
as_idle_world d [] v = refl
as_idle_world d (b ∷ bs) v = ap (λ (u : World). world_after d u (unheard d (stepped d v b) bs)) (instead_step d v b) ∙ as_idle_world d bs (stepped d v b)

as_idle_seen : (d : Device) (bs : List Bus) (v : World) → seen_in d v (unheard d v bs) ≡ seen_in d v bs
as_idle_seen d [] v = refl
as_idle_seen d (b ∷ bs) v =
    let rest : seen_in d (stepped d v (instead d v b)) (unheard d (stepped d v b) bs) ≡ seen_in d (stepped d v b) bs =
    ap (λ (u : World). seen_in d u (unheard d (stepped d v b) bs)) (instead_step d v b) ∙ as_idle_seen d bs (stepped d v b) in
    λ i. instead_seen d v b i ∷ rest i

pub ignores : (d : Device) (v : World) → Ignores d v
ignores d v = record { as_idle = λ bs. (as_idle_world d bs v, as_idle_seen d bs v); but_count = but_count d v }
