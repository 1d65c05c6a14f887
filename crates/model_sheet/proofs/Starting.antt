-- What bars a start and what does not, and that the lock counts nowhere else.
use mathlib.Core.Path.{◌≡◌, refl, sym, ap, ◌∙◌}
use mathlib.Core.Bool.{Bool, true, false, not, ◌&&◌, ◌||◌}
use Prim.Native.Nat.{ℕ}
use lib.ListN.{length}
use lib.Dec.{eqb}
use Rattle.std.specs.Prelude.{if◌then◌else◌}
use Rattle.common.specs.Numbers.{given}
use Rattle.common.proofs.Choice.{if_ind, if_same, if_false, and_left, and_right, and_rest, and_none, unlike}
use Rattle.device.specs.declared.Part.{Part}
use Rattle.device.specs.declared.Device.{Device}
use Rattle.model_types.specs.declared.Kind.{Kind}
use Rattle.model_types.specs.declared.Kind.TheVariants.{Read, Write, Idle}
use Rattle.model_types.specs.declared.Cycle.{Cycle}
use Rattle.model_types.specs.declared.Phase.{Phase}
use Rattle.model_types.specs.declared.Phase.TheVariants.{Free, EraseAwaited, DataAwaited, Programming, Erasing, Suspending, Suspended}
use Rattle.model_types.specs.declared.State.{State}
use Rattle.model_types.specs.declared.Action.{Action}
use Rattle.model_types.specs.declared.Action.TheVariants.{ToArray, ToIdentifier, ToStatus, Clear, AwaitErase, AwaitData, Confirm, Store, WrongSecond, Suspend, Resume, Ignore, Refuse}
use Rattle.model_types.specs.declared.Effect.{Effect}
use Rattle.model_types.specs.declared.Effect.TheVariants.{Nothing}
use Rattle.model_types.specs.declared.Reply.TheVariants.{Quiet}
use Rattle.model_types.specs.declared.Settled.{Settled}
use Rattle.model_types.specs.declared.Decision.{Decision}
use Rattle.model_types.specs.Kinds.{is_write}
use Rattle.model_levels.specs.Levels.{rp_low, vpp_low, locked}
use Rattle.model_types.specs.Phases.{is_awaited}
use Rattle.model_types.specs.Status.{SR3, with_bits, is_set}
use Rattle.model_states.specs.States.{is_at_rest}
use Rattle.model_commands.specs.Commands.{asks_program, first_write, after_erase, while_erasing, while_suspending, while_suspended, command_of, action_of, is_refuse}
use Rattle.model_actions.specs.Performed.{data_of, started_of, performed_of, unsupplied}
use Rattle.model_operation.specs.Settling.{settled_as, settle_of}
use Rattle.model_judge.specs.Judging.{past_array, short_residue}
use Rattle.model_rules.specs.Cycles.{no_command, suspended_read, no_identifier, table_of, number_of, decide_of, accept_of, respond_of, decided_as}
use Rattle.model.specs.Arrays.{is_refusal, seen_of, array_of, answer_of, array_after}
use Rattle.model.specs.Begun.{asked_by, starts_of, begun_by}
use Rattle.model.proofs.Lives.{begun_accepted, settle_awaited, settle_unawaited}
use Rattle.model_history.specs.History.{Bus, World, world_of, stepped, seen_on}
use Rattle.model_sheet.specs.Sheet.{Judged, Quietly, begun_at, is_confirm, error_of, levelled, Comparable}
use Rattle.model_sheet.proofs.Opening.{is_write_lem}
use Rattle.model_sheet.proofs.SettledCases.{when_write, leads, shows}
use Rattle.model_sheet.proofs.Bits.{number_zero}

-- ---- what bars
none : (d : Device) (v : World) (b : Bus) → starts_of d.part v.state b.cycle ≡ Nothing → begun_at d v b ≡ Nothing
unfolding begun_by
none d v b e =
    ap (λ (x : Effect). if eqb (number_of d v.state b.cycle (length v.bytes) (length b.residue)) 0 then x else Nothing) e
    ∙ if_same (eqb (number_of d v.state b.cycle (length v.bytes) (length b.residue)) 0) Nothing

pub unsupplied_bars : (d : Device) (v : World) (b : Bus) → unsupplied d.part b.cycle v.state ≡ true → begun_at d v b ≡ Nothing
unfolding starts_of
unsupplied_bars d v b e = none d v b (simp (e, and_none (is_write b.cycle.kind && not (rp_low b.cycle.pins))))

pub lock_bars : (d : Device) (v : World) (b : Bus) → locked d.part b.cycle ≡ true → begun_at d v b ≡ Nothing
unfolding starts_of
lock_bars d v b e =
    none d v b (simp (e, and_none ((is_write b.cycle.kind && not (rp_low b.cycle.pins)) && not (unsupplied d.part b.cycle v.state))))

or_yes : (x : Bool) → (x || true) ≡ true
or_yes true = refl
or_yes false = refl

pub sr3_bars : (d : Device) (v : World) (b : Bus) → is_set v.state.status SR3 ≡ true → begun_at d v b ≡ Nothing
unfolding unsupplied
sr3_bars d v b e = unsupplied_bars d v b (ap (λ (x : Bool). vpp_low d.part b.cycle.pins || x) e ∙ or_yes (vpp_low d.part b.cycle.pins))

pub low_bars : (d : Device) (v : World) (b : Bus) → vpp_low d.part b.cycle.pins ≡ true → begun_at d v b ≡ Nothing
unfolding unsupplied
low_bars d v b e = unsupplied_bars d v b (ap (λ (x : Bool). x || is_set v.state.status SR3) e)

-- ---- a confirm that nothing bars
confirm_is : (ph : Phase) (part : Part) (b : Bus) → is_confirm ph b ≡ true
    → (is_awaited ph ≡ true) × (is_write b.cycle.kind ≡ true) × (is_refuse (action_of part ph (command_of b.cycle)) ≡ false)
unfolding after_erase
confirm_is Free part b e = absurd (unlike (sym e))
confirm_is EraseAwaited part b e = (
  refl,
  and_left (is_write b.cycle.kind) (eqb (command_of b.cycle) 0xD0) e,
  if_ind (λ (x : Action). is_refuse x ≡ false) (eqb (command_of b.cycle) 0xD0) _ _ (λ x. refl) (λ x. refl),
)
confirm_is DataAwaited part b e = (refl, e, refl)
confirm_is (Programming x) part b e = absurd (unlike (sym e))
confirm_is Erasing part b e = absurd (unlike (sym e))
confirm_is (Suspending n) part b e = absurd (unlike (sym e))
confirm_is Suspended part b e = absurd (unlike (sym e))

pub else_begins : (d : Device) (v : World) (b : Bus) → Judged d v b → rp_low b.cycle.pins ≡ false → is_confirm v.state.phase b ≡ true
    → is_set v.state.status SR3 ≡ false → vpp_low d.part b.cycle.pins ≡ false → locked d.part b.cycle ≡ false
    → begun_at d v b ≡ asked_by v.state.phase d.part b.cycle
unfolding starts_of unsupplied
else_begins d v b judged up confirms sr3 high free =
    let w = confirm_is v.state.phase d.part b confirms in
    let done = when_write d v b judged up (settled_as v.state Nothing) (settle_awaited d.part v.state b.cycle w.0 up) (is_write_lem b.cycle.kind w.1) w.2 in
    begun_accepted d v.state b.cycle (length v.bytes) (length b.residue)
    (number_zero d v.state b.cycle (length v.bytes) (length b.residue) (ap (λ (x : Decision). is_refusal x.reply) done))
    ∙ simp (w.1, up, high, sr3, free)

-- ---- a confirm that is barred
module _ (d : Device) (v : World) (b : Bus) (judged : Judged d v b) (up : rp_low b.cycle.pins ≡ false) (confirms : is_confirm v.state.phase b ≡ true) where
  abbrev at : State
  at = v.state

  -- what it asks for is what the phase awaits
  confirmed : (ph : Phase) → is_confirm ph b ≡ true → (u : State) → ((time : ℕ) (next : Phase) → started_of d.part b.cycle at next time (error_of ph) ≡ u)
      → performed_of (action_of d.part ph (command_of b.cycle)) d b.cycle at ≡ u
  unfolding after_erase
  confirmed Free e u f = absurd (unlike (sym e))
  confirmed EraseAwaited e u f = simp (and_right (is_write b.cycle.kind) (eqb (command_of b.cycle) 0xD0) e) (f d.erase Erasing)
  confirmed DataAwaited e u f = f d.program (Programming (data_of d.part b.cycle))
  confirmed (Programming x) e u f = absurd (unlike (sym e))
  confirmed Erasing e u f = absurd (unlike (sym e))
  confirmed (Suspending n) e u f = absurd (unlike (sym e))
  confirmed Suspended e u f = absurd (unlike (sym e))

  comes_to : (u : State) → ((time : ℕ) (next : Phase) → started_of d.part b.cycle at next time (error_of at.phase) ≡ u) → Quietly d v b (world_of u v.bytes)
  comes_to u f =
      let w = confirm_is at.phase d.part b confirms in
      let done = when_write d v b judged up (settled_as at Nothing) (settle_awaited d.part at b.cycle w.0 up) (is_write_lem b.cycle.kind w.1) w.2
      ∙ ap (λ (x : State). decided_as Quiet x Nothing) (confirmed at.phase confirms u f) in
      (leads d v b Quiet u Nothing done, shows d v b Quiet u Nothing done)

  pub low_leaves : unsupplied d.part b.cycle at ≡ true
      → Quietly d v b (world_of (is_at_rest at at.mode (with_bits (with_bits at.status SR3) (error_of at.phase))) v.bytes)
  unfolding started_of
  low_leaves e = comes_to (is_at_rest at at.mode (with_bits (with_bits at.status SR3) (error_of at.phase))) (λ time next. simp e)

  pub lock_leaves : unsupplied d.part b.cycle at ≡ false → locked d.part b.cycle ≡ true
      → Quietly d v b (world_of (is_at_rest at at.mode (with_bits at.status (error_of at.phase))) v.bytes)
  unfolding started_of
  lock_leaves e f = comes_to (is_at_rest at at.mode (with_bits at.status (error_of at.phase))) (λ time next. simp (e, f))

-- ---- the levels that unlock, in any other cycle
abbrev is_start : Action → Bool
is_start ToArray = false
is_start ToIdentifier = false
is_start ToStatus = false
is_start Clear = false
is_start AwaitErase = false
is_start AwaitData = false
is_start Confirm = true
is_start Store = true
is_start WrongSecond = false
is_start Suspend = false
is_start Resume = false
is_start Ignore = false
is_start Refuse = false

-- where no second write is awaited none asks for a start ..
unawaited_starts : (part : Part) (ph : Phase) (b : ℕ) → is_awaited ph ≡ false → is_start (action_of part ph b) ≡ false
unfolding first_write while_erasing while_suspending while_suspended
unawaited_starts part Free b e =
    if_ind P (eqb b 0xFF) _ _ (λ x. refl)
    (λ x. if_ind P (eqb b 0xB0) _ _ (λ x. refl)
    (λ x. if_ind P (eqb b 0x90) _ _ (λ x. refl)
    (λ x. if_ind P (eqb b 0x70) _ _ (λ x. refl)
    (λ x. if_ind P (eqb b 0x50) _ _ (λ x. refl)
    (λ x. if_ind P (eqb b 0x20) _ _ (λ x. refl)
    (λ x. if_ind P (asks_program part b) _ _ (λ x. refl) (λ x. refl)))))))
  where
    P : Action → Type 0
    P y = is_start y ≡ false
unawaited_starts part EraseAwaited b e = absurd (unlike e)
unawaited_starts part DataAwaited b e = absurd (unlike e)
unawaited_starts part (Programming x) b e = refl
unawaited_starts part Erasing b e = if_ind (λ (y : Action). is_start y ≡ false) (eqb b 0xB0) _ _ (λ x. refl) (λ x. refl)
unawaited_starts part (Suspending n) b e = if_ind (λ (y : Action). is_start y ≡ false) (eqb b 0x70) _ _ (λ x. refl) (λ x. refl)
unawaited_starts part Suspended b e =
    if_ind P (eqb b 0xFF) _ _ (λ x. refl) (λ x. if_ind P (eqb b 0x70) _ _ (λ x. refl) (λ x. if_ind P (eqb b 0xD0) _ _ (λ x. refl) (λ x. refl)))
  where
    P : Action → Type 0
    P y = is_start y ≡ false

-- .. and where one is, none but a confirm
unconfirmed_starts : (part : Part) (ph : Phase) (b : Bus) → is_awaited ph ≡ true → is_write b.cycle.kind ≡ true → is_confirm ph b ≡ false
    → is_start (action_of part ph (command_of b.cycle)) ≡ false
unfolding after_erase
unconfirmed_starts part Free b a w e = absurd (unlike (sym a))
unconfirmed_starts part EraseAwaited b a w e = simp (and_rest (is_write b.cycle.kind) (eqb (command_of b.cycle) 0xD0) w e)
unconfirmed_starts part DataAwaited b a w e = absurd (unlike (sym w ∙ e))
unconfirmed_starts part (Programming x) b a w e = absurd (unlike (sym a))
unconfirmed_starts part Erasing b a w e = absurd (unlike (sym a))
unconfirmed_starts part (Suspending n) b a w e = absurd (unlike (sym a))
unconfirmed_starts part Suspended b a w e = absurd (unlike (sym a))

module _ (d : Device) (v : World) (b : Bus) (rp wp oe : ℕ) (alike : Comparable d b (levelled rp wp oe b)) (unconfirmed : is_confirm v.state.phase b ≡ false) where
  abbrev s : State
  s = v.state

  abbrev c : Cycle
  c = b.cycle

  abbrev o : Cycle
  o = (levelled rp wp oe b).cycle

  low : rp_low o.pins ≡ rp_low c.pins
  low = alike.2

  supply : vpp_low d.part o.pins ≡ vpp_low d.part c.pins
  unfolding vpp_low
  supply = refl

  command : command_of o ≡ command_of c
  unfolding command_of
  command = refl

  settled : settle_of d.part s o.pins ≡ settle_of d.part s c.pins
  unfolding settle_of
  settled = rw (low, supply) refl

  abbrev t : Settled
  t = settle_of d.part s c.pins

  starts_none : is_write c.kind ≡ true → rp_low c.pins ≡ false → is_start (action_of d.part t.state.phase (command_of c)) ≡ false
  starts_none w up = go (is_awaited s.phase) refl
    where
      go : (x : Bool) → is_awaited s.phase ≡ x → is_start (action_of d.part t.state.phase (command_of c)) ≡ false
      go true a =
          ap (λ (x : Settled). is_start (action_of d.part x.state.phase (command_of c))) (settle_awaited d.part s c a up)
          ∙ unconfirmed_starts d.part s.phase b a w unconfirmed
      go false a = unawaited_starts d.part t.state.phase (command_of c) (settle_unawaited d.part s c a)

  performed : (a : Action) (u : State) → is_start a ≡ false → performed_of a d o u ≡ performed_of a d c u
  performed ToArray u e = refl
  performed ToIdentifier u e = refl
  performed ToStatus u e = refl
  performed Clear u e = refl
  performed AwaitErase u e = refl
  performed AwaitData u e = refl
  performed Confirm u e = absurd (unlike e)
  performed Store u e = absurd (unlike e)
  performed WrongSecond u e = refl
  performed Suspend u e = refl
  performed Resume u e = refl
  performed Ignore u e = refl
  performed Refuse u e = refl

  respond : (k : Kind) → c.kind ≡ k → rp_low c.pins ≡ false → respond_of k d o t ≡ respond_of k d c t
  respond Read e up = refl
  respond Write e up =
      ap (λ (x : ℕ). decided_as Quiet (performed_of (action_of d.part t.state.phase x) d o t.state) t.effect) command
      ∙ ap (λ (u : State). decided_as Quiet u t.effect)
      (performed (action_of d.part t.state.phase (command_of c)) t.state (starts_none (ap is_write e) up))
  respond Idle e up = refl

  accept : accept_of d o t ≡ accept_of d c t
  unfolding accept_of
  accept = ap (λ (x : Bool). if x then decided_as Quiet t.state t.effect else respond_of c.kind d o t) low ∙ go (rp_low c.pins) refl
    where
      go : (x : Bool) → rp_low c.pins ≡ x
          → (if rp_low c.pins then decided_as Quiet t.state t.effect else respond_of c.kind d o t)
          ≡ (if rp_low c.pins then decided_as Quiet t.state t.effect else respond_of c.kind d c t)
      go true e = simp e
      go false e = if_false (rp_low c.pins) _ _ e ∙ respond c.kind refl e ∙ sym (if_false (rp_low c.pins) _ _ e)

  table : (n r : ℕ) → table_of d s o n r ≡ table_of d s c n r
  unfolding past_array short_residue no_command suspended_read no_identifier
  table n r = simp (alike.0, alike.1, low, supply, command, settled)

  number : (n r : ℕ) → number_of d s o n r ≡ number_of d s c n r
  unfolding number_of
  number n r = ap given (table n r)

  decide : (n r : ℕ) → decide_of d s o n r ≡ decide_of d s c n r
  unfolding decide_of
  decide n r = rw (number n r, settled, accept) refl

  pub lock_elsewhere : (stepped d v (levelled rp wp oe b) ≡ stepped d v b) × (seen_on d v (levelled rp wp oe b) ≡ seen_on d v b)
  unfolding answer_of array_after
  lock_elsewhere = (
    ap (λ (x : Decision). world_of x.state (array_of x.effect d.part b.residue v.bytes)) (decide (length v.bytes) (length b.residue)),
    ap (λ (x : Decision). seen_of x.reply (array_of x.effect d.part b.residue v.bytes)) (decide (length v.bytes) (length b.residue)),
  )
