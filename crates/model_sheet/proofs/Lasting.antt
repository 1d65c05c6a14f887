-- An operation from the cycle that begins it to the last that counts.
use mathlib.Core.Path.{◌≡◌, refl, sym, ap, subst, ◌∙◌}
use mathlib.Core.Bool.{Bool, true, false, not, ◌&&◌}
use mathlib.Core.List.{List, [], ◌∷◌}
use Prim.Native.Nat.{ℕ, ◌+◌, ◌-◌, ◌/◌, ◌%◌, ◌<◌}
use native.Mathlib.Omega.{arith}
use lib.ListN.{length}
use lib.Dec.{eqb}
use borrow.Author.Tests.{eqb-true, eqb-false, ne_eqb, not-true}
use Rattle.std.specs.Prelude.{if◌then◌else◌}
use Rattle.common.proofs.Choice.{if_ind, if_true, if_false, and_left, and_right, and_none, unlike}
use Rattle.device.specs.declared.Part.{Part}
use Rattle.device.specs.declared.Device.{Device}
use Rattle.device.specs.Parts.{block_of}
use Rattle.model_types.specs.declared.Kind.{Kind}
use Rattle.model_types.specs.declared.Kind.TheVariants.{Read, Write, Idle}
use Rattle.model_types.specs.declared.Cycle.{Cycle}
use Rattle.model_types.specs.declared.Mode.{Mode}
use Rattle.model_types.specs.declared.Phase.{Phase}
use Rattle.model_types.specs.declared.Phase.TheVariants.{Free, EraseAwaited, DataAwaited, Programming, Erasing, Suspending, Suspended}
use Rattle.model_types.specs.declared.State.{State}
use Rattle.model_types.specs.declared.Action.{Action}
use Rattle.model_types.specs.declared.Effect.{Effect}
use Rattle.model_types.specs.declared.Effect.TheVariants.{Nothing, Program, Erase}
use Rattle.model_types.specs.declared.Reply.TheVariants.{Quiet}
use Rattle.model_types.specs.declared.Settled.{Settled}
use Rattle.model_types.specs.declared.Decision.{Decision}
use Rattle.model_types.specs.Kinds.{is_write}
use Rattle.model_levels.specs.Levels.{rp_low, vpp_low, locked}
use Rattle.model_types.specs.Status.{SR7, without_bits, is_set}
use Rattle.model_states.specs.Inner.{top_bits}
use Rattle.model_types.specs.Phases.{is_awaited, is_pending, is_busy, is_suspending, suspend_left}
use Rattle.model_commands.specs.Commands.{asks_program, first_write, after_erase, while_erasing, while_suspending, while_suspended, command_of, action_of}
use Rattle.model_actions.specs.Performed.{data_of, unsupplied, wear_by, started_of, performed_of}
use Rattle.model_operation.specs.Settling.{settled_as, finish_of, counted_off, suspend_passed, passed_of, settle_of}
use Rattle.model_rules.specs.Cycles.{number_of, decided_as, decide_of, respond_of}
use Rattle.model_rules.proofs.Cases.{accepted}
use Rattle.model_rules.proofs.Facts as facts
use Rattle.model_rules.proofs.Facts.{Proper}
use Rattle.model.specs.Arrays.{is_refusal, array_of, answer_of, array_after}
use Rattle.model.specs.Begun.{pending_in, pending_of, asked_by, starts_of}
use Rattle.model.proofs.Keeping.{st, cycle_proper}
use Rattle.model.proofs.Status.{status_fits}
use Rattle.model.proofs.Lives.{settle_awaited, accept_up, begun_refused, begun_accepted}
use Rattle.model.proofs.Outcome.{accept_effect}
use Rattle.model.proofs.Table.{refused_nothing}
use Rattle.model_history.specs.History.{Bus, World, stepped, world_after, effect_by, effects_in, is_cut, uncut}
use Rattle.model_suspend.proofs.SuspendedCycles as held
use Rattle.model_sheet.specs.Sheet.{is_running, end_state, is_taken, begun_at, counts_on, counted_in, busy_time, IsLast}
use Rattle.model_sheet.specs.Sentences.{Lasts}
use Rattle.model_sheet.proofs.SettledCases.{running_is, settle_end, leads}
use Rattle.model_sheet.proofs.Opening.{is_write_lem}
use Rattle.model_sheet.proofs.Bits.{number_zero}

-- one where a test holds
abbrev one : Bool → ℕ
one b = if b then 1 else 0

-- ---- steps 1 to 3 of a cycle that neither cuts nor ends
record Same (part : Part) (s : State) (t : Settled) : Type 0 where
  effect : t.effect ≡ Nothing
  pending : pending_of part t.state ≡ pending_of part s
  left : t.state.left + one (is_running s.phase) ≡ s.left
  still : is_pending t.state.phase ≡ true

suspending_is : (ph : Phase) (part : Part) (a n : ℕ) → is_suspending ph ≡ true
    → (is_running ph ≡ false) × (pending_in Suspended part a ≡ pending_in ph part a) × (pending_in (Suspending n) part a ≡ pending_in ph part a)
suspending_is Free part a n e = absurd (unlike (sym e))
suspending_is EraseAwaited part a n e = absurd (unlike (sym e))
suspending_is DataAwaited part a n e = absurd (unlike (sym e))
suspending_is (Programming x) part a n e = absurd (unlike (sym e))
suspending_is Erasing part a n e = absurd (unlike (sym e))
suspending_is (Suspending m) part a n e = (refl, refl, refl)
suspending_is Suspended part a n e = absurd (unlike (sym e))

busy_runs : (ph : Phase) → is_busy ph ≡ true → is_suspending ph ≡ false → is_running ph ≡ true
busy_runs Free b u = absurd (unlike (sym b))
busy_runs EraseAwaited b u = absurd (unlike (sym b))
busy_runs DataAwaited b u = absurd (unlike (sym b))
busy_runs (Programming x) b u = refl
busy_runs Erasing b u = refl
busy_runs (Suspending n) b u = absurd (unlike u)
busy_runs Suspended b u = absurd (unlike (sym b))

still_rests : (ph : Phase) → is_busy ph ≡ false → is_running ph ≡ false
still_rests Free b = refl
still_rests EraseAwaited b = refl
still_rests DataAwaited b = refl
still_rests (Programming x) b = absurd (unlike b)
still_rests Erasing b = absurd (unlike b)
still_rests (Suspending n) b = absurd (unlike b)
still_rests Suspended b = refl

settle_same : (part : Part) (s : State) (c : Cycle) → rp_low c.pins ≡ false → vpp_low part c.pins ≡ false → is_pending s.phase ≡ true
    → (is_running s.phase ≡ true → 1 < s.left) → Same part s (settle_of part s c.pins)
unfolding settle_of passed_of suspend_passed counted_off
settle_same part s c up high pends more =
    if_ind In (rp_low c.pins) _ _ (λ x. absurd (unlike (sym x ∙ up)))
    (λ x. if_ind In (vpp_low part c.pins && is_pending s.phase) _ _ (λ v. absurd (unlike (sym (and_left (vpp_low part c.pins) (is_pending s.phase) v) ∙ high)))
    (λ v. if_ind In (is_busy s.phase) _ _
    (λ b. if_ind In (is_suspending s.phase) _ _
    (λ u. let w = suspending_is s.phase part s.address (suspend_left s.phase - 1) u in
    if_ind In (eqb (suspend_left s.phase - 1) 0) _ _
    (λ l. record { effect = refl; pending = w.1; left = none w.0; still = refl })
    (λ l. record { effect = refl; pending = w.2; left = none w.0; still = refl }))
    (λ u. let r = busy_runs s.phase b u in
    if_ind In (eqb (s.left - 1) 0) _ _ (λ l. absurd (let z = eqb-true (s.left - 1) 0 l in let m = more r in omega arith))
    (λ l. record { effect = refl; pending = refl; left = some r; still = pends })))
    (λ b. record { effect = refl; pending = refl; left = none (still_rests s.phase b); still = pends })))
  where
    In : Settled → Type 0
    In t = Same part s t

    none : is_running s.phase ≡ false → s.left + one (is_running s.phase) ≡ s.left
    none e = ap (λ (x : Bool). s.left + one x) e ∙ (let z : s.left + 0 ≡ s.left = omega arith in z)

    some : is_running s.phase ≡ true → s.left - 1 + one (is_running s.phase) ≡ s.left
    some e = let m = more e in ap (λ (x : Bool). s.left - 1 + one x) e ∙ (let z : s.left - 1 + 1 ≡ s.left = omega arith in z)

-- ---- step 4 keeps what is pending, and its cycles to go
act_same : (d : Device) (c : Cycle) (s : State) (m : Mode) (x : ℕ) (ph : Phase) (l a : ℕ) → is_pending ph ≡ true
    → (pending_of d.part (performed_of (action_of d.part ph (command_of c)) d c (st s m x ph l a)) ≡ pending_in ph d.part a)
    × ((performed_of (action_of d.part ph (command_of c)) d c (st s m x ph l a)).left ≡ l)
    × (is_pending (performed_of (action_of d.part ph (command_of c)) d c (st s m x ph l a)).phase ≡ true)
unfolding while_erasing while_suspending while_suspended
act_same d c s m x Free l a e = absurd (unlike (sym e))
act_same d c s m x EraseAwaited l a e = absurd (unlike (sym e))
act_same d c s m x DataAwaited l a e = absurd (unlike (sym e))
act_same d c s m x (Programming y) l a e = (refl, refl, refl)
act_same d c s m x Erasing l a e = if_ind P (eqb (command_of c) 0xB0) _ _ (λ b. (refl, refl, refl)) (λ b. (refl, refl, refl))
  where
    P : Action → Type 0
    P y =
        let u : State = performed_of y d c (st s m x Erasing l a) in
        (pending_of d.part u ≡ pending_in Erasing d.part a) × (u.left ≡ l) × (is_pending u.phase ≡ true)
act_same d c s m x (Suspending n) l a e = if_ind P (eqb (command_of c) 0x70) _ _ (λ b. (refl, refl, refl)) (λ b. (refl, refl, refl))
  where
    P : Action → Type 0
    P y =
        let u : State = performed_of y d c (st s m x (Suspending n) l a) in
        (pending_of d.part u ≡ pending_in (Suspending n) d.part a) × (u.left ≡ l) × (is_pending u.phase ≡ true)
act_same d c s m x Suspended l a e =
    if_ind P (eqb (command_of c) 0xFF) _ _ (λ b. (refl, refl, refl))
    (λ b. if_ind P (eqb (command_of c) 0x70) _ _ (λ b. (refl, refl, refl))
    (λ b. if_ind P (eqb (command_of c) 0xD0) _ _ (λ b. (refl, refl, refl)) (λ b. (refl, refl, refl))))
  where
    P : Action → Type 0
    P y =
        let u : State = performed_of y d c (st s m x Suspended l a) in
        (pending_of d.part u ≡ pending_in Suspended d.part a) × (u.left ≡ l) × (is_pending u.phase ≡ true)

-- ---- a cycle that neither cuts nor ends
record Step (d : Device) (v : World) (b : Bus) (w : World) : Type 0 where
  pending : pending_of d.part w.state ≡ pending_of d.part v.state
  left : w.state.left + one (counts_on d v b) ≡ v.state.left
  still : is_pending w.state.phase ≡ true
  bytes : w.bytes ≡ v.bytes

module _ (d : Device) (v : World) (b : Bus) (pends : is_pending v.state.phase ≡ true) (whole : is_cut (effect_by d v b) ≡ false)
    (more : counts_on d v b ≡ true → 1 < v.state.left) where
  abbrev s : State
  s = v.state

  abbrev c : Cycle
  c = b.cycle

  abbrev all : Decision
  all = decide_of d s c (length v.bytes) (length b.residue)

  abbrev t : Settled
  t = settle_of d.part s c.pins

  refused_step : is_refusal all.reply ≡ true → Step d v b (stepped d v b)
  unfolding answer_of array_after
  refused_step r =
      let w = refused_nothing d s c (length v.bytes) (length b.residue) r in
      let none : counts_on d v b ≡ false = ap (λ (x : Bool). is_running s.phase && not x) r ∙ and_none (is_running s.phase) in
      record {
        pending = ap (λ (u : State). pending_of d.part u) w.0;
        left = ap (λ (u : State). u.left + one (counts_on d v b)) w.0 ∙ ap (λ (x : Bool). s.left + one x) none ∙ (let z : s.left + 0 ≡ s.left = omega arith in z);
        still = ap (λ (u : State). is_pending u.phase) w.0 ∙ pends;
        bytes = ap (λ (e : Effect). array_of e d.part b.residue v.bytes) w.1;
      }

  module _ (fine : is_refusal all.reply ≡ false) where
    running_counts : counts_on d v b ≡ is_running s.phase
    running_counts = ap (λ (x : Bool). is_running s.phase && not x) fine ∙ and_yes (is_running s.phase)
      where
        and_yes : (x : Bool) → (x && true) ≡ x
        and_yes true = refl
        and_yes false = refl

    up : rp_low c.pins ≡ false
    up = held.up d s c (length v.bytes) (length b.residue) pends fine whole

    high : vpp_low d.part c.pins ≡ false
    high = held.high d s c (length v.bytes) (length b.residue) pends fine whole

    same : Same d.part s t
    same = settle_same d.part s c up high pends (λ r. more (running_counts ∙ r))

    goes : all ≡ respond_of c.kind d c t
    goes = held.taken d s c (length v.bytes) (length b.residue) pends fine whole ∙ accept_up d c t up

    kinds : (k : Kind)
        → (pending_of d.part (respond_of k d c t).state ≡ pending_of d.part t.state) × ((respond_of k d c t).state.left ≡ t.state.left)
        × (is_pending (respond_of k d c t).state.phase ≡ true)
    kinds Read = (refl, refl, same.still)
    kinds Write = act_same d c t.state t.state.mode t.state.status t.state.phase t.state.left t.state.address same.still
    kinds Idle = (refl, refl, same.still)

    effect_none : all.effect ≡ Nothing
    effect_none = ap (λ (x : Decision). x.effect) (held.taken d s c (length v.bytes) (length b.residue) pends fine whole) ∙ accept_effect d c t ∙ same.effect

    taken_step : Step d v b (stepped d v b)
    unfolding answer_of array_after
    taken_step =
        let k = kinds c.kind in
        record {
          pending = ap (λ (x : Decision). pending_of d.part x.state) goes ∙ k.0 ∙ same.pending;
          left = ap (λ (x : Decision). x.state.left + one (counts_on d v b)) goes ∙ ap (λ (l : ℕ). l + one (counts_on d v b)) k.1
              ∙ ap (λ (x : Bool). t.state.left + one x) running_counts ∙ same.left;
          still = ap (λ (x : Decision). is_pending x.state.phase) goes ∙ k.2;
          bytes = ap (λ (e : Effect). array_of e d.part b.residue v.bytes) effect_none;
        }

  step : Step d v b (stepped d v b)
  step = go (is_refusal all.reply) refl
    where
      go : (x : Bool) → is_refusal all.reply ≡ x → Step d v b (stepped d v b)
      go true r = refused_step r
      go false r = taken_step r

-- ---- any cycles, as long as fewer count than are to go
pub record Still (d : Device) (v w : World) (n : ℕ) : Type 0 where
  pub pending : pending_of d.part w.state ≡ pending_of d.part v.state
  pub left : w.state.left + n ≡ v.state.left
  pub still : is_pending w.state.phase ≡ true
  pub bytes : w.bytes ≡ v.bytes

pub lasts : (d : Device) (bs : List Bus) (v : World) → is_pending v.state.phase ≡ true → uncut (effects_in d v bs) ≡ true → counted_in d v bs < v.state.left
    → Still d v (world_after d v bs) (counted_in d v bs)
lasts d [] v pends whole more = record { pending = refl; left = omega arith; still = pends; bytes = refl }
lasts d (b ∷ bs) v pends whole more =
    let x = counts_on d v b in
    let n = counted_in d (stepped d v b) bs in
    let one_step = step d v b pends (not-true (is_cut (effect_by d v b)) (and_left (not (is_cut (effect_by d v b))) (uncut (effects_in d (stepped d v b) bs)) whole))
    (λ y. fewer x n v.state.left y more) in
    let rest = lasts d bs (stepped d v b) one_step.still (and_right (not (is_cut (effect_by d v b))) (uncut (effects_in d (stepped d v b) bs)) whole)
    (let l = one_step.left in omega arith) in
    record {
      pending = rest.pending ∙ one_step.pending;
      left = (let l = one_step.left in let m = rest.left in omega arith);
      still = rest.still;
      bytes = rest.bytes ∙ one_step.bytes;
    }
  where
    fewer : (x : Bool) (n l : ℕ) → x ≡ true → one x + n < l → 1 < l
    fewer true n l y h = omega arith
    fewer false n l y h = absurd (unlike (sym y))

-- ---- the last cycle that counts
finish_is : (ph : Phase) (part : Part) (a : ℕ) → is_running ph ≡ true → finish_of ph part a ≡ pending_in ph part a
finish_is Free part a e = refl
finish_is EraseAwaited part a e = refl
finish_is DataAwaited part a e = refl
finish_is (Programming x) part a e = refl
finish_is Erasing part a e = refl
finish_is (Suspending n) part a e = absurd (unlike (sym e))
finish_is Suspended part a e = absurd (unlike (sym e))

-- at rest a write leaves nothing pending
rest_none : (d : Device) (c : Cycle) (s : State) → pending_of d.part (performed_of (action_of d.part Free (command_of c)) d c (end_state s)) ≡ Nothing
unfolding first_write
rest_none d c s =
    if_ind P (eqb (command_of c) 0xFF) _ _ (λ b. refl)
    (λ b. if_ind P (eqb (command_of c) 0xB0) _ _ (λ b. refl)
    (λ b. if_ind P (eqb (command_of c) 0x90) _ _ (λ b. refl)
    (λ b. if_ind P (eqb (command_of c) 0x70) _ _ (λ b. refl)
    (λ b. if_ind P (eqb (command_of c) 0x50) _ _ (λ b. refl)
    (λ b. if_ind P (eqb (command_of c) 0x20) _ _ (λ b. refl)
    (λ b. if_ind P (asks_program d.part (command_of c)) _ _ (λ b. refl) (λ b. refl)))))))
  where
    P : Action → Type 0
    P y = pending_of d.part (performed_of y d c (end_state s)) ≡ Nothing

pub ends : (d : Device) (v : World) (b : Bus) → counts_on d v b ≡ true → is_cut (effect_by d v b) ≡ false → v.state.left ≡ 1
    → (effect_by d v b ≡ pending_of d.part v.state) × (pending_of d.part (stepped d v b).state ≡ Nothing)
unfolding answer_of
ends d v b counts whole last =
    let s = v.state in
    let n = length v.bytes in
    let r = length b.residue in
    let x : Decision = decide_of d s b.cycle n r in
    let t : Settled = settle_of d.part s b.cycle.pins in
    let runs : is_running s.phase ≡ true = and_left (is_running s.phase) (is_taken d v b) counts in
    let fine : is_refusal x.reply ≡ false = not-true (is_refusal x.reply) (and_right (is_running s.phase) (is_taken d v b) counts) in
    let pends = (running_is s.phase runs).0 in
    let up = held.up d s b.cycle n r pends fine whole in
    let high = held.high d s b.cycle n r pends fine whole in
    let is = held.taken d s b.cycle n r pends fine whole in
    let q = settle_end d.part s b.cycle.pins up high runs last in (
      ap (λ (y : Decision). y.effect) is ∙ accept_effect d b.cycle t ∙ ap (λ (y : Settled). y.effect) q ∙ finish_is s.phase d.part s.address runs,
      ap (λ (y : Decision). pending_of d.part y.state) (is ∙ accept_up d b.cycle t up)
          ∙ ap (λ (y : Settled). pending_of d.part (respond_of b.cycle.kind d b.cycle y).state) q ∙ kinds b.cycle.kind,
    )
  where
    kinds : (k : Kind)
        → pending_of d.part (respond_of k d b.cycle (settled_as (end_state v.state) (finish_of v.state.phase d.part v.state.address))).state ≡ Nothing
    kinds Read = refl
    kinds Write = rest_none d b.cycle v.state
    kinds Idle = refl

-- ---- the cycle that begins it
pub record Begins (d : Device) (v w : World) (op : Effect) : Type 0 where
  pub pending : pending_of d.part w.state ≡ op
  pub left : w.state.left ≡ busy_time d op
  pub still : is_pending w.state.phase ≡ true
  pub bytes : w.bytes ≡ v.bytes

module _ (d : Device) (c : Cycle) (s : State) (supplied : unsupplied d.part c s ≡ false) (unlocks : locked d.part c ≡ false) where
  starts : (ph : Phase) (time bit : ℕ)
      → started_of d.part c s ph time bit
      ≡ record { mode = s.mode; status = without_bits s.status SR7; phase = ph; left = time; address = c.address; wear = wear_by ph d.part c s.wear }
  unfolding started_of
  starts ph time bit = simp (supplied, unlocks)

  abbrev Goal : Effect → State → Type 0
  Goal op u = (pending_of d.part u ≡ op) × (u.left ≡ busy_time d op) × (is_pending u.phase ≡ true)

  begins_with : (ph : Phase) → (asked_by ph d.part c ≡ Nothing → ⊥)
      → (is_awaited ph ≡ true) × Goal (asked_by ph d.part c) (performed_of (action_of d.part ph (command_of c)) d c s)
  unfolding after_erase
  begins_with Free z = absurd (z refl)
  begins_with EraseAwaited z = (refl, go (eqb (command_of c) 0xD0) refl)
    where
      go : (x : Bool) → eqb (command_of c) 0xD0 ≡ x
          → Goal (asked_by EraseAwaited d.part c) (performed_of (action_of d.part EraseAwaited (command_of c)) d c s)
      go true e = rw e (subst (Goal (Erase (block_of d.part c.address))) (sym (starts Erasing d.erase 0x20)) (refl, refl, refl))
      go false e = absurd (z (simp e))
  begins_with DataAwaited z = (refl, subst (Goal (Program c.address (data_of d.part c))) (sym (starts (Programming (data_of d.part c)) d.program 0x10)) (refl, refl, refl))
  begins_with (Programming x) z = absurd (z refl)
  begins_with Erasing z = absurd (z refl)
  begins_with (Suspending n) z = absurd (z refl)
  begins_with Suspended z = absurd (z refl)

module _ (d : Device) (v : World) (b : Bus) (op : Effect) (begun : begun_at d v b ≡ op) (some : op ≡ Nothing → ⊥) where
  number : number_of d v.state b.cycle (length v.bytes) (length b.residue) ≡ 0
  number = go (eqb (number_of d v.state b.cycle (length v.bytes) (length b.residue)) 0) refl
    where
      go : (x : Bool) → eqb (number_of d v.state b.cycle (length v.bytes) (length b.residue)) 0 ≡ x
          → number_of d v.state b.cycle (length v.bytes) (length b.residue) ≡ 0
      go true e = eqb-true (number_of d v.state b.cycle (length v.bytes) (length b.residue)) 0 e
      go false e =
          absurd (some (sym begun ∙ begun_refused d v.state b.cycle (length v.bytes) (length b.residue)
          (eqb-false (number_of d v.state b.cycle (length v.bytes) (length b.residue)) 0 e)))

  abbrev w : Bool
  w = is_write b.cycle.kind

  abbrev r : Bool
  r = not (rp_low b.cycle.pins)

  abbrev u : Bool
  u = not (unsupplied d.part b.cycle v.state)

  abbrev k : Bool
  k = not (locked d.part b.cycle)

  starts_it : starts_of d.part v.state b.cycle ≡ op
  starts_it = sym (begun_accepted d v.state b.cycle (length v.bytes) (length b.residue) number) ∙ begun

  test : (((w && r) && u) && k) ≡ true
  unfolding starts_of
  test = go (((w && r) && u) && k) refl
    where
      go : (x : Bool) → (((w && r) && u) && k) ≡ x → x ≡ true
      go true e = refl
      go false e = absurd (some (sym starts_it ∙ if_false (((w && r) && u) && k) _ _ e))

  asked : asked_by v.state.phase d.part b.cycle ≡ op
  unfolding starts_of
  asked = sym (if_true (((w && r) && u) && k) _ _ test) ∙ starts_it

  raised : rp_low b.cycle.pins ≡ false
  raised = not-true (rp_low b.cycle.pins) (and_right w r (and_left (w && r) u (and_left ((w && r) && u) k test)))

  goal : (is_awaited v.state.phase ≡ true)
      × Goal d b.cycle v.state
      (not-true (unsupplied d.part b.cycle v.state) (and_right (w && r) u (and_left ((w && r) && u) k test)))
      (not-true (locked d.part b.cycle) (and_right ((w && r) && u) k test))
      (asked_by v.state.phase d.part b.cycle) (performed_of (action_of d.part v.state.phase (command_of b.cycle)) d b.cycle v.state)
  goal =
      begins_with d b.cycle v.state (not-true (unsupplied d.part b.cycle v.state) (and_right (w && r) u (and_left ((w && r) && u) k test)))
      (not-true (locked d.part b.cycle) (and_right ((w && r) && u) k test)) v.state.phase (λ z. some (sym asked ∙ z))

  is : decide_of d v.state b.cycle (length v.bytes) (length b.residue)
      ≡ decided_as Quiet (performed_of (action_of d.part v.state.phase (command_of b.cycle)) d b.cycle v.state) Nothing
  is =
      accepted d v.state b.cycle (length v.bytes) (length b.residue) number
      ∙ accept_up d b.cycle (settle_of d.part v.state b.cycle.pins) raised
      ∙ ap (λ (t : Settled). respond_of b.cycle.kind d b.cycle t) (settle_awaited d.part v.state b.cycle goal.0 raised)
      ∙ ap (λ (x : Kind). respond_of x d b.cycle (settled_as v.state Nothing)) (is_write_lem b.cycle.kind (and_left w r (and_left (w && r) u (and_left ((w && r) && u) k test))))

  pub begins : Begins d v (stepped d v b) op
  begins =
      let q = leads d v b Quiet (performed_of (action_of d.part v.state.phase (command_of b.cycle)) d b.cycle v.state) Nothing is in
      record {
        pending = ap (λ (x : World). pending_of d.part x.state) q ∙ goal.1.0 ∙ asked;
        left = ap (λ (x : World). x.state.left) q ∙ goal.1.1 ∙ ap (busy_time d) asked;
        still = ap (λ (x : World). is_pending x.state.phase) q ∙ goal.1.2;
        bytes = ap (λ (x : World). x.bytes) q;
      }

-- ---- SR.7 where nothing is pending
none_idle : (ph : Phase) (part : Part) (a : ℕ) → pending_in ph part a ≡ Nothing → top_bits ph ≡ 2
none_idle Free part a e = refl
none_idle EraseAwaited part a e = refl
none_idle DataAwaited part a e = refl
none_idle (Programming x) part a e = absurd (let z : ◌≡◌ {A = ℕ} 0 1 = cc in omega arith)
none_idle Erasing part a e = absurd (let z : ◌≡◌ {A = ℕ} 0 1 = cc in omega arith)
none_idle (Suspending n) part a e = absurd (let z : ◌≡◌ {A = ℕ} 0 1 = cc in omega arith)
none_idle Suspended part a e = absurd (let z : ◌≡◌ {A = ℕ} 0 1 = cc in omega arith)

ready : (d : Device) (s : State) → Proper d s → pending_of d.part s ≡ Nothing → is_set s.status SR7 ≡ true
ready d s p e =
    let f = status_fits s.phase s.status p.status in
    let q = eqb-true (s.status / 64) (top_bits s.phase) (and_right (eqb (s.status % 8) 0) (eqb (s.status / 64) (top_bits s.phase)) f) in
    let t = none_idle s.phase d.part s.address e in
    ap not (ne_eqb (s.status / 128 % 2) 0 (λ z. omega arith))

-- a cycle that counts leaves a proper state
counts_proper : (d : Device) (v : World) (b : Bus) → counts_on d v b ≡ true → Proper d (stepped d v b).state
unfolding answer_of
counts_proper d v b counts =
    let x : Decision = decide_of d v.state b.cycle (length v.bytes) (length b.residue) in
    let fine = not-true (is_refusal x.reply) (and_right (is_running v.state.phase) (is_taken d v b) counts) in
    let zero = number_zero d v.state b.cycle (length v.bytes) (length b.residue) fine in
    cycle_proper d v.state b.cycle (length v.bytes) (length b.residue)
    (facts.fine d v.state b.cycle (length v.bytes) (length b.residue) zero).proper

-- ---- from its beginning to its end
module _ (d : Device) (v : World) (b : Bus) (op : Effect) (begun : begun_at d v b ≡ op) (some : op ≡ Nothing → ⊥) (bs : List Bus)
    (whole : uncut (effects_in d (stepped d v b) bs) ≡ true) where
  abbrev first : World
  first = stepped d v b

  abbrev at : World
  at = world_after d first bs

  abbrev n : ℕ
  n = counted_in d first bs

  start : Begins d v first op
  start = begins d v b op begun some

  so_far : n < busy_time d op → Still d first at n
  so_far h = lasts d bs first start.still whole (let l = start.left in omega arith)

  sooner : n < busy_time d op → (pending_of d.part at.state ≡ op) × (at.state.left + n ≡ busy_time d op) × (at.bytes ≡ v.bytes)
  sooner h = let q = so_far h in (q.pending ∙ start.pending, q.left ∙ start.left, q.bytes ∙ start.bytes)

  over : (e : Bus) → IsLast d v b op bs e
      → (effect_by d at e ≡ op) × (pending_of d.part (stepped d at e).state ≡ Nothing) × (is_set (stepped d at e).state.status SR7 ≡ true)
  over e last =
      let h = last.0 in
      let q = sooner (let z : n < busy_time d op = omega arith in z) in
      let m = ends d at e last.1 last.2 (let l = q.1 in let z : at.state.left ≡ 1 = omega arith in z) in
      (m.0 ∙ q.0, m.1, ready d (stepped d at e).state (counts_proper d at e last.1) m.1)

  leaves : (e : Bus) → IsLast d v b op bs e → (stepped d at e).bytes ≡ array_of op d.part e.residue v.bytes
  unfolding array_after
  leaves e last =
      let h = last.0 in
      let q = sooner (let z : n < busy_time d op = omega arith in z) in
      ap (λ (x : Effect). array_of x d.part e.residue at.bytes) (over e last).0 ∙ ap (λ (xs : List ℕ). array_of op d.part e.residue xs) q.2

  pub whole_life : Lasts d v b op bs
  whole_life = record {
    not_sooner = sooner;
    then_over = over;
    program_leaves = λ e last a y p. leaves e last ∙ ap (λ (x : Effect). array_of x d.part e.residue v.bytes) p;
    erase_leaves = λ e last j p. leaves e last ∙ ap (λ (x : Effect). array_of x d.part e.residue v.bytes) p;
  }
