-- Begun, pending and ended operations, and the law that ties them.
use mathlib.Core.Path.{◌≡◌, refl, sym, ap, ◌∙◌}
use mathlib.Core.Bool.{Bool, true, false, not, ◌&&◌}
use Prim.Native.Nat.{ℕ, ◌+◌, ◌-◌}
use native.Mathlib.Omega.{arith}
use lib.Dec.{eqb}
use borrow.Author.Tests.{eqb-true, eqb-false, eq-eqb, ne_eqb}
use Rattle.std.specs.Prelude.{if◌then◌else◌}
use Rattle.common.proofs.Choice.{if_ind, if_same, if_true, if_false, unlike}
use Rattle.device.specs.declared.Part.{Part}
use Rattle.device.specs.declared.Device.{Device}
use Rattle.device.specs.Parts.{block_of}
use Rattle.model_types.specs.declared.State.{State}
use Rattle.model_types.specs.declared.Cycle.{Cycle}
use Rattle.model_types.specs.declared.Settled.{Settled}
use Rattle.model_types.specs.declared.Decision.{Decision}
use Rattle.model_types.specs.declared.Action.{Action}
use Rattle.model_types.specs.declared.Action.TheVariants.{Confirm, WrongSecond}
use Rattle.model_types.specs.declared.Kind.{Kind}
use Rattle.model_types.specs.declared.Kind.TheVariants.{Read, Write, Idle}
use Rattle.model_types.specs.declared.Mode.{Mode}
use Rattle.model_types.specs.declared.Phase.{Phase}
use Rattle.model_types.specs.declared.Phase.TheVariants.{Free, EraseAwaited, DataAwaited, Programming, Erasing, Suspending, Suspended}
use Rattle.model_types.specs.declared.Effect.{Effect}
use Rattle.model_types.specs.declared.Effect.TheVariants.{Nothing, Erase}
use Rattle.model_levels.specs.Levels.{rp_low, vpp_low, locked}
use Rattle.model_states.specs.States.{reset_of}
use Rattle.model_commands.specs.Commands.{asks_program, first_write, after_erase, while_erasing, while_suspending, while_suspended, command_of, action_of}
use Rattle.model_actions.specs.Performed.{data_of, performed_of, started_of, unsupplied}
use Rattle.model_operation.specs.Settling.{settled_as, cut_of, finish_of, cut_by, counted_off, suspend_passed, passed_of, settle_of}
use Rattle.model_rules.specs.Cycles.{number_of, decide_of, accept_of, respond_of}
use Rattle.model_rules.proofs.Cases.{refused, accepted}
use Rattle.model.proofs.Outcome.{outcome, accept_cases, accept_effect}
use Rattle.model.specs.Begun.{operation_of, pending_in, pending_of, asked_by, starts_of, begun_by, begun_from}
use Rattle.model_types.specs.Kinds.{is_write}
use Rattle.model_types.specs.Phases.{is_pending, is_busy, is_suspending, suspend_left, is_awaited}
use Rattle.model.proofs.Keeping.{st}

cut_same : (ph : Phase) (part : Part) (a : ℕ) → operation_of (cut_of ph part a) ≡ pending_in ph part a
cut_same Free part a = refl
cut_same EraseAwaited part a = refl
cut_same DataAwaited part a = refl
cut_same (Programming b) part a = refl
cut_same Erasing part a = refl
cut_same (Suspending n) part a = refl
cut_same Suspended part a = refl

end_same : (ph : Phase) (part : Part) (a : ℕ) → is_busy ph ≡ true → is_suspending ph ≡ false → operation_of (finish_of ph part a) ≡ pending_in ph part a
end_same Free part a b u = refl
end_same EraseAwaited part a b u = refl
end_same DataAwaited part a b u = refl
end_same (Programming x) part a b u = refl
end_same Erasing part a b u = refl
end_same (Suspending n) part a b u = absurd (unlike u)
end_same Suspended part a b u = absurd (unlike (sym b))

-- a suspend under way leaves its erase pending
suspend_same : (ph : Phase) (part : Part) (a n : ℕ) → is_suspending ph ≡ true → (pending_in Suspended part a ≡ pending_in ph part a) × (pending_in (Suspending n) part a ≡ pending_in ph part a)
suspend_same Free part a n u = absurd (unlike (sym u))
suspend_same EraseAwaited part a n u = absurd (unlike (sym u))
suspend_same DataAwaited part a n u = absurd (unlike (sym u))
suspend_same (Programming x) part a n u = absurd (unlike (sym u))
suspend_same Erasing part a n u = absurd (unlike (sym u))
suspend_same (Suspending m) part a n u = (refl, refl)
suspend_same Suspended part a n u = absurd (unlike (sym u))

-- nothing is pending where a second write is awaited, and settling leaves such a state alone
awaited_free : (ph : Phase) (part : Part) (a : ℕ) → is_awaited ph ≡ true → pending_in ph part a ≡ Nothing
awaited_free Free part a e = refl
awaited_free EraseAwaited part a e = refl
awaited_free DataAwaited part a e = refl
awaited_free (Programming b) part a e = absurd (unlike (sym e))
awaited_free Erasing part a e = absurd (unlike (sym e))
awaited_free (Suspending n) part a e = absurd (unlike (sym e))
awaited_free Suspended part a e = absurd (unlike (sym e))

still : (ph : Phase) → is_awaited ph ≡ true → (is_pending ph ≡ false) × (is_busy ph ≡ false)
still Free e = (refl, refl)
still EraseAwaited e = (refl, refl)
still DataAwaited e = (refl, refl)
still (Programming b) e = absurd (unlike (sym e))
still Erasing e = absurd (unlike (sym e))
still (Suspending n) e = absurd (unlike (sym e))
still Suspended e = absurd (unlike (sym e))

pub settle_awaited : (part : Part) (s : State) (c : Cycle) → is_awaited s.phase ≡ true → rp_low c.pins ≡ false → settle_of part s c.pins ≡ settled_as s Nothing
unfolding settle_of
settle_awaited part s c e h = simp (h, (still s.phase e).0, (still s.phase e).1) (go (vpp_low part c.pins))
  where
    go : (b : Bool) → (if b && false then cut_by part s else settled_as s Nothing) ≡ settled_as s Nothing
    go true = refl
    go false = refl

-- settling awaits nothing new
pub settle_unawaited : (part : Part) (s : State) (c : Cycle) → is_awaited s.phase ≡ false → is_awaited (settle_of part s c.pins).state.phase ≡ false
unfolding settle_of cut_by passed_of suspend_passed counted_off
settle_unawaited part s c e =
    if_ind In (rp_low c.pins) _ _ (λ x. refl)
    (λ x. if_ind In (vpp_low part c.pins && is_pending s.phase) _ _ (λ v. refl)
    (λ v. if_ind In (is_busy s.phase) _ _
    (λ b. if_ind In (is_suspending s.phase) _ _ (λ u. if_ind In (eqb (suspend_left s.phase - 1) 0) _ _ (λ l. refl) (λ l. refl))
    (λ u. if_ind In (eqb (s.left - 1) 0) _ _ (λ l. refl) (λ l. e)))
    (λ b. e)))
  where
    In : Settled → Type 0
    In t = is_awaited t.state.phase ≡ false

module _ (f : Effect → ℕ) (zero : f Nothing ≡ 0) where
  -- steps 1 to 3 end or cut what was pending, or leave it
  settle_conserves : (part : Part) (s : State) (c : Cycle)
      → f (operation_of (settle_of part s c.pins).effect) + f (pending_of part (settle_of part s c.pins).state) ≡ f (pending_of part s)
  unfolding settle_of cut_by passed_of suspend_passed counted_off
  settle_conserves part s c =
      if_ind In (rp_low c.pins) _ _ (λ x. over)
      (λ x. if_ind In (vpp_low part c.pins && is_pending s.phase) _ _ (λ v. over)
      (λ v. if_ind In (is_busy s.phase) _ _
      (λ b. if_ind In (is_suspending s.phase) _ _
      (λ u. if_ind In (eqb (suspend_left s.phase - 1) 0) _ _ (λ l. (held u).0) (λ l. (held u).1))
      (λ u. if_ind In (eqb (s.left - 1) 0) _ _ (λ l. rw (end_same s.phase part s.address b u, zero) (omega arith)) (λ l. same)))
      (λ b. same)))
    where
      In : Settled → Type 0
      In t = f (operation_of t.effect) + f (pending_of part t.state) ≡ f (pending_of part s)

      over : f (operation_of (cut_of s.phase part s.address)) + f Nothing ≡ f (pending_of part s)
      over = rw (cut_same s.phase part s.address, zero) (omega arith)

      same : f Nothing + f (pending_of part s) ≡ f (pending_of part s)
      same = rw zero (omega arith)

      held : is_suspending s.phase ≡ true
          → (f Nothing + f (pending_in Suspended part s.address) ≡ f (pending_of part s))
          × (f Nothing + f (pending_in (Suspending (suspend_left s.phase - 1)) part s.address) ≡ f (pending_of part s))
      held u =
          let e = suspend_same s.phase part s.address (suspend_left s.phase - 1) u in
          (ap (λ (x : Effect). f Nothing + f x) e.0 ∙ same, ap (λ (x : Effect). f Nothing + f x) e.1 ∙ same)

-- a second write starts what it asks for, unless it is unsupplied or locked
started_pending : (part : Part) (c : Cycle) (s : State) (ph : Phase) (time bit : ℕ)
    → pending_of part (started_of part c s ph time bit) ≡ (if not (unsupplied part c s) && not (locked part c) then pending_in ph part c.address else Nothing)
unfolding started_of
started_pending part c s ph time bit = go (unsupplied part c s) (locked part c) refl refl
  where
    go : (u l : Bool) → unsupplied part c s ≡ u → locked part c ≡ l
        → pending_of part (started_of part c s ph time bit) ≡ (if not (unsupplied part c s) && not (locked part c) then pending_in ph part c.address else Nothing)
    go true l e h = simp e
    go false true e h = simp (e, h)
    go false false e h = simp (e, h)

-- an action starts nothing where no second write is awaited ..
act_pending : (d : Device) (c : Cycle) (s : State) (m : Mode) (x : ℕ) (ph : Phase) (l a : ℕ) → is_awaited ph ≡ false
    → pending_of d.part (performed_of (action_of d.part ph (command_of c)) d c (st s m x ph l a)) ≡ pending_in ph d.part a
unfolding first_write while_erasing while_suspending while_suspended
act_pending d c s m x Free l a e =
    if_ind P (eqb (command_of c) 0xFF) _ _ (λ b. refl)
    (λ b. if_ind P (eqb (command_of c) 0xB0) _ _ (λ b. refl)
    (λ b. if_ind P (eqb (command_of c) 0x90) _ _ (λ b. refl)
    (λ b. if_ind P (eqb (command_of c) 0x70) _ _ (λ b. refl)
    (λ b. if_ind P (eqb (command_of c) 0x50) _ _ (λ b. refl)
    (λ b. if_ind P (eqb (command_of c) 0x20) _ _ (λ b. refl)
    (λ b. if_ind P (asks_program d.part (command_of c)) _ _ (λ b. refl) (λ b. refl)))))))
  where
    P : Action → Type 0
    P y = pending_of d.part (performed_of y d c (st s m x Free l a)) ≡ Nothing
act_pending d c s m x EraseAwaited l a e = absurd (unlike e)
act_pending d c s m x DataAwaited l a e = absurd (unlike e)
act_pending d c s m x (Programming b) l a e = refl
act_pending d c s m x Erasing l a e =
    if_ind (λ (y : Action). pending_of d.part (performed_of y d c (st s m x Erasing l a)) ≡ pending_in Erasing d.part a) (eqb (command_of c) 0xB0) _ _ (λ b. refl) (λ b. refl)
act_pending d c s m x (Suspending n) l a e =
    if_ind (λ (y : Action). pending_of d.part (performed_of y d c (st s m x (Suspending n) l a)) ≡ pending_in (Suspending n) d.part a) (eqb (command_of c) 0x70) _ _ (λ b. refl) (λ b. refl)
act_pending d c s m x Suspended l a e =
    if_ind P (eqb (command_of c) 0xFF) _ _ (λ b. refl) (λ b. if_ind P (eqb (command_of c) 0x70) _ _ (λ b. refl) (λ b. if_ind P (eqb (command_of c) 0xD0) _ _ (λ b. refl) (λ b. refl)))
  where
    P : Action → Type 0
    P y = pending_of d.part (performed_of y d c (st s m x Suspended l a)) ≡ pending_in Suspended d.part a

-- .. and what is asked for where one is
act_starts : (d : Device) (c : Cycle) (s : State) (m : Mode) (x : ℕ) (ph : Phase) (l a : ℕ) → is_awaited ph ≡ true
    → pending_of d.part (performed_of (action_of d.part ph (command_of c)) d c (st s m x ph l a))
    ≡ (if not (unsupplied d.part c (st s m x ph l a)) && not (locked d.part c) then asked_by ph d.part c else Nothing)
unfolding after_erase
act_starts d c s m x Free l a e = absurd (unlike (sym e))
act_starts d c s m x EraseAwaited l a e = go (eqb (command_of c) 0xD0) refl
  where
    go : (b : Bool) → eqb (command_of c) 0xD0 ≡ b
        → pending_of d.part (performed_of (if eqb (command_of c) 0xD0 then Confirm else WrongSecond) d c (st s m x EraseAwaited l a))
        ≡ (if not (unsupplied d.part c (st s m x EraseAwaited l a)) && not (locked d.part c) then (if eqb (command_of c) 0xD0 then Erase (block_of d.part c.address) else Nothing) else Nothing)
    go true q = rw q (started_pending d.part c (st s m x EraseAwaited l a) Erasing d.erase 32)
    go false q = rw q (sym (if_same (not (unsupplied d.part c (st s m x EraseAwaited l a)) && not (locked d.part c)) Nothing))
act_starts d c s m x DataAwaited l a e = started_pending d.part c (st s m x DataAwaited l a) (Programming (data_of d.part c)) d.program 16
act_starts d c s m x (Programming b) l a e = absurd (unlike (sym e))
act_starts d c s m x Erasing l a e = absurd (unlike (sym e))
act_starts d c s m x (Suspending n) l a e = absurd (unlike (sym e))
act_starts d c s m x Suspended l a e = absurd (unlike (sym e))

-- nothing is asked for where no second write is awaited
unasked : (ph : Phase) (part : Part) (c : Cycle) → is_awaited ph ≡ false → asked_by ph part c ≡ Nothing
unasked Free part c e = refl
unasked EraseAwaited part c e = absurd (unlike e)
unasked DataAwaited part c e = absurd (unlike e)
unasked (Programming x) part c e = refl
unasked Erasing part c e = refl
unasked (Suspending n) part c e = refl
unasked Suspended part c e = refl

-- an accepted cycle with RP# low leaves a reset device, and with RP# up goes on to its read or write
accept_low : (d : Device) (s : State) (c : Cycle) → rp_low c.pins ≡ true → (accept_of d c (settle_of d.part s c.pins)).state ≡ reset_of s
unfolding accept_of settle_of
accept_low d s c h = simp h

pub accept_up : (d : Device) (c : Cycle) (t : Settled) → rp_low c.pins ≡ false → accept_of d c t ≡ respond_of c.kind d c t
unfolding accept_of
accept_up d c t h = simp h

-- what an accepted cycle starts, told by the states
starts_from : (d : Device) (s : State) (c : Cycle) → starts_of d.part s c ≡ begun_from d.part s (accept_of d c (settle_of d.part s c.pins)).state
unfolding starts_of
starts_from d s c = go (is_awaited s.phase) refl (rp_low c.pins) refl
  where
    part : Part
    part = d.part

    asked : Effect
    asked = asked_by s.phase part c

    G : State → Type 0
    G u = starts_of part s c ≡ begun_from part s u

    starts : (w r : Bool) → is_write c.kind ≡ w → rp_low c.pins ≡ r → starts_of part s c ≡ (if ((w && not r) && not (unsupplied part c s)) && not (locked part c) then asked else Nothing)
    starts w r e h = simp (e, h)

    none : (e : is_awaited s.phase ≡ true) → begun_from part s s ≡ Nothing
    none e = simp (e, awaited_free s.phase part s.address e)

    kinds : (k : Kind) → c.kind ≡ k → is_awaited s.phase ≡ true → rp_low c.pins ≡ false → G (respond_of k d c (settled_as s Nothing)).state
    kinds Read k e h = starts false false (ap is_write k) h ∙ sym (none e)
    kinds Write k e h =
        starts true false (ap is_write k) h
        ∙ sym (if_true (is_awaited s.phase) _ Nothing e ∙ act_starts d c s s.mode s.status s.phase s.left s.address e)
    kinds Idle k e h = starts false false (ap is_write k) h ∙ sym (none e)

    low : (w : Bool) → (if ((w && not true) && not (unsupplied part c s)) && not (locked part c) then asked else Nothing) ≡ Nothing
    low true = refl
    low false = refl

    go : (a : Bool) → is_awaited s.phase ≡ a → (r : Bool) → rp_low c.pins ≡ r → G (accept_of d c (settle_of part s c.pins)).state
    go false e r h =
        starts (is_write c.kind) (rp_low c.pins) refl refl
        ∙ ap (λ (x : Effect). (if ((is_write c.kind && not (rp_low c.pins)) && not (unsupplied part c s)) && not (locked part c) then x else Nothing)) (unasked s.phase part c e)
        ∙ if_same (((is_write c.kind && not (rp_low c.pins)) && not (unsupplied part c s)) && not (locked part c)) Nothing
        ∙ sym (if_false (is_awaited s.phase) _ Nothing e)
    go true e true h =
        starts (is_write c.kind) true refl h ∙ low (is_write c.kind)
        ∙ sym (ap (λ (u : State). begun_from part s u) (accept_low d s c h) ∙ if_same (is_awaited s.phase) Nothing)
    go true e false h = rw (accept_up d c (settle_of part s c.pins) h, settle_awaited part s c e h) (kinds c.kind refl e h)

-- nothing begins from a state to itself
pub begun_still : (part : Part) (s : State) → begun_from part s s ≡ Nothing
begun_still part s = go (is_awaited s.phase) refl
  where
    go : (b : Bool) → is_awaited s.phase ≡ b → begun_from part s s ≡ Nothing
    go true e = simp (e, awaited_free s.phase part s.address e)
    go false e = simp e

-- what a cycle begins is told by the states before and after it
pub begun_from_lem : (d : Device) (s : State) (c : Cycle) (n r : ℕ) → begun_by d s c n r ≡ begun_from d.part s (decide_of d s c n r).state
unfolding begun_by
begun_from_lem d s c n r = go (eqb (number_of d s c n r) 0) refl
  where
    go : (b : Bool) → eqb (number_of d s c n r) 0 ≡ b
        → (if eqb (number_of d s c n r) 0 then starts_of d.part s c else Nothing) ≡ begun_from d.part s (decide_of d s c n r).state
    go true e = rw (e, accepted d s c n r (eqb-true _ _ e)) (starts_from d s c)
    go false e = rw (e, refused d s c n r (number_of d s c n r) refl (eqb-false _ _ e)) (sym (begun_still d.part s))

-- settling with RP# low resets
pub settle_low : (part : Part) (s : State) (c : Cycle) → rp_low c.pins ≡ true → (settle_of part s c.pins).state ≡ reset_of s
unfolding settle_of
settle_low part s c h = simp h

module _ (f : Effect → ℕ) (none : f Nothing ≡ 0) where
  -- step 4 adds what begins to what is pending
  accept_adds : (d : Device) (s : State) (c : Cycle)
      → f (pending_of d.part (accept_of d c (settle_of d.part s c.pins)).state)
      ≡ f (begun_from d.part s (accept_of d c (settle_of d.part s c.pins)).state) + f (pending_of d.part (settle_of d.part s c.pins).state)
  accept_adds d s c =
      accept_cases d c t P
      (λ h. rw (settle_low d.part s c h, if_same (is_awaited s.phase) Nothing, none) (omega arith))
      (λ h k q. go (is_awaited s.phase) refl h k)
    where
      t : Settled
      t = settle_of d.part s c.pins

      P : Decision → Type 0
      P x = f (pending_of d.part x.state) ≡ f (begun_from d.part s x.state) + f (pending_of d.part t.state)

      go : (a : Bool) → is_awaited s.phase ≡ a → rp_low c.pins ≡ false → (k : Kind) → P (respond_of k d c t)
      go true e h k = rw (e, settle_awaited d.part s c e h, awaited_free s.phase d.part s.address e, none) (omega arith)
      go false e h Read = rw (e, none) (omega arith)
      go false e h Write = rw (e, none, act_pending d c t.state t.state.mode t.state.status t.state.phase t.state.left t.state.address (settle_unawaited d.part s c e)) (omega arith)
      go false e h Idle = rw (e, none) (omega arith)

  -- the law of lives: what ended or was cut and what is pending after is what began and what was pending before
  pub conserved : (d : Device) (s : State) (c : Cycle) (n r : ℕ)
      → f (operation_of (decide_of d s c n r).effect) + f (pending_of d.part (decide_of d s c n r).state) ≡ f (begun_by d s c n r) + f (pending_of d.part s)
  conserved d s c n r =
      rw (begun_from_lem d s c n r)
      (outcome d s c n r (λ (x : Decision). f (operation_of x.effect) + f (pending_of d.part x.state) ≡ f (begun_from d.part s x.state) + f (pending_of d.part s))
      (λ m z e. rw (begun_still d.part s) refl)
      (λ z g. rw (accept_effect d c (settle_of d.part s c.pins)) (omega (arith, accept_adds d s c, settle_conserves f none d.part s c))))

-- with no second write awaited a cycle begins nothing; a resume is such a cycle
pub begun_unawaited : (d : Device) (s : State) (c : Cycle) (n r : ℕ) → is_awaited s.phase ≡ false → begun_by d s c n r ≡ Nothing
begun_unawaited d s c n r e = begun_from_lem d s c n r ∙ if_false (is_awaited s.phase) (pending_of d.part (decide_of d s c n r).state) Nothing e

-- a refused cycle begins nothing, and an accepted one what it starts
pub begun_refused : (d : Device) (s : State) (c : Cycle) (n r : ℕ) → (number_of d s c n r ≡ 0 → ⊥) → begun_by d s c n r ≡ Nothing
unfolding begun_by
begun_refused d s c n r z = if_false (eqb (number_of d s c n r) 0) (starts_of d.part s c) Nothing (ne_eqb (number_of d s c n r) 0 z)

pub begun_accepted : (d : Device) (s : State) (c : Cycle) (n r : ℕ) → number_of d s c n r ≡ 0 → begun_by d s c n r ≡ starts_of d.part s c
unfolding begun_by
begun_accepted d s c n r e = if_true (eqb (number_of d s c n r) 0) (starts_of d.part s c) Nothing (eq-eqb (number_of d s c n r) 0 e)
