-- A cycle counts the erase that it begins, and nothing else.
use mathlib.Core.Path.{◌≡◌, refl, sym, ap, ◌∙◌}
use mathlib.Core.Bool.{Bool, true, false, not, ◌&&◌}
use Prim.Native.Nat.{ℕ, ◌-◌, ◌<◌}
use native.Mathlib.Omega.{arith}
use lib.Dec.{eqb}
use borrow.Author.Tests.{eqb-true, leb-false, not-true}
use Rattle.common.proofs.Choice.{if_ind, if_same, if_true, if_false, and_left, and_right, unlike}
use Rattle.device.specs.declared.Part.{Part}
use Rattle.device.specs.declared.Device.{Device}
use Rattle.device.specs.Parts.{size_of, block_of, length_of}
use Rattle.device.proofs.Claims.{blocks_cover}
use Rattle.model_types.specs.declared.State.{State}
use Rattle.model_types.specs.declared.Pins.{Pins}
use Rattle.model_types.specs.declared.Cycle.{Cycle}
use Rattle.model_types.specs.declared.Settled.{Settled}
use Rattle.model_types.specs.declared.Decision.{Decision}
use Rattle.model_types.specs.declared.Action.{Action}
use Rattle.model_types.specs.declared.Kind.{Kind}
use Rattle.model_types.specs.declared.Kind.TheVariants.{Read, Write, Idle}
use Rattle.model_types.specs.declared.Mode.{Mode}
use Rattle.model_types.specs.declared.Phase.{Phase}
use Rattle.model_types.specs.declared.Phase.TheVariants.{Free, EraseAwaited, DataAwaited, Programming, Erasing, Suspending, Suspended}
use Rattle.model_types.specs.declared.Effect.{Effect}
use Rattle.model_types.specs.declared.Effect.TheVariants.{Nothing, Program, Erase, CutProgram, CutErase}
use Rattle.model_types.specs.Counts.{worn_by}
use Rattle.model_types.specs.Kinds.{is_write}
use Rattle.model_levels.specs.Levels.{rp_low, vpp_low, locked}
use Rattle.model_types.specs.Phases.{is_pending, is_busy, is_suspending, suspend_left, is_awaited}
use Rattle.model_commands.specs.Commands.{asks_program, first_write, after_erase, while_erasing, while_suspending, while_suspended, command_of, action_of}
use Rattle.model_actions.specs.Performed.{data_of, performed_of, wear_by, started_of, unsupplied}
use Rattle.model_operation.specs.Settling.{settled_as, cut_by, counted_off, suspend_passed, passed_of, settle_of}
use Rattle.model_types.specs.declared.Reply.TheVariants.{Quiet}
use Rattle.model_rules.specs.Cycles.{number_of, decide_of, accept_of, respond_of, decided_as}
use Rattle.model_rules.proofs.Facts.{Fine, fine}
use Rattle.model.specs.Begun.{pending_in, pending_of, asked_by, starts_of, begun_by, begun_from, wear_after}
use Rattle.model.proofs.Outcome.{outcome, accept_cases}
use Rattle.model.proofs.Keeping.{st, address_inside}
use Rattle.model.proofs.Lives.{settle_awaited, settle_unawaited, settle_low, begun_still, begun_from_lem}

-- steps 1 to 3 count nothing: no reset, no cut, no end
pub settle_wear : (part : Part) (s : State) (p : Pins) → (settle_of part s p).state.wear ≡ s.wear
unfolding settle_of cut_by passed_of suspend_passed counted_off
settle_wear part s p =
    if_ind In (rp_low p) _ _ (λ x. refl)
    (λ x. if_ind In (vpp_low part p && is_pending s.phase) _ _ (λ v. refl)
    (λ v. if_ind In (is_busy s.phase) _ _
    (λ b. if_ind In (is_suspending s.phase) _ _ (λ u. if_ind In (eqb (suspend_left s.phase - 1) 0) _ _ (λ l. refl) (λ l. refl))
    (λ u. if_ind In (eqb (s.left - 1) 0) _ _ (λ l. refl) (λ l. refl)))
    (λ b. refl)))
  where
    In : Settled → Type 0
    In t = t.state.wear ≡ s.wear

-- a confirm or data counts what is then pending
started_wear : (part : Part) (c : Cycle) (s : State) (ph : Phase) (time bit : ℕ) → wear_by ph part c s.wear ≡ worn_by (pending_in ph part c.address) s.wear
    → (started_of part c s ph time bit).wear ≡ worn_by (pending_of part (started_of part c s ph time bit)) s.wear
unfolding started_of
started_wear part c s ph time bit e =
    if_ind (λ (u : State). u.wear ≡ worn_by (pending_of part u) s.wear) (unsupplied part c s) _ _ (λ l. refl)
    (λ l. if_ind (λ (u : State). u.wear ≡ worn_by (pending_of part u) s.wear) (locked part c) _ _ (λ l. refl) (λ l. e))

-- a second write counts what is then pending ..
act_counts : (d : Device) (c : Cycle) (s : State) (m : Mode) (x : ℕ) (ph : Phase) (l a : ℕ) → is_awaited ph ≡ true
    → (performed_of (action_of d.part ph (command_of c)) d c (st s m x ph l a)).wear
    ≡ worn_by (pending_of d.part (performed_of (action_of d.part ph (command_of c)) d c (st s m x ph l a))) s.wear
unfolding after_erase
act_counts d c s m x Free l a e = absurd (unlike (sym e))
act_counts d c s m x EraseAwaited l a e =
    if_ind (λ (y : Action). (performed_of y d c (st s m x EraseAwaited l a)).wear ≡ worn_by (pending_of d.part (performed_of y d c (st s m x EraseAwaited l a))) s.wear)
    (eqb (command_of c) 0xD0) _ _
    (λ b. started_wear d.part c (st s m x EraseAwaited l a) Erasing d.erase 0x20 refl)
    (λ b. refl)
act_counts d c s m x DataAwaited l a e = started_wear d.part c (st s m x DataAwaited l a) (Programming (data_of d.part c)) d.program 0x10 refl
act_counts d c s m x (Programming b) l a e = absurd (unlike (sym e))
act_counts d c s m x Erasing l a e = absurd (unlike (sym e))
act_counts d c s m x (Suspending n) l a e = absurd (unlike (sym e))
act_counts d c s m x Suspended l a e = absurd (unlike (sym e))

-- .. and where none is awaited a write counts nothing: not 20H, not a resume
act_keeps : (d : Device) (c : Cycle) (s : State) (m : Mode) (x : ℕ) (ph : Phase) (l a : ℕ) → is_awaited ph ≡ false
    → (performed_of (action_of d.part ph (command_of c)) d c (st s m x ph l a)).wear ≡ s.wear
unfolding first_write while_erasing while_suspending while_suspended
act_keeps d c s m x Free l a e =
    if_ind P (eqb (command_of c) 0xFF) _ _ (λ b. refl)
    (λ b. if_ind P (eqb (command_of c) 0xB0) _ _ (λ b. refl)
    (λ b. if_ind P (eqb (command_of c) 0x90) _ _ (λ b. refl)
    (λ b. if_ind P (eqb (command_of c) 0x70) _ _ (λ b. refl)
    (λ b. if_ind P (eqb (command_of c) 0x50) _ _ (λ b. refl)
    (λ b. if_ind P (eqb (command_of c) 0x20) _ _ (λ b. refl)
    (λ b. if_ind P (asks_program d.part (command_of c)) _ _ (λ b. refl) (λ b. refl)))))))
  where
    P : Action → Type 0
    P y = (performed_of y d c (st s m x Free l a)).wear ≡ s.wear
act_keeps d c s m x EraseAwaited l a e = absurd (unlike e)
act_keeps d c s m x DataAwaited l a e = absurd (unlike e)
act_keeps d c s m x (Programming b) l a e = refl
act_keeps d c s m x Erasing l a e =
    if_ind (λ (y : Action). (performed_of y d c (st s m x Erasing l a)).wear ≡ s.wear) (eqb (command_of c) 0xB0) _ _ (λ b. refl) (λ b. refl)
act_keeps d c s m x (Suspending n) l a e =
    if_ind (λ (y : Action). (performed_of y d c (st s m x (Suspending n) l a)).wear ≡ s.wear) (eqb (command_of c) 0x70) _ _ (λ b. refl) (λ b. refl)
act_keeps d c s m x Suspended l a e =
    if_ind P (eqb (command_of c) 0xFF) _ _ (λ b. refl) (λ b. if_ind P (eqb (command_of c) 0x70) _ _ (λ b. refl) (λ b. if_ind P (eqb (command_of c) 0xD0) _ _ (λ b. refl) (λ b. refl)))
  where
    P : Action → Type 0
    P y = (performed_of y d c (st s m x Suspended l a)).wear ≡ s.wear

-- an accepted cycle
accept_wear : (d : Device) (s : State) (c : Cycle)
    → (accept_of d c (settle_of d.part s c.pins)).state.wear ≡ worn_by (begun_from d.part s (accept_of d c (settle_of d.part s c.pins)).state) s.wear
accept_wear d s c =
    accept_cases d c t P
    (λ h. rw (settle_low d.part s c h, if_same (is_awaited s.phase) Nothing) refl)
    (λ h k q. go (is_awaited s.phase) refl h k)
  where
    t : Settled
    t = settle_of d.part s c.pins

    P : Decision → Type 0
    P x = x.state.wear ≡ worn_by (begun_from d.part s x.state) s.wear

    still : P (decided_as Quiet s Nothing)
    still = sym (ap (λ (e : Effect). worn_by e s.wear) (begun_still d.part s))

    awaited : is_awaited s.phase ≡ true → (k : Kind) → P (respond_of k d c (settled_as s Nothing))
    awaited e Read = still
    awaited e Write =
        act_counts d c s s.mode s.status s.phase s.left s.address e
        ∙ sym (ap (λ (x : Effect). worn_by x s.wear) (if_true (is_awaited s.phase) (pending_of d.part (respond_of Write d c (settled_as s Nothing)).state) Nothing e))
    awaited e Idle = still

    none : is_awaited s.phase ≡ false → (u : State) → u.wear ≡ s.wear → u.wear ≡ worn_by (begun_from d.part s u) s.wear
    none e u q = q ∙ sym (ap (λ (x : Effect). worn_by x s.wear) (if_false (is_awaited s.phase) (pending_of d.part u) Nothing e))

    go : (a : Bool) → is_awaited s.phase ≡ a → rp_low c.pins ≡ false → (k : Kind) → P (respond_of k d c t)
    go true e h k = rw (settle_awaited d.part s c e h) (awaited e k)
    go false e h Read = none e t.state (settle_wear d.part s c.pins)
    go false e h Write =
        none e (respond_of Write d c t).state
        (act_keeps d c t.state t.state.mode t.state.status t.state.phase t.state.left t.state.address (settle_unawaited d.part s c e)
        ∙ settle_wear d.part s c.pins)
    go false e h Idle = none e t.state (settle_wear d.part s c.pins)

-- a cycle's counts are those before it and the erase that it begins
pub wear_after_lem : (d : Device) (s : State) (c : Cycle) (n r : ℕ) → (decide_of d s c n r).state.wear ≡ wear_after d s c n r
wear_after_lem d s c n r =
    outcome d s c n r (λ (x : Decision). x.state.wear ≡ worn_by (begun_from d.part s x.state) s.wear)
    (λ m z e. sym (ap (λ (x : Effect). worn_by x s.wear) (begun_still d.part s)))
    (λ z g. accept_wear d s c)
    ∙ sym (ap (λ (x : Effect). worn_by x s.wear) (begun_from_lem d s c n r))

-- an operation is one of a block that the part has, if it is an erase
abbrev pub There : Part → Effect → Type 0
There part Nothing = ◌≡◌ {A = ℕ} 0 0
There part (Program at b) = ◌≡◌ {A = ℕ} 0 0
There part (Erase k) = 0 < length_of part k
There part (CutProgram at b) = ◌≡◌ {A = ℕ} 0 0
There part (CutErase k) = ◌≡◌ {A = ℕ} 0 0

written : (k : Kind) → is_write k ≡ true → k ≡ Write
written Read e = absurd (unlike (sym e))
written Write e = refl
written Idle e = absurd (unlike (sym e))

asked_there : (ph : Phase) (part : Part) (c : Cycle) → c.address < size_of part → There part (asked_by ph part c)
unfolding length_of
asked_there Free part c h = refl
asked_there EraseAwaited part c h =
    if_ind (There part) (eqb (command_of c) 0xD0) (Erase (block_of part c.address)) Nothing (λ b. let q = blocks_cover part c.address h in omega (arith, q.from, q.to)) (λ b. refl)
asked_there DataAwaited part c h = refl
asked_there (Programming x) part c h = refl
asked_there Erasing part c h = refl
asked_there (Suspending n) part c h = refl
asked_there Suspended part c h = refl

-- an erase that a cycle begins is one of a block that the part has
pub begun_there : (d : Device) (s : State) (c : Cycle) (n r : ℕ) → There d.part (begun_by d s c n r)
unfolding begun_by starts_of
begun_there d s c n r =
    if_ind (There part) (eqb (number_of d s c n r) 0) _ _
    (λ e. if_ind (There part) (((is_write c.kind && not (rp_low c.pins)) && not (unsupplied part c s)) && not (locked part c)) _ _
    (λ t. asked_there s.phase part c (inside (fine d s c n r (eqb-true (number_of d s c n r) 0 e)) t)) (λ t. refl))
    (λ e. refl)
  where
    part : Part
    part = d.part

    inside : Fine d s c n r → (((is_write c.kind && not (rp_low c.pins)) && not (unsupplied part c s)) && not (locked part c)) ≡ true → c.address < size_of part
    inside f t =
        let a = is_write c.kind && not (rp_low c.pins) in
        let w : a ≡ true = and_left a (not (unsupplied part c s)) (and_left (a && not (unsupplied part c s)) (not (locked part c)) t) in
        leb-false (size_of part) c.address
        (address_inside d c f.inside (not-true (rp_low c.pins) (and_right (is_write c.kind) (not (rp_low c.pins)) w)) (written c.kind (and_left (is_write c.kind) (not (rp_low c.pins)) w)))
