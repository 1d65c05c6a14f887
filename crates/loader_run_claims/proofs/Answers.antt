-- What the model answers to each cycle of a load: the place that opens the model's rules, with Judging of run.
use mathlib.Core.Path.{◌≡◌, refl, sym, ap, ◌∙◌}
use mathlib.Core.Bool.{Bool, true, false, not, ◌&&◌, ◌||◌}
use Prim.Native.Nat.{ℕ, ◌+◌, ◌-◌, ◌≤◌, ◌<◌}
use native.Mathlib.Omega.{arith}
use lib.Dec.{eqb, ltb}
use lib.Bits.{bit_and, bit_or}
use borrow.Author.Tests.{lt-leb, ne_eqb, eqb-true, le-ltb}
use Rattle.std.specs.Prelude.{if◌then◌else◌}
use Rattle.common.proofs.Choice.{if_false, or_both, unlike, and_none}
use Rattle.device.specs.declared.Device.{Device}
use Rattle.device.specs.Parts.{unknown_device, size_of, block_of}
use Rattle.model_types.specs.declared.Pins.{Pins}
use Rattle.model_types.specs.declared.Kind.{Kind}
use Rattle.model_types.specs.declared.Kind.TheVariants.{Read, Write}
use Rattle.model_types.specs.declared.Mode.{Mode}
use Rattle.model_types.specs.declared.Mode.TheVariants.{Array, Status}
use Rattle.model_types.specs.declared.Phase.{Phase}
use Rattle.model_types.specs.declared.Phase.TheVariants.{Free, EraseAwaited, DataAwaited, Programming, Erasing, Suspending, Suspended}
use Rattle.model_types.specs.declared.Effect.{Effect}
use Rattle.model_types.specs.declared.Effect.TheVariants.{Nothing}
use Rattle.model_types.specs.declared.Reply.TheVariants.{Quiet, Gives, GivesArray}
use Rattle.model_types.specs.declared.State.{State}
use Rattle.model_types.specs.declared.Settled.{Settled}
use Rattle.model_types.specs.declared.Cycle.{Cycle}
use Rattle.model_levels.specs.Levels.{rp_low, vpp_low, bad_pins, locked, unlocked}
use Rattle.model_states.specs.States.{is_at_rest, most_left}
use Rattle.model_states.specs.Inner.{bad_mode, bad_status, bad_left, bad_address}
use Rattle.model_types.specs.Cells.{ones}
use Rattle.model_actions.proofs.Carried.{data_cell}
use Rattle.model_commands.specs.Commands.{command_of, asks_program, action_of, first_write, after_erase, while_erasing}
use Rattle.model_actions.specs.Performed.{data_of, performed_of, wear_by, started_of, unsupplied}
use Rattle.model_operation.specs.Settling.{settled_as, settle_of, counted_off, suspend_passed, passed_of, finish_of}
use Rattle.model_judge.specs.Judging.{short_residue}
use Rattle.model_rules.specs.Cycles.{no_command, suspended_read, no_identifier, late_of, decide_of, accept_of, respond_of, decided_as}
use Rattle.model_types.specs.Phases.{is_busy, is_suspending, is_pending, is_suspended}
use Rattle.model_rules.proofs.Cases.{accepted, number_late}
use Rattle.model_rules.proofs.Facts.{Proper}
use Rattle.model.proofs.Keeping.{st, rest_proper}
use Rattle.model.proofs.Status.{fits}
use Rattle.loader_run.proofs.Judging.{unasked, unasked_high, judged}
use Rattle.loader_run_claims.specs.Made.{bus_cycle as cyc}
use Rattle.loader_run_claims.specs.Ends.{erased_from}

-- a device that is known, and levels that a load may have
pub record Up (d : Device) (p : Pins) : Type 0 where
  pub known : unknown_device d ≡ false
  pub levels : bad_pins d.part p ≡ false
  pub up : rp_low p ≡ false

-- VPP high as well, and the boot block unlocked if it is the one
pub record Ready (d : Device) (p : Pins) (k : ℕ) : Type 0 where
  pub base : Up d p
  pub high : vpp_low d.part p ≡ false
  pub unlock : k ≡ 0 → unlocked d.part p 0 ≡ true

-- an operation in block k cannot start: the error bits that come of it, with SR.3 or without
pub record Stuck (d : Device) (p : Pins) (k low : ℕ) : Type 0 where
  pub stays : (s : State) (ph : Phase) (a b time bit : ℕ) → s.status ≡ 128 → block_of d.part a ≡ k
      → started_of d.part (cyc p Write a b) s ph time bit ≡ is_at_rest s s.mode (bit_or (bit_or 128 low) bit)

-- .. because VPP is low
pub unsupplied_stuck : (d : Device) (p : Pins) (k : ℕ) → vpp_low d.part p ≡ true → Stuck d p k 8
unfolding started_of unsupplied
unsupplied_stuck d p k e = record { stays = λ s ph a b time bit q h. simp (e, q) }

-- .. because it is the boot block and RP# is not at unlock level
pub locked_stuck : (d : Device) (p : Pins) (k : ℕ) → vpp_low d.part p ≡ false → eqb k 0 ≡ true → unlocked d.part p 0 ≡ false → Stuck d p k 0
unfolding started_of unsupplied locked
locked_stuck d p k e z f = record { stays = λ s ph a b time bit q h. simp (e, q, h, z, f) }

-- an operation is running, and no suspend of it is under way
abbrev pub Runs : Phase → Type 0
Runs ph = (is_busy ph ≡ true) × (is_suspending ph ≡ false)

-- `was` is the state that the states of these cycles come from
module _ (d : Device) (p : Pins) (u : Up d p) (was : State) where
  -- with nothing pending, steps 1 to 3 leave the state
  rest : (s : State) → is_pending s.phase ≡ false → settle_of d.part s p ≡ settled_as s Nothing
  unfolding settle_of
  rest s e = simp (u.up, e, calm s.phase e, and_none (vpp_low d.part p))
    where
      calm : (ph : Phase) → is_pending ph ≡ false → is_busy ph ≡ false
      calm Free q = refl
      calm EraseAwaited q = refl
      calm DataAwaited q = refl
      calm (Programming x) q = absurd (unlike q)
      calm Erasing q = absurd (unlike q)
      calm (Suspending n') q = absurd (unlike q)
      calm Suspended q = refl

  -- a cycle that no late number refuses goes on to its read or write
  pub decides : (s t : State) (e : Effect) (kind : Kind) (a b : ℕ) → Proper d s → a < size_of d.part → short_residue d.part s (cyc p kind a b) 0 ≡ false
      → settle_of d.part s p ≡ settled_as t e → late_of d.part t (cyc p kind a b) ≡ 0
      → decide_of d s (cyc p kind a b) (size_of d.part) 0 ≡ respond_of kind d (cyc p kind a b) (settled_as t e)
  unfolding accept_of
  decides s t e kind a b q h z g l =
      accepted d s (cyc p kind a b) (size_of d.part) 0
      (number_late d s (cyc p kind a b) (size_of d.part) 0 0 (judged d s (cyc p kind a b) (size_of d.part) u.known refl q u.levels refl h z) (ap (λ (x : Settled). late_of d.part x.state (cyc p kind a b)) g ∙ l))
      ∙ if_false (rp_low p) _ _ u.up
      ∙ ap (λ (x : Settled). respond_of kind d (cyc p kind a b) x) g

  -- .. where nothing is pending
  pub calm_decides : (s : State) (kind : Kind) (a b : ℕ) → Proper d s → a < size_of d.part → is_pending s.phase ≡ false → late_of d.part s (cyc p kind a b) ≡ 0
      → decide_of d s (cyc p kind a b) (size_of d.part) 0 ≡ respond_of kind d (cyc p kind a b) (settled_as s Nothing)
  calm_decides s kind a b q h e l = decides s s Nothing kind a b q h (unasked d.part s (cyc p kind a b) e) (rest s e) l

  -- a write to a device at rest
  pub rest_write : (m : Mode) (x a b : ℕ) → fits 2 x ≡ true → a < size_of d.part → late_of d.part (is_at_rest was m x) (cyc p Write a b) ≡ 0
      → decide_of d (is_at_rest was m x) (cyc p Write a b) (size_of d.part) 0 ≡ decided_as Quiet (performed_of (action_of d.part Free (command_of (cyc p Write a b))) d (cyc p Write a b) (is_at_rest was m x)) Nothing
  rest_write m x a b f h l = calm_decides (is_at_rest was m x) Write a b (rest_proper d was m x f) h refl l

  pub clears : (m : Mode) (x a : ℕ) → fits 2 x ≡ true → a < size_of d.part
      → decide_of d (is_at_rest was m x) (cyc p Write a 0x50) (size_of d.part) 0 ≡ decided_as Quiet (is_at_rest was m (bit_and x 199)) Nothing
  unfolding first_write asks_program command_of late_of no_command suspended_read no_identifier
  clears m x a f h = rest_write m x a 0x50 f h refl

  pub opens : (m : Mode) (x a : ℕ) → fits 2 x ≡ true → a < size_of d.part
      → decide_of d (is_at_rest was m x) (cyc p Write a 0xFF) (size_of d.part) 0 ≡ decided_as Quiet (is_at_rest was Array x) Nothing
  unfolding first_write asks_program command_of late_of no_command suspended_read no_identifier
  opens m x a f h = rest_write m x a 0xFF f h refl

  pub asks_erase : (m : Mode) (x a : ℕ) → fits 2 x ≡ true → a < size_of d.part
      → decide_of d (is_at_rest was m x) (cyc p Write a 0x20) (size_of d.part) 0 ≡ decided_as Quiet (st was Status x EraseAwaited 0 0) Nothing
  unfolding first_write asks_program command_of late_of no_command suspended_read no_identifier
  asks_erase m x a f h = rest_write m x a 0x20 f h refl

  pub asks_program_lem : (m : Mode) (x a : ℕ) → fits 2 x ≡ true → a < size_of d.part
      → decide_of d (is_at_rest was m x) (cyc p Write a 0x40) (size_of d.part) 0 ≡ decided_as Quiet (st was Status x DataAwaited 0 0) Nothing
  unfolding first_write asks_program command_of late_of no_command suspended_read no_identifier
  asks_program_lem m x a f h = rest_write m x a 0x40 f h refl

  -- an array read
  pub reads : (x a : ℕ) → fits 2 x ≡ true → a < size_of d.part
      → decide_of d (is_at_rest was Array x) (cyc p Read a 0) (size_of d.part) 0 ≡ decided_as (GivesArray a) (is_at_rest was Array x) Nothing
  unfolding late_of no_command suspended_read no_identifier
  reads x a f h = calm_decides (is_at_rest was Array x) Read a 0 (rest_proper d was Array x f) h refl refl

  -- no late number refuses a read of the status
  pub late_status : (s : State) (a : ℕ) → s.mode ≡ Status → late_of d.part s (cyc p Read a 0) ≡ 0
  unfolding late_of no_command suspended_read no_identifier
  late_status s a m = simp m (go (is_suspended s.phase))
    where
      go : (t : Bool) → ◌≡◌ {A = ℕ} (if ((t && false) && eqb (block_of d.part a) (block_of d.part s.address)) && not (rp_low p) then 8 else 0) 0
      go true = refl
      go false = refl

  -- a poll of a device at rest
  pub reads_status : (x a : ℕ) → fits 2 x ≡ true → a < size_of d.part
      → decide_of d (is_at_rest was Status x) (cyc p Read a 0) (size_of d.part) 0 ≡ decided_as (Gives x) (is_at_rest was Status x) Nothing
  reads_status x a f h = calm_decides (is_at_rest was Status x) Read a 0 (rest_proper d was Status x f) h refl (late_status (is_at_rest was Status x) a refl)

  asked_proper : (ph : Phase) → bad_mode ph Status ≡ false → bad_status ph 128 ≡ false → bad_left d ph 0 ≡ false → bad_address d ph 0 ≡ false → Proper d (st was Status 128 ph 0 0)
  asked_proper ph a b c e = record { mode = a; status = b; left = c; address = e }

  -- a confirm, and data, do what comes of an operation that is to start
  confirm_does : (a : ℕ) → a < size_of d.part
      → decide_of d (st was Status 128 EraseAwaited 0 0) (cyc p Write a 0xD0) (size_of d.part) 0
      ≡ decided_as Quiet (started_of d.part (cyc p Write a 0xD0) (st was Status 128 EraseAwaited 0 0) Erasing d.erase 32) Nothing
  unfolding after_erase command_of late_of no_command suspended_read no_identifier bad_status bad_left bad_address
  confirm_does a h = calm_decides (st was Status 128 EraseAwaited 0 0) Write a 0xD0 (asked_proper EraseAwaited refl refl refl refl) h refl refl

  data_does : (a b : ℕ) → a < size_of d.part
      → decide_of d (st was Status 128 DataAwaited 0 0) (cyc p Write a b) (size_of d.part) 0
      ≡ decided_as Quiet (started_of d.part (cyc p Write a b) (st was Status 128 DataAwaited 0 0) (Programming (data_of d.part (cyc p Write a b))) d.program 16) Nothing
  unfolding late_of no_command suspended_read no_identifier bad_status bad_left bad_address
  data_does a b h = calm_decides (st was Status 128 DataAwaited 0 0) Write a b (asked_proper DataAwaited refl refl refl refl) h refl refl

  -- where no operation can start both leave the device at rest with error bits
  pub confirm_fails : (k low a : ℕ) → Stuck d p k low → a < size_of d.part → block_of d.part a ≡ k
      → decide_of d (st was Status 128 EraseAwaited 0 0) (cyc p Write a 0xD0) (size_of d.part) 0 ≡ decided_as Quiet (is_at_rest was Status (bit_or (bit_or 128 low) 32)) Nothing
  confirm_fails k low a z h e = confirm_does a h ∙ ap (λ (x : State). decided_as Quiet x Nothing) (z.stays (st was Status 128 EraseAwaited 0 0) Erasing a 0xD0 d.erase 32 refl e)

  pub data_fails : (k low a b : ℕ) → Stuck d p k low → a < size_of d.part → block_of d.part a ≡ k
      → decide_of d (st was Status 128 DataAwaited 0 0) (cyc p Write a b) (size_of d.part) 0 ≡ decided_as Quiet (is_at_rest was Status (bit_or (bit_or 128 low) 16)) Nothing
  data_fails k low a b z h e = data_does a b h ∙ ap (λ (x : State). decided_as Quiet x Nothing) (z.stays (st was Status 128 DataAwaited 0 0) (Programming (data_of d.part (cyc p Write a b))) a b d.program 16 refl e)

  module _ (k : ℕ) (r : Ready d p k) where
    -- a block that a load may write is not locked
    open_at : (a b : ℕ) → block_of d.part a ≡ k → locked d.part (cyc p Write a b) ≡ false
    unfolding locked
    open_at a b e = go (eqb k 0) refl
      where
        go : (t : Bool) → eqb k 0 ≡ t → (not (unlocked d.part p 0) && eqb (block_of d.part a) 0) ≡ false
        go true q = simp (r.unlock (eqb-true k 0 q))
        go false q = simp (e, q) (and_none (not (unlocked d.part p 0)))

    supplied : (s : State) (a b : ℕ) → s.status ≡ 128 → unsupplied d.part (cyc p Write a b) s ≡ false
    unfolding unsupplied
    supplied s a b e = simp (r.high, e)

    -- a state in which an operation was started by a cycle, and counted
    abbrev begun_as : State → Phase → Cycle → ℕ → State
    begun_as s ph c time = record { mode = Status; status = 0; phase = ph; left = time; address = c.address; wear = wear_by ph d.part c s.wear }

    -- a confirm and data start their operation
    starts : (s : State) (ph : Phase) (a b time bit : ℕ) → s.status ≡ 128 → s.mode ≡ Status → block_of d.part a ≡ k
        → started_of d.part (cyc p Write a b) s ph time bit ≡ begun_as s ph (cyc p Write a b) time
    unfolding started_of
    starts s ph a b time bit e m h = simp (supplied s a b e, open_at a b h, e, m)

    pub confirms : (a : ℕ) → a < size_of d.part → block_of d.part a ≡ k
        → decide_of d (st was Status 128 EraseAwaited 0 0) (cyc p Write a 0xD0) (size_of d.part) 0 ≡ decided_as Quiet (st (erased_from true k was) Status 0 Erasing d.erase a) Nothing
    confirms a h e =
        confirm_does a h ∙ ap (λ (x : State). decided_as Quiet x Nothing) (starts (st was Status 128 EraseAwaited 0 0) Erasing a 0xD0 d.erase 32 refl refl e
        ∙ ap (λ (j : ℕ). st (erased_from true j was) Status 0 Erasing d.erase a) e)

    pub sends : (a b : ℕ) → a < size_of d.part → block_of d.part a ≡ k → b ≤ ones d.part
        → decide_of d (st was Status 128 DataAwaited 0 0) (cyc p Write a b) (size_of d.part) 0 ≡ decided_as Quiet (st was Status 0 (Programming b) d.program a) Nothing
    sends a b h e c =
        data_does a b h ∙ ap (λ (x : State). decided_as Quiet x Nothing) (starts (st was Status 128 DataAwaited 0 0) (Programming (data_of d.part (cyc p Write a b))) a b d.program 16 refl refl e
        ∙ ap (λ (v : ℕ). st was Status 0 (Programming v) d.program a) (data_cell d.part (cyc p Write a b) c))

    -- a running operation is proper
    pub within : (most left : ℕ) → 0 < left → left ≤ most → (eqb left 0 || ltb most left) ≡ false
    within most left h m = or_both (eqb left 0) (ltb most left) (ne_eqb left 0 (λ q. omega arith)) (le-ltb most left m)

    pub in_range_lem : (most left : ℕ) → 0 < left → left ≤ most → ((eqb left 0 || ltb most left) || false) ≡ false
    in_range_lem most left h m = or_both (eqb left 0 || ltb most left) false (within most left h m) refl

    busy_proper : (ph : Phase) (left a : ℕ) → Runs ph → 0 < left → left ≤ most_left d ph → a < size_of d.part → Proper d (st was Status 0 ph left a)
    unfolding bad_status bad_left bad_address
    busy_proper Free left a b z m h = absurd (unlike (sym b.0))
    busy_proper EraseAwaited left a b z m h = absurd (unlike (sym b.0))
    busy_proper DataAwaited left a b z m h = absurd (unlike (sym b.0))
    busy_proper (Programming x) left a b z m h = record { mode = refl; status = refl; left = in_range_lem d.program left z m; address = lt-leb (size_of d.part) a h }
    busy_proper Erasing left a b z m h = record { mode = refl; status = refl; left = in_range_lem d.erase left z m; address = lt-leb (size_of d.part) a h }
    busy_proper (Suspending n) left a b z m h = absurd (unlike b.1)
    busy_proper Suspended left a b z m h = absurd (unlike (sym b.0))

    -- with VPP high a running operation only counts off
    counts : (s : State) → Runs s.phase → settle_of d.part s p ≡ counted_off d.part s
    unfolding settle_of passed_of
    counts s e = simp (u.up, r.high, e.0, e.1)

    -- a poll while cycles are left, and the last one
    pub waits : (ph : Phase) (left a b : ℕ) → Runs ph → 0 < left → left + 1 ≤ most_left d ph → a < size_of d.part → b < size_of d.part
        → decide_of d (st was Status 0 ph (left + 1) a) (cyc p Read b 0) (size_of d.part) 0 ≡ decided_as (Gives 0) (st was Status 0 ph left a) Nothing
    unfolding counted_off
    waits ph left a b e z m h g =
        let s : State = st was Status 0 ph (left + 1) a in
        decides s (st was Status 0 ph left a) Nothing Read b 0 (busy_proper ph (left + 1) a e (omega arith) m h) g (unasked_high d.part s (cyc p Read b 0) u.up r.high)
        (counts s e ∙ if_false (eqb (left + 1 - 1) 0) _ _ (ne_eqb (left + 1 - 1) 0 (λ q. omega arith)) ∙ ap (λ (j : ℕ). settled_as (st was Status 0 ph j a) Nothing) (let q : left + 1 - 1 ≡ left = omega arith in q))
        (late_status (st was Status 0 ph left a) b refl)

    pub ends : (ph : Phase) (a b : ℕ) → Runs ph → 1 ≤ most_left d ph → a < size_of d.part → b < size_of d.part
        → decide_of d (st was Status 0 ph 1 a) (cyc p Read b 0) (size_of d.part) 0 ≡ decided_as (Gives 128) (is_at_rest was Status 128) (finish_of ph d.part a)
    unfolding counted_off
    ends ph a b e m h g =
        let s : State = st was Status 0 ph 1 a in
        decides s (is_at_rest was Status 128) (finish_of ph d.part a) Read b 0 (busy_proper ph 1 a e (omega arith) m h) g (unasked_high d.part s (cyc p Read b 0) u.up r.high) (counts s e) (late_status (is_at_rest was Status 128) b refl)

    -- a running erase that is told to suspend, and the polls of the suspend: while cycles of it are left, and the last one
    pub held_proper : (n left a : ℕ) → 0 < n → n ≤ d.suspend → 0 < left → left ≤ d.erase → a < size_of d.part → Proper d (st was Status 0 (Suspending n) left a)
    unfolding bad_status bad_left bad_address
    held_proper n left a y x z m h = record {
      mode = refl;
      status = refl;
      left = or_both (eqb left 0 || ltb d.erase left) (eqb n 0 || ltb d.suspend n) (within d.erase left z m) (within d.suspend n y x);
      address = lt-leb (size_of d.part) a h;
    }

    pub suspends : (left a b : ℕ) → 0 < left → left + 1 ≤ d.erase → a < size_of d.part → b < size_of d.part
        → decide_of d (st was Status 0 Erasing (left + 1) a) (cyc p Write b 0xB0) (size_of d.part) 0 ≡ decided_as Quiet (st was Status 0 (Suspending d.suspend) left a) Nothing
    unfolding counted_off while_erasing command_of late_of no_command suspended_read no_identifier
    suspends left a b z m h g =
        let s : State = st was Status 0 Erasing (left + 1) a in
        decides s (st was Status 0 Erasing left a) Nothing Write b 0xB0 (busy_proper Erasing (left + 1) a (refl, refl) (omega arith) m h) g (unasked_high d.part s (cyc p Write b 0xB0) u.up r.high)
        (counts s (refl, refl) ∙ if_false (eqb (left + 1 - 1) 0) _ _ (ne_eqb (left + 1 - 1) 0 (λ q. omega arith)) ∙ ap (λ (j : ℕ). settled_as (st was Status 0 Erasing j a) Nothing) (let q : left + 1 - 1 ≡ left = omega arith in q))
        refl

    pub passes : (n left a : ℕ) → settle_of d.part (st was Status 0 (Suspending n) left a) p ≡ suspend_passed (st was Status 0 (Suspending n) left a)
    unfolding settle_of passed_of
    passes n left a = simp (u.up, r.high)

    pub holds_on : (n left a b : ℕ) → 0 < n → n + 1 ≤ d.suspend → 0 < left → left ≤ d.erase → a < size_of d.part → b < size_of d.part
        → decide_of d (st was Status 0 (Suspending (n + 1)) left a) (cyc p Read b 0) (size_of d.part) 0 ≡ decided_as (Gives 0) (st was Status 0 (Suspending n) left a) Nothing
    unfolding suspend_passed
    holds_on n left a b y x z m h g =
        let s : State = st was Status 0 (Suspending (n + 1)) left a in
        decides s (st was Status 0 (Suspending n) left a) Nothing Read b 0 (held_proper (n + 1) left a (omega arith) x z m h) g (unasked_high d.part s (cyc p Read b 0) u.up r.high)
        (passes (n + 1) left a ∙ if_false (eqb (n + 1 - 1) 0) _ _ (ne_eqb (n + 1 - 1) 0 (λ q. omega arith)) ∙ ap (λ (j : ℕ). settled_as (st was Status 0 (Suspending j) left a) Nothing) (let q : n + 1 - 1 ≡ n = omega arith in q))
        (late_status (st was Status 0 (Suspending n) left a) b refl)

    pub held : (left a b : ℕ) → 1 ≤ d.suspend → 0 < left → left ≤ d.erase → a < size_of d.part → b < size_of d.part
        → decide_of d (st was Status 0 (Suspending 1) left a) (cyc p Read b 0) (size_of d.part) 0 ≡ decided_as (Gives 0xC0) (st was Status 0xC0 Suspended left a) Nothing
    unfolding suspend_passed
    held left a b x z m h g =
        let s : State = st was Status 0 (Suspending 1) left a in
        decides s (st was Status 0xC0 Suspended left a) Nothing Read b 0 (held_proper 1 left a (omega arith) x z m h) g (unasked_high d.part s (cyc p Read b 0) u.up r.high)
        (passes 1 left a) (late_status (st was Status 0xC0 Suspended left a) b refl)
