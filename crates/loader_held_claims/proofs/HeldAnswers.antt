-- What the model answers to each cycle of an interruption.
use mathlib.Core.Path.{◌≡◌, refl, ap, ◌∙◌}
use mathlib.Core.Bool.{true, false}
use Prim.Native.Nat.{ℕ, ◌+◌, ◌-◌, ◌≤◌, ◌<◌}
use native.Mathlib.Omega.{arith}
use lib.Dec.{eqb}
use borrow.Author.Tests.{lt-leb, ne_eqb}
use Rattle.std.specs.Prelude.{if◌then◌else◌}
use Rattle.common.proofs.Choice.{if_false}
use Rattle.device.specs.declared.Device.{Device}
use Rattle.device.specs.Parts.{size_of, block_of}
use Rattle.model_types.specs.declared.Pins.{Pins}
use Rattle.model_types.specs.declared.Kind.TheVariants.{Read, Write}
use Rattle.model_types.specs.declared.Mode.{Mode}
use Rattle.model_types.specs.declared.Mode.TheVariants.{Array, Status}
use Rattle.model_types.specs.declared.Phase.TheVariants.{Erasing, Suspending, Suspended}
use Rattle.model_types.specs.declared.Effect.TheVariants.{Nothing, Erase}
use Rattle.model_types.specs.declared.Reply.TheVariants.{Quiet, Gives, GivesArray}
use Rattle.model_types.specs.declared.State.{State}
use Rattle.model_states.specs.States.{is_at_rest, is_identifier}
use Rattle.model_states.specs.Inner.{bad_status, bad_left, bad_address}
use Rattle.model_commands.specs.Commands.{command_of, asks_program, first_write, while_suspending, while_suspended}
use Rattle.model_operation.specs.Settling.{settled_as, settle_of, counted_off, suspend_passed, passed_of}
use Rattle.model_rules.specs.Cycles.{no_command, suspended_read, no_identifier, late_of, decide_of, decided_as}
use Rattle.model_rules.proofs.Facts.{Proper}
use Rattle.model.proofs.Keeping.{st}
use Rattle.model.proofs.Status.{fits}
use Rattle.loader_run.proofs.Judging.{unasked_high}
use Rattle.loader_run_claims.specs.Made.{bus_cycle as cyc}
use Rattle.loader_run_claims.proofs.Answers as answers
use Rattle.loader_run_claims.proofs.Answers.{Up, Ready}

module _ (d : Device) (p : Pins) (u : Up d p) (was : State) where
  -- 70H and B0H of a device at rest
  pub looks_rest : (m : Mode) (x a : ℕ) → fits 2 x ≡ true → a < size_of d.part
      → decide_of d (is_at_rest was m x) (cyc p Write a 0x70) (size_of d.part) 0 ≡ decided_as Quiet (is_at_rest was Status x) Nothing
  unfolding first_write asks_program command_of late_of no_command suspended_read no_identifier
  looks_rest m x a f h = answers.rest_write d p u was m x a 0x70 f h refl

  pub halts_rest : (m : Mode) (x a : ℕ) → fits 2 x ≡ true → a < size_of d.part
      → decide_of d (is_at_rest was m x) (cyc p Write a 0xB0) (size_of d.part) 0 ≡ decided_as Quiet (is_at_rest was Array x) Nothing
  unfolding first_write asks_program command_of late_of no_command suspended_read no_identifier
  halts_rest m x a f h = answers.rest_write d p u was m x a 0xB0 f h refl

  module _ (k : ℕ) (r : Ready d p k) where
    still_proper : (m : Mode) (left a : ℕ) → is_identifier m ≡ false → 0 < left → left ≤ d.erase → a < size_of d.part → Proper d (st was m 0xC0 Suspended left a)
    unfolding bad_status bad_left bad_address
    still_proper m left a i z l h = record { mode = i; status = refl; left = answers.in_range_lem d p u was k r d.erase left z l; address = lt-leb (size_of d.part) a h }

    runs_proper : (left a : ℕ) → 0 < left → left ≤ d.erase → a < size_of d.part → Proper d (st was Status 0 Erasing left a)
    unfolding bad_status bad_left bad_address
    runs_proper left a z l h = record { mode = refl; status = refl; left = answers.in_range_lem d p u was k r d.erase left z l; address = lt-leb (size_of d.part) a h }

    stands : (m : Mode) (left a : ℕ) → settle_of d.part (st was m 0xC0 Suspended left a) p ≡ settled_as (st was m 0xC0 Suspended left a) Nothing
    unfolding settle_of
    stands m left a = simp (u.up, r.high)

    counts_last : (a : ℕ) → settle_of d.part (st was Status 0 Erasing 1 a) p ≡ settled_as (is_at_rest was Status 128) (Erase (block_of d.part a))
    unfolding settle_of passed_of counted_off
    counts_last a = simp (u.up, r.high)

    -- B0H in the place of the erase's last poll ends it, and then asks for the array
    pub halts_last : (a b : ℕ) → 1 ≤ d.erase → a < size_of d.part → b < size_of d.part
        → decide_of d (st was Status 0 Erasing 1 a) (cyc p Write b 0xB0) (size_of d.part) 0 ≡ decided_as Quiet (is_at_rest was Array 128) (Erase (block_of d.part a))
    unfolding first_write asks_program command_of late_of no_command suspended_read no_identifier
    halts_last a b m h g =
        answers.decides d p u was (st was Status 0 Erasing 1 a) (is_at_rest was Status 128) (Erase (block_of d.part a)) Write b 0xB0 (runs_proper 1 a (omega arith) m h) g
        (unasked_high d.part (st was Status 0 Erasing 1 a) (cyc p Write b 0xB0) u.up r.high) (counts_last a) refl

    -- 70H while a suspend is under way: one cycle of it passes, and on the last it is suspended
    pub looks_on : (n left a b : ℕ) → 0 < n → n + 1 ≤ d.suspend → 0 < left → left ≤ d.erase → a < size_of d.part → b < size_of d.part
        → decide_of d (st was Status 0 (Suspending (n + 1)) left a) (cyc p Write b 0x70) (size_of d.part) 0 ≡ decided_as Quiet (st was Status 0 (Suspending n) left a) Nothing
    unfolding suspend_passed while_suspending command_of late_of no_command suspended_read no_identifier
    looks_on n left a b y x z m h g =
        let s : State = st was Status 0 (Suspending (n + 1)) left a in
        answers.decides d p u was s (st was Status 0 (Suspending n) left a) Nothing Write b 0x70 (answers.held_proper d p u was k r (n + 1) left a (omega arith) x z m h) g (unasked_high d.part s (cyc p Write b 0x70) u.up r.high)
        (answers.passes d p u was k r (n + 1) left a ∙ if_false (eqb (n + 1 - 1) 0) _ _ (ne_eqb (n + 1 - 1) 0 (λ q. omega arith)) ∙ ap (λ (j : ℕ). settled_as (st was Status 0 (Suspending j) left a) Nothing) (let q : n + 1 - 1 ≡ n = omega arith in q))
        refl

    pub looks_held : (left a b : ℕ) → 1 ≤ d.suspend → 0 < left → left ≤ d.erase → a < size_of d.part → b < size_of d.part
        → decide_of d (st was Status 0 (Suspending 1) left a) (cyc p Write b 0x70) (size_of d.part) 0 ≡ decided_as Quiet (st was Status 0xC0 Suspended left a) Nothing
    unfolding suspend_passed while_suspended command_of late_of no_command suspended_read no_identifier
    looks_held left a b x z m h g =
        let s : State = st was Status 0 (Suspending 1) left a in
        answers.decides d p u was s (st was Status 0xC0 Suspended left a) Nothing Write b 0x70 (answers.held_proper d p u was k r 1 left a (omega arith) x z m h) g (unasked_high d.part s (cyc p Write b 0x70) u.up r.high)
        (answers.passes d p u was k r 1 left a) refl

    -- while suspended: a poll, FFH, an array read of another block, D0H
    pub shows_held : (left a b : ℕ) → 0 < left → left ≤ d.erase → a < size_of d.part → b < size_of d.part
        → decide_of d (st was Status 0xC0 Suspended left a) (cyc p Read b 0) (size_of d.part) 0 ≡ decided_as (Gives 0xC0) (st was Status 0xC0 Suspended left a) Nothing
    shows_held left a b z m h g =
        let s : State = st was Status 0xC0 Suspended left a in
        answers.decides d p u was s s Nothing Read b 0 (still_proper Status left a refl z m h) g (unasked_high d.part s (cyc p Read b 0) u.up r.high) (stands Status left a) (answers.late_status d p u was s b refl)

    pub turns_held : (left a b : ℕ) → 0 < left → left ≤ d.erase → a < size_of d.part → b < size_of d.part
        → decide_of d (st was Status 0xC0 Suspended left a) (cyc p Write b 0xFF) (size_of d.part) 0 ≡ decided_as Quiet (st was Array 0xC0 Suspended left a) Nothing
    unfolding while_suspended command_of late_of no_command suspended_read no_identifier
    turns_held left a b z m h g =
        let s : State = st was Status 0xC0 Suspended left a in
        answers.decides d p u was s s Nothing Write b 0xFF (still_proper Status left a refl z m h) g (unasked_high d.part s (cyc p Write b 0xFF) u.up r.high) (stands Status left a) refl

    pub reads_held : (left a b : ℕ) → 0 < left → left ≤ d.erase → a < size_of d.part → b < size_of d.part → eqb (block_of d.part b) (block_of d.part a) ≡ false
        → decide_of d (st was Array 0xC0 Suspended left a) (cyc p Read b 0) (size_of d.part) 0 ≡ decided_as (GivesArray b) (st was Array 0xC0 Suspended left a) Nothing
    unfolding late_of no_command suspended_read no_identifier
    reads_held left a b z m h g e =
        let s : State = st was Array 0xC0 Suspended left a in
        answers.decides d p u was s s Nothing Read b 0 (still_proper Array left a refl z m h) g (unasked_high d.part s (cyc p Read b 0) u.up r.high) (stands Array left a) (simp e)

    pub resumes : (left a b : ℕ) → 0 < left → left ≤ d.erase → a < size_of d.part → b < size_of d.part
        → decide_of d (st was Array 0xC0 Suspended left a) (cyc p Write b 0xD0) (size_of d.part) 0 ≡ decided_as Quiet (st was Status 0 Erasing left a) Nothing
    unfolding while_suspended command_of late_of no_command suspended_read no_identifier
    resumes left a b z m h g =
        let s : State = st was Array 0xC0 Suspended left a in
        answers.decides d p u was s s Nothing Write b 0xD0 (still_proper Array left a refl z m h) g (unasked_high d.part s (cyc p Write b 0xD0) u.up r.high) (stands Array left a) refl
