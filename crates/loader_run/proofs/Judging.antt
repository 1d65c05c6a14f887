-- Refusals 1 to 6 of a cycle in the array with OE# normal, and that with VPP low no operation begins.
use mathlib.Core.Path.{◌≡◌, refl, ap, ◌∙◌}
use mathlib.Core.Bool.{Bool, true, false, not, ◌&&◌, ◌||◌}
use Prim.Native.Nat.{ℕ, ◌<◌}
use native.Mathlib.Omega.{arith}
use lib.Dec.{eqb, ltb}
use borrow.Author.Tests.{le-ltb, lt-leb, eq-eqb, eqb-true, eqb-false}
use Rattle.std.specs.Prelude.{if◌then◌else◌}
use Rattle.common.proofs.Choice.{or_both, unlike, and_none}
use Rattle.common.specs.Numbers.{past, end}
use Rattle.common.proofs.Numbers.{no_row_given}
use Rattle.device.specs.declared.Part.{Part}
use Rattle.device.specs.declared.Device.{Device}
use Rattle.device.specs.Parts.{unknown_device, size_of}
use Rattle.model_types.specs.declared.Kind.{Kind}
use Rattle.model_types.specs.declared.Kind.TheVariants.{Read, Write, Idle}
use Rattle.model_types.specs.declared.Phase.{Phase}
use Rattle.model_types.specs.declared.Phase.TheVariants.{Free, EraseAwaited, DataAwaited, Programming, Erasing, Suspending, Suspended}
use Rattle.model_types.specs.declared.Effect.{Effect}
use Rattle.model_types.specs.declared.Effect.TheVariants.{Nothing, Program, Erase, CutProgram, CutErase}
use Rattle.model_types.specs.declared.State.{State}
use Rattle.model_types.specs.declared.Cycle.{Cycle}
use Rattle.model_levels.specs.Levels.{rp_low, vpp_low, bad_pins, most_oe, bad_oe, bad_levels, locked}
use Rattle.model_actions.specs.Performed.{unsupplied}
use Rattle.model_operation.specs.Settling.{residue_for}
use Rattle.model_judge.specs.Judging.{past_array, short_residue, judge_of}
use Rattle.model_rules.specs.Cycles.{number_of, decide_of}
use Rattle.model_types.specs.Kinds.{is_idle, is_write}
use Rattle.model_types.specs.Phases.{is_pending}
use Rattle.model_rules.proofs.Facts.{Proper, parts_proper}
use Rattle.model.specs.Begun.{pending_in, pending_of, asked_by, starts_of, begun_by}
use Rattle.model.proofs.Lives.{conserved, begun_accepted, begun_refused}

-- no residue is asked for where nothing is pending ..
pub unasked : (part : Part) (s : State) (c : Cycle) → is_pending s.phase ≡ false → short_residue part s c 0 ≡ false
unfolding short_residue
unasked part s c e = go s.phase e
  where
    go : (ph : Phase) → is_pending ph ≡ false → ((rp_low c.pins || vpp_low part c.pins) && ltb 0 (residue_for ph part s.address)) ≡ false
    go Free q = and_none (rp_low c.pins || vpp_low part c.pins)
    go EraseAwaited q = and_none (rp_low c.pins || vpp_low part c.pins)
    go DataAwaited q = and_none (rp_low c.pins || vpp_low part c.pins)
    go (Programming x) q = absurd (unlike q)
    go Erasing q = absurd (unlike q)
    go (Suspending n') q = absurd (unlike q)
    go Suspended q = absurd (unlike q)

-- .. nor with RP# up and VPP high
pub unasked_high : (part : Part) (s : State) (c : Cycle) → rp_low c.pins ≡ false → vpp_low part c.pins ≡ false → short_residue part s c 0 ≡ false
unfolding short_residue
unasked_high part s c u v = simp (u, v)

-- none of refusals 1 to 6
pub judged : (d : Device) (s : State) (c : Cycle) (n : ℕ) → unknown_device d ≡ false → n ≡ size_of d.part → Proper d s
    → bad_pins d.part c.pins ≡ false → c.oe ≡ 0 → c.address < size_of d.part → short_residue d.part s c 0 ≡ false
    → judge_of d s c n 0 ≡ 0
unfolding judge_of bad_levels past_array
judged d s c n k e p v o h z =
    no_row_given
    (past k
    (past (ap not (eq-eqb n (size_of d.part) e))
    (past (parts_proper d s p)
    (past (or_both (bad_pins d.part c.pins) (bad_oe d.part c.kind c.oe) v (ap (λ (x : ℕ). bad_oe d.part c.kind x) o ∙ normal c.kind))
    (past (ap (λ (b : Bool). (b && not (rp_low c.pins)) && not (is_idle c.kind)) (lt-leb (size_of d.part) c.address h))
    (past z end))))))
  where
    normal : (kind : Kind) → bad_oe d.part kind 0 ≡ false
    normal Read = refl
    normal Write = le-ltb (most_oe d.part) 0 (omega arith)
    normal Idle = refl

-- one for an operation, 0 for none
abbrev operations : Effect → ℕ
operations Nothing = 0
operations (Program a b) = 1
operations (Erase k) = 1
operations (CutProgram a b) = 1
operations (CutErase k) = 1

-- a phase is pending exactly where it has an operation
none_pending : (ph : Phase) (part : Part) (a : ℕ) → is_pending ph ≡ false → operations (pending_in ph part a) ≡ 0
none_pending Free part a e = refl
none_pending EraseAwaited part a e = refl
none_pending DataAwaited part a e = refl
none_pending (Programming b) part a e = absurd (unlike e)
none_pending Erasing part a e = absurd (unlike e)
none_pending (Suspending n') part a e = absurd (unlike e)
none_pending Suspended part a e = absurd (unlike e)

pending_none : (ph : Phase) (part : Part) (a : ℕ) → operations (pending_in ph part a) ≡ 0 → is_pending ph ≡ false
pending_none Free part a e = refl
pending_none EraseAwaited part a e = refl
pending_none DataAwaited part a e = refl
pending_none (Programming b) part a e = absurd (let z : ◌≡◌ {A = ℕ} 1 0 = e in omega arith)
pending_none Erasing part a e = absurd (let z : ◌≡◌ {A = ℕ} 1 0 = e in omega arith)
pending_none (Suspending n') part a e = absurd (let z : ◌≡◌ {A = ℕ} 1 0 = e in omega arith)
pending_none Suspended part a e = absurd (let z : ◌≡◌ {A = ℕ} 1 0 = e in omega arith)

-- with VPP low no write starts an operation ..
none_starts : (part : Part) (s : State) (c : Cycle) → vpp_low part c.pins ≡ true → starts_of part s c ≡ Nothing
unfolding starts_of unsupplied
none_starts part s c v = simp v (go (is_write c.kind && not (rp_low c.pins)) (not (locked part c)))
  where
    go : (x y : Bool) → (if (x && false) && y then asked_by s.phase part c else Nothing) ≡ Nothing
    go true y = refl
    go false y = refl

-- .. so no cycle begins one ..
pub none_begun : (d : Device) (s : State) (c : Cycle) (n r : ℕ) → vpp_low d.part c.pins ≡ true → begun_by d s c n r ≡ Nothing
none_begun d s c n r v = go (eqb (number_of d s c n r) 0) refl
  where
    go : (b : Bool) → eqb (number_of d s c n r) 0 ≡ b → begun_by d s c n r ≡ Nothing
    go true e = begun_accepted d s c n r (eqb-true (number_of d s c n r) 0 e) ∙ none_starts d.part s c v
    go false e = begun_refused d s c n r (eqb-false (number_of d s c n r) 0 e)

-- .. and where none runs, none runs after the cycle
pub stays_calm : (d : Device) (s : State) (c : Cycle) (n r : ℕ) → vpp_low d.part c.pins ≡ true → is_pending s.phase ≡ false
    → is_pending (decide_of d s c n r).state.phase ≡ false
stays_calm d s c n r v e =
    let t : State = (decide_of d s c n r).state in
    let g : operations (begun_by d s c n r) ≡ 0 = ap operations (none_begun d s c n r v) in
    let q : operations (pending_of d.part s) ≡ 0 = none_pending s.phase d.part s.address e in
    pending_none t.phase d.part t.address (omega (arith, conserved operations refl d s c n r))
