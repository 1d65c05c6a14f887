-- Bench T with its own lengths in a proper state: what is left of the table of refusals, and that a step keeps it so.
use mathlib.Core.Path.{◌≡◌, refl, sym, ap, ◌∙◌}
use mathlib.Core.Bool.{Bool, true, false, ◌&&◌, ◌||◌}
use mathlib.Core.List.{List, ◌∷◌}
use Prim.Native.Nat.{ℕ, ◌≤◌}
use native.Mathlib.Omega.{arith}
use lib.Dec.{eqb}
use lib.ListN.{length}
use borrow.Author.Tests.{eq-eqb, le-ltb}
use Rattle.common.proofs.Choice.{and_none}
use Rattle.common.specs.Numbers.{row, given}
use Rattle.device.specs.Parts.{row_of, is_large, unknown_device, unknown_part, size_of, size_in, shape_of, length_of, block_of}
use Rattle.device.proofs.Claims.{blocks_end_inside}
use Rattle.model_types.specs.declared.Phase.{Phase}
use Rattle.model_types.specs.declared.Phase.TheVariants.{Free, EraseAwaited, DataAwaited, Programming, Erasing, Suspending, Suspended}
use Rattle.model_types.specs.declared.State.{State}
use Rattle.model_types.specs.declared.Cycle.{Cycle}
use Rattle.model_levels.specs.Levels.{rp_low, vpp_low, bad_levels}
use Rattle.model_states.specs.States.{fresh_state}
use Rattle.model_operation.specs.Settling.{residue_for, settle_of}
use Rattle.model_rules.specs.Cycles.{number_of, late}
use Rattle.model_judge.specs.Judging.{past_array, short_residue}
use Rattle.model.proofs.Claims as model
use Rattle.trace_replay.specs.Replays.{bench_t, BenchSound, line_step, array_by}

size_is : size_of bench_t.part ≡ 16384
unfolding size_of size_in shape_of row_of
size_is = refl

known : unknown_device bench_t ≡ false
unfolding unknown_device unknown_part is_large
known = refl

block_most : (k : ℕ) → length_of bench_t.part k ≤ 16384
block_most k = omega (arith, blocks_end_inside bench_t.part k, size_is)

residue_most : (p : Phase) (a : ℕ) → residue_for p bench_t.part a ≤ 16384
residue_most Free a = omega arith
residue_most EraseAwaited a = omega arith
residue_most DataAwaited a = omega arith
residue_most (Programming b) a = omega arith
residue_most Erasing a = block_most (block_of bench_t.part a)
residue_most (Suspending n') a = block_most (block_of bench_t.part a)
residue_most Suspended a = block_most (block_of bench_t.part a)

long : (s : State) (c : Cycle) (r : ℕ) → 16384 ≤ r → short_residue bench_t.part s c r ≡ false
unfolding short_residue
long s c r h =
    ap (λ (t : Bool). (rp_low c.pins || vpp_low bench_t.part c.pins) && t) (le-ltb r (residue_for s.phase bench_t.part s.address) (omega (arith, residue_most s.phase s.address)))
    ∙ and_none (rp_low c.pins || vpp_low bench_t.part c.pins)

pub left_over : (s : State) (c : Cycle) (xs : List ℕ) (r : ℕ) → BenchSound s xs → 16384 ≤ r
    → number_of bench_t s c (length xs) r
    ≡ given (row 4 (bad_levels bench_t.part c) ∷ row 5 (past_array bench_t.part c) ∷ late bench_t.part (settle_of bench_t.part s c.pins).state c)
unfolding number_of
left_over s c xs r h q =
    let e : eqb (length xs) (size_of bench_t.part) ≡ true = eq-eqb (length xs) (size_of bench_t.part) (h.sized ∙ sym size_is) in
    simp (known, e, h.proper, long s c r q)

pub fresh_sound : (xs : List ℕ) → length xs ≡ 16384 → BenchSound fresh_state xs
fresh_sound xs e = record { proper = model.fresh_proper bench_t; sized = e }

pub stays_sound : (s : State) (c : Cycle) (xs rs : List ℕ) → BenchSound s xs → BenchSound (line_step s c xs rs).state (array_by s c xs rs)
unfolding line_step array_by
stays_sound s c xs rs h = record { proper = model.stays_proper bench_t s c xs rs h.proper; sized = model.keeps_length bench_t s c xs rs ∙ h.sized }
