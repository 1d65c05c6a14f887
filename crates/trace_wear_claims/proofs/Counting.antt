-- The walk of a trace's text is the history of the cycles that its lines state.
use mathlib.Core.Path.{◌≡◌, refl, sym, ap, ◌∙◌}
use mathlib.Core.Bool.{Bool, true, false}
use mathlib.Core.List.{List, [], ◌∷◌, ◌++◌}
use Prim.Native.Nat.{ℕ, zero, suc, ◌+◌, ◌-◌, ◌*◌, ◌≤◌, ◌<◌, min}
use native.Mathlib.Omega.{arith}
use lib.Dec.{eqb}
use lib.ListN.{length, take, drop}
use borrow.Author.Tests.{ne_eqb, eqb-true}
use Rattle.std.specs.Prelude.{if◌then◌else◌}
use Rattle.common.proofs.Choice.{if_false}
use Rattle.device.specs.declared.Device.{Device}
use Rattle.model_types.specs.declared.Wear.{Wear}
use Rattle.model_types.specs.declared.State.{State}
use Rattle.model_types.specs.declared.Effect.{Effect}
use Rattle.model_types.specs.declared.Effect.TheVariants.{Nothing, Program, Erase, CutProgram, CutErase}
use Rattle.model_types.specs.Counts.{stop, count_of}
use Rattle.model_states.specs.States.{fresh_state}
use Rattle.model.specs.Begun.{begun_by}
use Rattle.model_history.specs.History.{Bus, World, world_of, stepped, world_after, erase_of, erases_begun}
use Rattle.model_history.proofs.Counting.{stored_fresh}
use Rattle.trace_lines.specs.Lines.{is_line, cycle_stated}
use Rattle.trace_replay.specs.Answers.{mark_of, trace_end}
use Rattle.trace_replay.specs.Replays.{bench_t, line_step, array_by, good_lines, answers_of, output_of}
use Rattle.trace_replay.proofs.Scans.{good_most, good_fit}
use Rattle.trace_replay.proofs.Claims.{output_whole}
use Rattle.wear.specs.Reports.{no_report, report_on, tally_of}
use Rattle.wear.specs.Counted.{Small}
use Rattle.wear_claims.specs.Traces.{begun_of, begun_all, wear_of, wears_of, line_of}
use Rattle.wear_claims.proofs.Claims.{report_agrees}
use Rattle.std.specs.Prelude.{Ok}
use Rattle.trace_wear.specs.Wears.{state_from, bad_at, state_left, bad_line, bad_as, worn_of}
use Rattle.trace_wear.proofs.Walks.{bad_is}
use Rattle.trace_wear_claims.specs.Stated.{buses_from, trace_of, traces_of, worn_all, end_before}

-- where the walk leads
walked : (k : ℕ) (s : State) (xs rs text : List ℕ) → state_from k s xs rs text ≡ (world_after bench_t (world_of s xs) (buses_from k rs text)).state
unfolding state_from buses_from line_step array_by
walked zero s xs rs text = refl
walked (suc k) s xs rs text =
    go (is_line (take 20 text)) refl (walked k (line_step s (cycle_stated (take 20 text)) xs rs).state (array_by s (cycle_stated (take 20 text)) xs rs) rs (drop 20 text))
  where
    go : (b : Bool) → is_line (take 20 text) ≡ b
        → state_from k (line_step s (cycle_stated (take 20 text)) xs rs).state (array_by s (cycle_stated (take 20 text)) xs rs) rs (drop 20 text)
        ≡ (world_after bench_t (world_of (line_step s (cycle_stated (take 20 text)) xs rs).state (array_by s (cycle_stated (take 20 text)) xs rs)) (buses_from k rs (drop 20 text))).state
        → state_from (suc k) s xs rs text ≡ (world_after bench_t (world_of s xs) (buses_from (suc k) rs text)).state
    go true e ih = rw e ih
    go false e ih = rw e refl

pub left_is : (xs rs text : List ℕ) → (state_left xs rs text).wear ≡ wear_of bench_t (trace_of xs rs text)
unfolding state_left
left_is xs rs text = ap (λ (s : State). s.wear) (walked 9998 fresh_state xs rs text)

-- a cycle for each good line
as_many : (k : ℕ) (rs text : List ℕ) → length (buses_from k rs text) ≡ good_lines k text
unfolding buses_from good_lines
as_many zero rs text = refl
as_many (suc k) rs text = go (is_line (take 20 text)) refl (as_many k rs (drop 20 text))
  where
    go : (b : Bool) → is_line (take 20 text) ≡ b → length (buses_from k rs (drop 20 text)) ≡ good_lines k (drop 20 text) → length (buses_from (suc k) rs text) ≡ good_lines (suc k) text
    go true e ih = rw e (ap suc ih)
    go false e ih = rw e refl

-- no cycle begins more than one erase
erase_most : (k : ℕ) (e : Effect) → erase_of k e ≤ 1
erase_most k Nothing = omega arith
erase_most k (Program at b) = omega arith
erase_most k (Erase j) = go (eqb j k)
  where
    go : (b : Bool) → (if b then 1 else 0) ≤ 1
    go true = omega arith
    go false = omega arith
erase_most k (CutProgram at b) = omega arith
erase_most k (CutErase j) = omega arith

begun_most : (bs : List Bus) (d : Device) (v : World) (k : ℕ) → erases_begun d v k bs ≤ length bs
begun_most [] d v k = omega arith
begun_most (b ∷ bs) d v k =
    let e = erase_most k (begun_by d v.state b.cycle (length v.bytes) (length b.residue)) in
    let r = begun_most bs d (stepped d v b) k in
    omega arith

-- so the stop is not met
pub begun_few : (xs rs text : List ℕ) (k : ℕ) → begun_of bench_t k (trace_of xs rs text) ≤ 9998
begun_few xs rs text k =
    omega (arith, begun_most (buses_from 9998 rs text) bench_t (world_of fresh_state xs) k, as_many 9998 rs text, good_most 9998 text)

pub exactly_begun : (xs rs text : List ℕ) (k : ℕ) → k < 7 → count_of (state_left xs rs text).wear k ≡ begun_of bench_t k (trace_of xs rs text)
exactly_begun xs rs text k h =
    let f = begun_few xs rs text k in
    let q : min (begun_of bench_t k (trace_of xs rs text)) stop ≡ begun_of bench_t k (trace_of xs rs text) = omega arith in
    ap (λ (w : Wear). count_of w k) (left_is xs rs text) ∙ stored_fresh (buses_from 9998 rs text) bench_t xs k h ∙ q

-- a trace without a bad line has nothing but the lines
at_rest : (n left : ℕ) → (n ≡ 0 → ⊥) → bad_at n left ≡ 0 → left ≡ 0
unfolding bad_at
at_rest n left z e = go (eqb left 0) refl
  where
    go : (b : Bool) → eqb left 0 ≡ b → left ≡ 0
    go true q = eqb-true left 0 q
    go false q = absurd (z (sym (if_false (eqb left 0) 0 n q) ∙ e))

pub nothing_else : (rs text : List ℕ) → bad_line text ≡ 0 → 20 * length (buses_from 9998 rs text) ≡ length text
unfolding bad_line
nothing_else rs text e =
    let g = good_lines 9998 text in
    let z : length text - 20 * g ≡ 0 = at_rest (1 + g) (length text - 20 * g) (λ (q : 1 + g ≡ 0). omega arith) (sym (bad_is 9998 1 text) ∙ e) in
    omega (arith, z, good_fit 9998 text, as_many 9998 rs text)

pub counted : (xs rs text : List ℕ) → bad_line text ≡ 0 → worn_of xs rs text ≡ Ok (wear_of bench_t (trace_of xs rs text))
unfolding worn_of
counted xs rs text e = rw e (ap Ok (left_is xs rs text))

pub refused : (xs rs text : List ℕ) → (bad_line text ≡ 0 → ⊥) → worn_of xs rs text ≡ bad_as (bad_line text)
unfolding worn_of
refused xs rs text h = if_false (eqb (bad_line text) 0) (Ok (state_left xs rs text).wear) (bad_as (bad_line text)) (ne_eqb (bad_line text) 0 h)

-- the mark of the trace program
marked : (n left : ℕ) → (n ≡ 0 → ⊥) → trace_end n left ≡ end_before (bad_at n left)
unfolding trace_end bad_at end_before
marked n left z = go (eqb left 0) refl
  where
    go : (b : Bool) → eqb left 0 ≡ b
        → (if eqb left 0 then [] else mark_of n) ≡ (if eqb (if eqb left 0 then 0 else n) 0 then [] else mark_of (if eqb left 0 then 0 else n))
    go true q = rw q refl
    go false q = rw q (sym (if_false (eqb n 0) [] (mark_of n) (ne_eqb n 0 z)))

pub same_mark : (xs rs text : List ℕ) → output_of xs rs text ≡ answers_of (good_lines 9998 text) fresh_state xs rs text ++ end_before (bad_line text)
unfolding bad_line
same_mark xs rs text =
    let g = good_lines 9998 text in
    let p : g + 1 ≡ 1 + g = omega arith in
    output_whole xs rs text
    ∙ ap (λ (n : ℕ). answers_of g fresh_state xs rs text ++ trace_end n (length text - 20 * g)) p
    ∙ ap (λ (w : List ℕ). answers_of g fresh_state xs rs text ++ w) (marked (1 + g) (length text - 20 * g) (λ (q : 1 + g ≡ 0). omega arith) ∙ ap end_before (sym (bad_is 9998 1 text)))

-- the report on texts
all_left : (xs rs : List ℕ) (ts : List (List ℕ)) → worn_all xs rs ts ≡ wears_of bench_t (traces_of xs rs ts)
all_left xs rs [] = refl
all_left xs rs (t ∷ ts) = λ i. left_is xs rs t i ∷ all_left xs rs ts i

all_small : (xs rs : List ℕ) (ts : List (List ℕ)) (k : ℕ) → Small (begun_all bench_t k (traces_of xs rs ts))
all_small xs rs [] k = omega arith
all_small xs rs (t ∷ ts) k = (let f = begun_few xs rs t k in omega arith, all_small xs rs ts k)

as_long : (xs rs : List ℕ) (ts : List (List ℕ)) → length (traces_of xs rs ts) ≡ length ts
as_long xs rs [] = refl
as_long xs rs (t ∷ ts) = ap suc (as_long xs rs ts)

pub reported : (xs rs : List ℕ) (ts : List (List ℕ)) (k : ℕ) → k < 7 → length ts ≤ 65535 → tally_of (report_on no_report (worn_all xs rs ts)) k ≡ line_of bench_t (traces_of xs rs ts) k
reported xs rs ts k h l =
    ap (λ (ws : List Wear). tally_of (report_on no_report ws) k) (all_left xs rs ts)
    ∙ report_agrees bench_t (traces_of xs rs ts) k h (let e = as_long xs rs ts in omega arith) (all_small xs rs ts k)
