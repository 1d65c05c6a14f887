-- What is claimed of the wear that a trace's text leaves, in one place.
use mathlib.Core.Path.{◌≡◌}
use mathlib.Core.List.{List, ◌++◌}
use Prim.Native.Nat.{ℕ, ◌*◌, ◌≤◌, ◌<◌}
use lib.ListN.{length}
use Rattle.model_types.specs.Counts.{count_of}
use Rattle.model_states.specs.States.{fresh_state}
use Rattle.trace_replay.specs.Replays.{bench_t, good_lines, answers_of, output_of}
use Rattle.wear.specs.Reports.{no_report, report_on, tally_of}
use Rattle.wear_claims.specs.Traces.{begun_of, wear_of, line_of}
use Rattle.std.specs.Prelude.{Ok}
use Rattle.trace_wear.specs.Wears.{state_left, bad_line, bad_as, worn_of}
use Rattle.trace_wear_claims.specs.Stated.{buses_from, trace_of, traces_of, worn_all, end_before}
use Rattle.trace_wear_claims.proofs.Counting as counting

-- A trace without a bad line is counted: its counts are those that the cycles of its lines leave on a fresh bench T ..
pub good_counted : (xs rs text : List ℕ) → bad_line text ≡ 0 → worn_of xs rs text ≡ Ok (wear_of bench_t (trace_of xs rs text))
good_counted = counting.counted

-- .. and there is nothing in it but those lines, of 20 bytes each.
pub good_whole : (rs text : List ℕ) → bad_line text ≡ 0 → 20 * length (buses_from 9998 rs text) ≡ length text
good_whole = counting.nothing_else

-- A trace with a bad line has no counts: only the line's number is given ..
pub bad_refused : (xs rs text : List ℕ) → (bad_line text ≡ 0 → ⊥) → worn_of xs rs text ≡ bad_as (bad_line text)
bad_refused = counting.refused

-- .. and it is the line with whose mark the trace program ends.
pub same_mark : (xs rs text : List ℕ) → output_of xs rs text ≡ answers_of (good_lines 9998 text) fresh_state xs rs text ++ end_before (bad_line text)
same_mark = counting.same_mark

-- The count of a block is exactly the number of its erases begun: with 9,998 lines at most the stop is never met.
pub exactly_begun : (xs rs text : List ℕ) (k : ℕ) → k < 7 → count_of (state_left xs rs text).wear k ≡ begun_of bench_t k (trace_of xs rs text)
exactly_begun = counting.exactly_begun

pub begun_few : (xs rs text : List ℕ) (k : ℕ) → begun_of bench_t k (trace_of xs rs text) ≤ 9998
begun_few = counting.begun_few

-- So the report on up to 65,535 texts says of each block what their cycles say.
pub report_exact : (xs rs : List ℕ) (ts : List (List ℕ)) (k : ℕ) → k < 7 → length ts ≤ 65535 → tally_of (report_on no_report (worn_all xs rs ts)) k ≡ line_of bench_t (traces_of xs rs ts) k
report_exact = counting.reported
