-- What is claimed of the report on wear, in one place.
use mathlib.Core.Path.{◌≡◌}
use mathlib.Core.Bool.{false}
use mathlib.Core.List.{List, ◌∷◌, ◌++◌}
use mathlib.Core.Logic.{◌↔◌}
use Prim.Native.Nat.{ℕ, ◌≤◌, ◌<◌}
use lib.ListN.{length, replicate}
use Rattle.device.specs.declared.Device.{Device}
use Rattle.device.specs.Parts.{length_of}
use Rattle.model_types.specs.declared.Wear.{Wear}
use Rattle.common.specs.Numbers.{Foremost, NoRow}
use Rattle.wear.specs.declared.Report.{Report}
use Rattle.wear.specs.Refusals.{unknown_number, report_rows, reported_of, add_rows, added_to}
use Rattle.wear.specs.Reports.{no_tally, no_report, report_on, tally_of}
use Rattle.wear.specs.Counted.{summary, counts_of, Small, Fits, AllFit}
use Rattle.wear_claims.specs.Traces.{Trace, begun_all, wears_of, line_of, Beside, flat}
use Rattle.wear_claims.proofs.Agree as agree
use Rattle.wear_claims.proofs.Lent as lent
use Rattle.wear.proofs.Numbered as numbered
use Rattle.wear.proofs.Folding as folding

-- A block's line of a report says what the block's counts say: their sum, the largest, the smallest, and how many are over 100,000.
pub line_exact : (ws : List Wear) (k : ℕ) → k < 7 → length ws ≤ 65535 → Small (counts_of k ws) → tally_of (report_on no_report ws) k ≡ summary (counts_of k ws)
line_exact = folding.exact

-- Where no trace begins more erases of a block than the stop, the report on the stored counts says of that block what the cycles say.
pub report_agrees : (d : Device) (ts : List Trace) (k : ℕ) → k < 7 → length ts ≤ 65535 → Small (begun_all d k ts) → tally_of (report_on no_report (wears_of d ts)) k ≡ line_of d ts k
report_agrees = agree.agree

-- Where one does, the total is a lower bound, largest and smallest are the cycles' up to the stop, and the number that passed is exact.
pub report_beside : (d : Device) (ts : List Trace) (k : ℕ) → k < 7 → length ts ≤ 65535 → Beside (tally_of (report_on no_report (wears_of d ts)) k) (line_of d ts k)
report_beside = agree.beside

-- A block that the part has not is reported by zeros.
pub absent_zeros : (d : Device) (ts : List Trace) (k : ℕ) → length_of d.part k ≡ 0 → line_of d ts k ≡ no_tally
absent_zeros = agree.absent

-- The whole over slices, each trace from the device asked for and seven counts for each, is the report trace after trace.
pub report_of_slices : (number : ℕ) (ws : List Wear) → unknown_number number ≡ false → length ws ≤ 65535
    → reported_of number (replicate (length ws) number) (flat ws) ≡ record { number = 0; report = report_on no_report ws }
report_of_slices = lent.lent

-- Two traces that follow each other may change places, anywhere in a report from no traces: so the order does not matter.
pub order_free : (us : List Wear) (v w : Wear) (ws : List Wear) → AllFit us → Fits v → Fits w → report_on no_report (us ++ (v ∷ w ∷ ws)) ≡ report_on no_report (us ++ (w ∷ v ∷ ws))
order_free us v w ws = folding.anywhere us v w ws no_report folding.none_sound

-- The numbers: a report is refused by m exactly where m's own condition holds and that of no number before it; taken exactly where none
-- does; refused, it is the report on no traces.
pub report_refused_exactly : (number : ℕ) (numbers counts : List ℕ) (m : ℕ) → (m ≡ 0 → ⊥)
    → ((reported_of number numbers counts).number ≡ m) ↔ Foremost (report_rows number numbers (length counts)) m
report_refused_exactly = numbered.report_refused_exactly

pub report_taken_exactly : (number : ℕ) (numbers counts : List ℕ)
    → ((reported_of number numbers counts).number ≡ 0) ↔ NoRow (report_rows number numbers (length counts))
report_taken_exactly = numbered.report_taken_exactly

pub report_refused_gives : (number : ℕ) (numbers counts : List ℕ) (m : ℕ) → (m ≡ 0 → ⊥) → Foremost (report_rows number numbers (length counts)) m
    → reported_of number numbers counts ≡ record { number = m; report = no_report }
report_refused_gives = numbered.report_refused_gives

-- The same of one trace more; refused, the report that came goes back.
pub add_refused_exactly : (number : ℕ) (r : Report) (from : ℕ) (w : Wear) (m : ℕ) → (m ≡ 0 → ⊥)
    → ((added_to number r from w).number ≡ m) ↔ Foremost (add_rows number from r.traces) m
add_refused_exactly = numbered.add_refused_exactly

pub add_taken_exactly : (number : ℕ) (r : Report) (from : ℕ) (w : Wear) → ((added_to number r from w).number ≡ 0) ↔ NoRow (add_rows number from r.traces)
add_taken_exactly = numbered.add_taken_exactly

pub add_refused_gives : (number : ℕ) (r : Report) (from : ℕ) (w : Wear) (m : ℕ) → (m ≡ 0 → ⊥) → Foremost (add_rows number from r.traces) m
    → added_to number r from w ≡ record { number = m; report = r }
add_refused_gives = numbered.add_refused_gives
