-- What the C functions about wear give back: what came where they refuse, and else the typed functions' answers.
use mathlib.Core.Path.{◌≡◌, refl, ap}
use mathlib.Core.List.{List}
use mathlib.Core.Logic.{◌↔◌}
use Prim.Native.Nat.{ℕ}
use lib.ListN.{length}
use Rattle.common.specs.Numbers.{Foremost, NoRow}
use Rattle.model_types.specs.declared.Wear.{Wear}
use Rattle.wear.specs.declared.Report.{Report}
use Rattle.wear.specs.Reports.{no_report}
use Rattle.wear.specs.Refusals.{report_rows, add_rows, added_to}
use Rattle.wear.proofs.Numbered.{add_refused_exactly, add_taken_exactly, add_refused_keeps, report_refused_exactly, report_taken_exactly, report_refused_none}
use Rattle.c_cycle.specs.declared.WearNumbers.{WearNumbers}
use Rattle.c_cycle.specs.Values.{wear_in, wear_out}
use Rattle.c_wear.specs.declared.ReportNumbers.{ReportNumbers}
use Rattle.c_wear.specs.Reports.{report_in, report_out, reported_out}
use Rattle.c_functions.specs.Calls.{wear_added, wear_reported}

module _ (part : ℕ) (r : ReportNumbers) (from : ℕ) (w : WearNumbers) where
  -- a trace is refused by the first row that holds, and leaves the report that came
  pub wear_add_refused_exactly : (m : ℕ) → (m ≡ 0 → ⊥) → ((wear_added part r from w).number ≡ m) ↔ Foremost (add_rows part from r.traces) m
  unfolding wear_added
  wear_add_refused_exactly = add_refused_exactly part (report_in r) from (wear_in w)

  pub wear_add_accepted_exactly : ((wear_added part r from w).number ≡ 0) ↔ NoRow (add_rows part from r.traces)
  unfolding wear_added
  wear_add_accepted_exactly = add_taken_exactly part (report_in r) from (wear_in w)

  pub wear_add_refused : ((wear_added part r from w).number ≡ 0 → ⊥) → (wear_added part r from w).report ≡ r
  unfolding wear_added
  wear_add_refused h = ap (λ (q : Report). report_out q) (add_refused_keeps part (report_in r) from (wear_in w) h)

module _ (part : ℕ) (parts counts : List ℕ) where
  -- a report is refused by the first row that holds, and is then that on no traces
  pub wear_report_refused_exactly : (m : ℕ) → (m ≡ 0 → ⊥) → ((wear_reported part parts counts).number ≡ m) ↔ Foremost (report_rows part parts (length counts)) m
  unfolding wear_reported
  wear_report_refused_exactly = report_refused_exactly part parts counts

  pub wear_report_accepted_exactly : ((wear_reported part parts counts).number ≡ 0) ↔ NoRow (report_rows part parts (length counts))
  unfolding wear_reported
  wear_report_accepted_exactly = report_taken_exactly part parts counts

  pub wear_report_refused : ((wear_reported part parts counts).number ≡ 0 → ⊥) → (wear_reported part parts counts).report ≡ report_out no_report
  unfolding wear_reported
  wear_report_refused h = ap (λ (q : Report). report_out q) (report_refused_none part parts counts h)

-- on the numbers of a report and of counts it is the typed function
pub wear_add_typed : (part : ℕ) (r : Report) (from : ℕ) (w : Wear)
    → wear_added part (report_out r) from (wear_out w) ≡ reported_out (added_to part r from w)
unfolding wear_added
wear_add_typed part r from w = refl
