-- When a report is refused, and what comes back then.
use mathlib.Core.Path.{◌≡◌, refl, sym, ◌∙◌, ap}
use mathlib.Core.Bool.{Bool, true, false}
use mathlib.Core.List.{List}
use mathlib.Core.Logic.{◌↔◌}
use Prim.Native.Nat.{ℕ}
use lib.ListN.{length}
use lib.Dec.{eqb}
use borrow.Author.Tests.{ne_eqb, eqb-true}
use Rattle.std.specs.Prelude.{if◌then◌else◌}
use Rattle.common.specs.Numbers.{Foremost, NoRow}
use Rattle.common.proofs.Numbers.{foremost_given, given_foremost, given_no_row, no_row_given}
use Rattle.common.proofs.Choice.{if_false}
use Rattle.model_types.specs.declared.Wear.{Wear}
use Rattle.wear.specs.declared.Report.{Report}
use Rattle.wear.specs.declared.Reported.{Reported}
use Rattle.wear.specs.Reports.{no_report, added, report_from}
use Rattle.wear.specs.Refusals.{report_rows, report_number, reported_of, add_rows, add_number, added_to}

-- the number with one report where it is 0, with another where it is not
abbrev said : ℕ → Report → Report → Reported
said n good bad = if eqb n 0 then record { number = 0; report = good } else record { number = n; report = bad }

said_number : (n : ℕ) (good bad : Report) → (said n good bad).number ≡ n
said_number n good bad = go (eqb n 0) refl
  where
    go : (b : Bool) → eqb n 0 ≡ b → (said n good bad).number ≡ n
    go true e = rw e (sym (eqb-true n 0 e))
    go false e = rw e refl

said_refused : (n : ℕ) (good bad : Report) → (n ≡ 0 → ⊥) → said n good bad ≡ record { number = n; report = bad }
said_refused n good bad z = if_false (eqb n 0) (record { number = 0; report = good }) (record { number = n; report = bad }) (ne_eqb n 0 z)

said_keeps : (n : ℕ) (good bad : Report) → ((said n good bad).number ≡ 0 → ⊥) → (said n good bad).report ≡ bad
said_keeps n good bad h = ap (λ (r : Reported). r.report) (said_refused n good bad (λ e. h (said_number n good bad ∙ e)))

-- the report over slices
report_said : (number : ℕ) (numbers counts : List ℕ)
    → reported_of number numbers counts ≡ said (report_number number numbers (length counts)) (report_from (length numbers) 0 counts no_report) no_report
unfolding reported_of
report_said number numbers counts = refl

report_given : (number : ℕ) (numbers counts : List ℕ) → (reported_of number numbers counts).number ≡ report_number number numbers (length counts)
report_given number numbers counts =
    ap (λ (r : Reported). r.number) (report_said number numbers counts)
    ∙ said_number (report_number number numbers (length counts)) (report_from (length numbers) 0 counts no_report) no_report

pub report_refused_exactly : (number : ℕ) (numbers counts : List ℕ) (m : ℕ) → (m ≡ 0 → ⊥)
    → ((reported_of number numbers counts).number ≡ m) ↔ Foremost (report_rows number numbers (length counts)) m
unfolding report_number
report_refused_exactly number numbers counts m z = (
  λ e. given_foremost (report_rows number numbers (length counts)) m z (sym (report_given number numbers counts) ∙ e),
  λ f. report_given number numbers counts ∙ foremost_given f,
)

pub report_taken_exactly : (number : ℕ) (numbers counts : List ℕ)
    → ((reported_of number numbers counts).number ≡ 0) ↔ NoRow (report_rows number numbers (length counts))
unfolding report_number
report_taken_exactly number numbers counts = (
  λ e. given_no_row (report_rows number numbers (length counts)) refl (sym (report_given number numbers counts) ∙ e),
  λ f. report_given number numbers counts ∙ no_row_given f,
)

pub report_refused_gives : (number : ℕ) (numbers counts : List ℕ) (m : ℕ) → (m ≡ 0 → ⊥) → Foremost (report_rows number numbers (length counts)) m
    → reported_of number numbers counts ≡ record { number = m; report = no_report }
unfolding report_number
report_refused_gives number numbers counts m z f =
    report_said number numbers counts
    ∙ ap (λ (n : ℕ). said n (report_from (length numbers) 0 counts no_report) no_report) (foremost_given f)
    ∙ said_refused m (report_from (length numbers) 0 counts no_report) no_report z

pub report_refused_none : (number : ℕ) (numbers counts : List ℕ) → ((reported_of number numbers counts).number ≡ 0 → ⊥) → (reported_of number numbers counts).report ≡ no_report
unfolding reported_of
report_refused_none number numbers counts = said_keeps (report_number number numbers (length counts)) (report_from (length numbers) 0 counts no_report) no_report

-- one trace more
add_said : (number : ℕ) (r : Report) (from : ℕ) (w : Wear) → added_to number r from w ≡ said (add_number number from r.traces) (added r w) r
unfolding added_to
add_said number r from w = refl

add_given : (number : ℕ) (r : Report) (from : ℕ) (w : Wear) → (added_to number r from w).number ≡ add_number number from r.traces
add_given number r from w = ap (λ (q : Reported). q.number) (add_said number r from w) ∙ said_number (add_number number from r.traces) (added r w) r

pub add_refused_exactly : (number : ℕ) (r : Report) (from : ℕ) (w : Wear) (m : ℕ) → (m ≡ 0 → ⊥)
    → ((added_to number r from w).number ≡ m) ↔ Foremost (add_rows number from r.traces) m
unfolding add_number
add_refused_exactly number r from w m z = (
  λ e. given_foremost (add_rows number from r.traces) m z (sym (add_given number r from w) ∙ e),
  λ f. add_given number r from w ∙ foremost_given f,
)

pub add_taken_exactly : (number : ℕ) (r : Report) (from : ℕ) (w : Wear) → ((added_to number r from w).number ≡ 0) ↔ NoRow (add_rows number from r.traces)
unfolding add_number
add_taken_exactly number r from w =
    (λ e. given_no_row (add_rows number from r.traces) refl (sym (add_given number r from w) ∙ e), λ f. add_given number r from w ∙ no_row_given f)

pub add_refused_gives : (number : ℕ) (r : Report) (from : ℕ) (w : Wear) (m : ℕ) → (m ≡ 0 → ⊥) → Foremost (add_rows number from r.traces) m
    → added_to number r from w ≡ record { number = m; report = r }
unfolding add_number
add_refused_gives number r from w m z f =
    add_said number r from w ∙ ap (λ (n : ℕ). said n (added r w) r) (foremost_given f) ∙ said_refused m (added r w) r z

pub add_refused_keeps : (number : ℕ) (r : Report) (from : ℕ) (w : Wear) → ((added_to number r from w).number ≡ 0 → ⊥) → (added_to number r from w).report ≡ r
unfolding added_to
add_refused_keeps number r from w = said_keeps (add_number number from r.traces) (added r w) r
