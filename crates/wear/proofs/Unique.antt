-- Two results that a promise of this crate allows are equal.
use mathlib.Core.Path.{◌≡◌}
use mathlib.Core.List.{List}
use Prim.Native.Nat.{ℕ}
use Rattle.common.specs.Choice.{Unique}
use Rattle.common.proofs.Choice.{only}
use Rattle.model_types.specs.declared.Wear.{Wear}
use Rattle.wear.specs.declared.Report.{Report}
use Rattle.wear.specs.declared.Reported.{Reported}
use Rattle.wear.specs.Reports.{no_report, added}
use Rattle.wear.specs.Refusals.{reported_of, added_to}

pub none_unique : Unique (λ (r : Report). r ≡ no_report)
none_unique = only no_report

pub add_unique : (r : Report) (w : Wear) → Unique (λ (q : Report). q ≡ added r w)
add_unique r w = only (added r w)

pub report_on_unique : (number : ℕ) (numbers counts : List ℕ) → Unique (λ (r : Reported). r ≡ reported_of number numbers counts)
report_on_unique number numbers counts = only (reported_of number numbers counts)

pub add_to_unique : (number : ℕ) (r : Report) (from : ℕ) (w : Wear) → Unique (λ (q : Reported). q ≡ added_to number r from w)
add_to_unique number r from w = only (added_to number r from w)
