use borrow.Author.Tests.{lt-ltb, le-ltb}
use mathlib.Core.Path.{sym, ◌∙◌}
use Rattle.wear.specs.Refusals.{report_number}
use Rattle.wear.proofs.report_number.Goals as goal

pub returns-then-unknown : goal.returns-then-unknown
unfolding report_number
returns-then-unknown c = simp (sym c.unknown.ensures ∙ c.if-unknown.true)

pub returns-then-uneven_counts : goal.returns-then-uneven_counts
unfolding report_number
returns-then-uneven_counts c = simp (sym c.uneven_counts.ensures ∙ c.if-uneven_counts.true, sym c.unknown.ensures ∙ c.if-unknown.false)

pub returns-then-numbers-gt65535 : goal.returns-then-numbers-gt65535
unfolding report_number
returns-then-numbers-gt65535 c = simp (lt-ltb _ _ c.if-numbers-gt65535.true, sym c.uneven_counts.ensures ∙ c.if-uneven_counts.false, sym c.unknown.ensures ∙ c.if-unknown.false)

pub returns-then-differ : goal.returns-then-differ
unfolding report_number
returns-then-differ c = simp (sym c.differ.ensures ∙ c.if-differ.true, le-ltb _ _ c.if-numbers-gt65535.false, sym c.uneven_counts.ensures ∙ c.if-uneven_counts.false, sym c.unknown.ensures ∙ c.if-unknown.false)

pub returns : goal.returns
unfolding report_number
returns c = simp (sym c.differ.ensures ∙ c.if-differ.false, le-ltb _ _ c.if-numbers-gt65535.false, sym c.uneven_counts.ensures ∙ c.if-uneven_counts.false, sym c.unknown.ensures ∙ c.if-unknown.false)
