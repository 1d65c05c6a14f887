use borrow.Author.Tests.{le-leb, lt-leb, eq-eqb, ne_eqb}
use mathlib.Core.Path.{sym, ◌∙◌}
use Rattle.wear.specs.Refusals.{add_number}
use Rattle.wear.proofs.add_number.Goals as goal

pub returns-then-unknown : goal.returns-then-unknown
unfolding add_number
returns-then-unknown c = simp (sym c.unknown.ensures ∙ c.if-unknown.true)

pub returns-then-traces-ge-TRACES : goal.returns-then-traces-ge-TRACES
unfolding add_number
returns-then-traces-ge-TRACES c = simp (le-leb _ _ c.if-traces-ge-TRACES.true, sym c.unknown.ensures ∙ c.if-unknown.false)

pub returns-then-from-number : goal.returns-then-from-number
unfolding add_number
returns-then-from-number c = simp (ne_eqb _ _ c.if-from-number.true, lt-leb _ _ c.if-traces-ge-TRACES.false, sym c.unknown.ensures ∙ c.if-unknown.false)

pub returns : goal.returns
unfolding add_number
returns c = simp (eq-eqb _ _ c.if-from-number.false, lt-leb _ _ c.if-traces-ge-TRACES.false, sym c.unknown.ensures ∙ c.if-unknown.false)
