-- `recording_lines::count_in` meets its contract.
use mathlib.Core.Path.{sym, ◌∙◌}
use borrow.Author.Tests.{eq-eqb, ne_eqb}
use Rattle.recording_lines.specs.Records.{count_stated}
use Rattle.recording_lines.proofs.count_in.Goals as goal

pub returns-then-nth-eq45 : goal.returns-then-nth-eq45
unfolding count_stated
returns-then-nth-eq45 c = simp (eq-eqb _ _ (sym c.nth.ensures ∙ c.if-nth-eq45.true))

pub returns : goal.returns
unfolding count_stated
returns c = simp (c.five.ensures, c.nth-6.ensures, c.nth-5.ensures, c.nth-4.ensures, c.nth-3.ensures, c.nth-2.ensures, ne_eqb _ _ (λ q. c.if-nth-eq45.false (c.nth.ensures ∙ q)))
