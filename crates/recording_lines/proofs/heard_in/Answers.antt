-- `recording_lines::heard_in` meets its contract.
use mathlib.Core.Path.{sym, ◌∙◌}
use borrow.Author.Tests.{eq-eqb, ne_eqb}
use Rattle.recording_lines.specs.Records.{heard_stated}
use Rattle.recording_lines.proofs.heard_in.Goals as goal

pub returns-then-nth-eq68 : goal.returns-then-nth-eq68
unfolding heard_stated
returns-then-nth-eq68 c = simp (c.two.ensures, c.nth-then-nth-eq68-2.ensures, c.nth-then-nth-eq68.ensures, eq-eqb _ _ (sym c.nth.ensures ∙ c.if-nth-eq68.true))

pub returns : goal.returns
unfolding heard_stated
returns c =
    let t = c.nth.ensures in simp (ne_eqb _ _ (λ q. c.if-nth-eq68.false (t ∙ q)))
