use borrow.Author.Tests.{eq-eqb, ne_eqb}
use Rattle.c_recording.specs.Records.{heard_in}
use Rattle.c_recording.proofs.records.heard_in.Goals as goal

pub returns-then-seen-eq-NO_DATA : goal.returns-then-seen-eq-NO_DATA
unfolding heard_in
returns-then-seen-eq-NO_DATA c = simp (eq-eqb _ _ c.if-seen-eq-NO_DATA.true)

pub returns : goal.returns
unfolding heard_in
returns c = simp (ne_eqb _ _ c.if-seen-eq-NO_DATA.false)
