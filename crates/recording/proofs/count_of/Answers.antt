use borrow.Author.Tests.{lt-ltb, le-ltb, eq-eqb, ne_eqb}
use Rattle.recording.specs.Recordings.{count_of, outside}
use Rattle.recording.proofs.count_of.Goals as goal

pub returns-then-n-eq0 : goal.returns-then-n-eq0
unfolding count_of outside
returns-then-n-eq0 c = simp (eq-eqb _ _ c.if-n-eq0.true)

pub returns-then-n-gt65535 : goal.returns-then-n-gt65535
unfolding count_of outside
returns-then-n-gt65535 c = simp (lt-ltb _ _ c.if-n-gt65535.true, ne_eqb _ _ c.if-n-eq0.false)

pub returns : goal.returns
unfolding count_of outside
returns c = simp (le-ltb _ _ c.if-n-gt65535.false, ne_eqb _ _ c.if-n-eq0.false)
