use borrow.Author.Tests.{le-leb, lt-leb}
use Rattle.reading_text.specs.Tables.{with_knot}
use Rattle.reading_text.proofs.Walks.{put_knot_over}
use Rattle.reading_text.proofs.put_knot.Goals as goal

pub returns-then-out-k : goal.returns-then-out-k
unfolding with_knot
returns-then-out-k c = simp (le-leb _ _ c.if-out-k.true)

pub returns : goal.returns
unfolding with_knot
returns c = let a = c.args in simp (lt-leb _ _ c.if-out-k.false) (put_knot_over a.out.now _ a.k _ _ _ _ c.put_six.ensures c.bits.ensures c.bits-2.ensures)
