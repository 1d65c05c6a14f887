-- `c_recording::is_high` meets its contract.
use lib.Dec.{leb}
use borrow.Author.Tests.{leb-true}
use Rattle.common.proofs.Choice.{and_left, and_right}
use Rattle.c_recording.proofs.is_high.Goals as goal

pub returns-then-vpp-ge11400 : goal.returns-then-vpp-ge11400
returns-then-vpp-ge11400 c = λ e f. absurd (f c.if-vpp-ge11400.true)

pub returns : goal.returns
returns c = let a = c.args in λ e f. (leb-true 4500 a.vpp (and_left (leb 4500 a.vpp) (leb 5 a.number) e), leb-true 5 a.number (and_right (leb 4500 a.vpp) (leb 5 a.number) e))
