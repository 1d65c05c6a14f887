use borrow.Author.Tests.{le-leb, lt-leb, eq-eqb, ne_eqb}
use mathlib.Core.Path.{sym, ◌∙◌}
use Rattle.loader_held.specs.Holds.{settled_by}
use Rattle.loader_held.proofs.holds.settled_by.Reads as reads
use Rattle.loader_held.proofs.holds.settled_by.Lts as lts
use Rattle.loader.proofs.statuses.erase_end.Reads as erase-end-reads
use Rattle.loader.proofs.statuses.is_ready.Reads as is-ready-reads
use Rattle.loader_held.proofs.holds.hold_as.Reads as hold-as-reads
use Rattle.loader_held.proofs.holds.is_held.Reads as is-held-reads
use Rattle.loader_held.proofs.holds.pair_of.Reads as pair-of-reads
use Rattle.loader_held.proofs.holds.stop_by.Reads as stop-by-reads
use Rattle.loader_held.proofs.holds.settled_by.Goals as goal

-- src/holds.rt:121:13
pub returns-then-n-eq0 : goal.returns-then-n-eq0
unfolding settled_by
returns-then-n-eq0 c = simp (c.pair_of.ensures, c.hold_as.ensures, c.is_held.ensures, eq-eqb _ _ c.if-n-eq0.true, ← c.erase_end-n.ensures, sym c.is_ready.ensures ∙ c.if-is_ready.true)

-- src/holds.rt:123:9
pub returns-then-is_ready : goal.returns-then-is_ready
unfolding settled_by
returns-then-is_ready c = simp (c.stop_by.ensures, ne_eqb _ _ c.if-n-eq0.false, ← c.erase_end-n.ensures, sym c.is_ready.ensures ∙ c.if-is_ready.true)

-- src/holds.rt:126:9
pub returns-then-h-ge65534 : goal.returns-then-h-ge65534
unfolding settled_by
returns-then-h-ge65534 c = simp (c.stop_by-then-h-ge65534.ensures, le-leb _ _ c.if-h-ge65534.true, sym c.is_ready.ensures ∙ c.if-is_ready.false)

-- src/holds.rt:115:1
pub returns : goal.returns
unfolding settled_by
returns c = simp (c.pair_of-2.ensures, c.hold_as-2.ensures, lt-leb _ _ c.if-h-ge65534.false, sym c.is_ready.ensures ∙ c.if-is_ready.false)
