use mathlib.Core.Path.{sym, ◌∙◌}
use Rattle.c_held.specs.Helds.{hold_back}
use Rattle.c_held.proofs.holds.hold_back.Reads as reads
use Rattle.c_held.proofs.holds.hold_back.Lts as lts
use Rattle.c_held.proofs.holds.hold_out.Reads as hold-out-reads
use Rattle.c_held.proofs.holds.no_hold.Reads as no-hold-reads
use Rattle.c_held.proofs.holds.hold_back.Goals as goal

-- src/holds.rt:88:9
pub returns-then-no_hold : goal.returns-then-no_hold
unfolding hold_back
returns-then-no_hold c = simp (sym c.no_hold.ensures ∙ c.if-no_hold.true)

-- src/holds.rt:84:1
pub returns : goal.returns
unfolding hold_back
returns c = simp (c.hold_out.ensures, sym c.no_hold.ensures ∙ c.if-no_hold.false)
