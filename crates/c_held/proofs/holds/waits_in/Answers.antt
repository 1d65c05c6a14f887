use mathlib.Core.Path.{sym, ◌∙◌}
use Rattle.c_held.specs.Helds.{waits_in}
use Rattle.c_held.proofs.holds.waits_in.Reads as reads
use Rattle.c_held.proofs.holds.waits_in.Lts as lts
use Rattle.c_held.proofs.holds.no_hold.Reads as no-hold-reads
use Rattle.c_held.proofs.holds.waits_in.Goals as goal

-- src/holds.rt:52:9
pub returns-then-no_hold : goal.returns-then-no_hold
unfolding waits_in
returns-then-no_hold c = simp (sym c.no_hold.ensures ∙ c.if-no_hold.true)

-- src/holds.rt:48:1
pub returns : goal.returns
unfolding waits_in
returns c = simp (sym c.no_hold.ensures ∙ c.if-no_hold.false)
