-- `loader_quick::fault_end` meets its contract.
use mathlib.Core.Path.{sym, ◌∙◌}
use Rattle.loader_quick.specs.Quick.{fault_end}
use Rattle.loader_quick.proofs.fault_end.Goals as goal

-- src/lib.rt:53:9
pub returns-then-vpp_low : goal.returns-then-vpp_low
unfolding fault_end
returns-then-vpp_low c = simp (sym c.vpp_low.ensures ∙ c.if-vpp_low.true)

-- src/lib.rt:56:9
pub returns-then-erase : goal.returns-then-erase
unfolding fault_end
returns-then-erase c = simp (sym c.vpp_low.ensures ∙ c.if-vpp_low.false, c.if-erase.true)

-- src/lib.rt:49:1
pub returns : goal.returns
unfolding fault_end
returns c = simp (sym c.vpp_low.ensures ∙ c.if-vpp_low.false, c.if-erase.false)
