-- `loader_quick::fault_bits` meets its contract.
use mathlib.Core.Path.{sym, ◌∙◌}
use Rattle.loader_quick.specs.Quick.{fault_bits}
use Rattle.loader_quick.proofs.fault_bits.Goals as goal

-- src/lib.rt:67:13
pub returns-then-erase : goal.returns-then-erase
unfolding fault_bits
returns-then-erase c = simp (sym c.vpp_low.ensures ∙ c.if-vpp_low.true, c.if-erase.true)

-- src/lib.rt:69:9
pub returns-then-vpp_low : goal.returns-then-vpp_low
unfolding fault_bits
returns-then-vpp_low c = simp (sym c.vpp_low.ensures ∙ c.if-vpp_low.true, c.if-erase.false)

-- src/lib.rt:72:9
pub returns-then-erase-2 : goal.returns-then-erase-2
unfolding fault_bits
returns-then-erase-2 c = simp (sym c.vpp_low.ensures ∙ c.if-vpp_low.false, c.if-erase-2.true)

-- src/lib.rt:62:1
pub returns : goal.returns
unfolding fault_bits
returns c = simp (sym c.vpp_low.ensures ∙ c.if-vpp_low.false, c.if-erase-2.false)
