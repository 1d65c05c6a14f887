use borrow.Author.Tests.{lt-ltb, le-ltb, le-leb, lt-leb, eq-eqb, ne_eqb}
use Rattle.c_ordinary.specs.Ordinary.{fair_level_in}
use Rattle.c_ordinary.proofs.is_fair_level.Reads as reads
use Rattle.c_ordinary.proofs.is_fair_level.Lts as lts
use Rattle.c_ordinary.proofs.is_fair_level.Goals as goal

-- src/lib.rt:64:9
pub returns-then-oe-ne0 : goal.returns-then-oe-ne0
unfolding fair_level_in
returns-then-oe-ne0 c = simp (ne_eqb _ _ c.if-oe-ne0.true)

-- src/lib.rt:67:9
pub returns-then-wp-gt1 : goal.returns-then-wp-gt1
unfolding fair_level_in
returns-then-wp-gt1 c = simp (lt-ltb _ _ c.if-wp-gt1.true, eq-eqb _ _ c.if-oe-ne0.false)

-- src/lib.rt:70:9
pub returns-then-rp-gt2 : goal.returns-then-rp-gt2
unfolding fair_level_in
returns-then-rp-gt2 c = simp (lt-ltb _ _ c.if-rp-gt2.true, le-ltb _ _ c.if-wp-gt1.false, eq-eqb _ _ c.if-oe-ne0.false)

-- src/lib.rt:73:9
pub returns-then-vpp-ge11400 : goal.returns-then-vpp-ge11400
unfolding fair_level_in
returns-then-vpp-ge11400 c = simp (le-leb _ _ c.if-vpp-ge11400.true, le-ltb _ _ c.if-rp-gt2.false, le-ltb _ _ c.if-wp-gt1.false, eq-eqb _ _ c.if-oe-ne0.false)

-- src/lib.rt:76:9
pub returns-then-vpp-ge4500 : goal.returns-then-vpp-ge4500
unfolding fair_level_in
returns-then-vpp-ge4500 c = simp (le-leb _ _ c.if-vpp-ge4500.true, lt-leb _ _ c.if-vpp-ge11400.false, le-ltb _ _ c.if-rp-gt2.false, le-ltb _ _ c.if-wp-gt1.false, eq-eqb _ _ c.if-oe-ne0.false)

-- src/lib.rt:60:1
pub returns : goal.returns
unfolding fair_level_in
returns c = simp (lt-leb _ _ c.if-vpp-ge4500.false, lt-leb _ _ c.if-vpp-ge11400.false, le-ltb _ _ c.if-rp-gt2.false, le-ltb _ _ c.if-wp-gt1.false, eq-eqb _ _ c.if-oe-ne0.false)
