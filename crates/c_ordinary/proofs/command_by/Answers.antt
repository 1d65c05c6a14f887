use borrow.Author.Tests.{eq-eqb, ne_eqb}
use Rattle.c_ordinary.specs.Ordinary.{commanded_by}
use Rattle.c_ordinary.proofs.command_by.Reads as reads
use Rattle.c_ordinary.proofs.command_by.Lts as lts
use Rattle.c_ordinary.proofs.seldom_command.Reads as seldom-command-reads
use Rattle.c_ordinary.proofs.sets.Reads as sets-reads
use Rattle.c_ordinary.proofs.unset.Reads as unset-reads
use Rattle.c_ordinary.proofs.command_by.Goals as goal

-- src/lib.rt:204:9
pub returns-then-kind-eq2 : goal.returns-then-kind-eq2
unfolding commanded_by
returns-then-kind-eq2 c = simp (c.sets.ensures, eq-eqb _ _ c.if-kind-eq2.true)

-- src/lib.rt:207:9
pub returns-then-kind-ne1 : goal.returns-then-kind-ne1
unfolding commanded_by
returns-then-kind-ne1 c = simp (c.unset.ensures, ne_eqb _ _ c.if-kind-ne1.true, ne_eqb _ _ c.if-kind-eq2.false)

-- src/lib.rt:210:9
pub returns-then-byte-eq255 : goal.returns-then-byte-eq255
unfolding commanded_by
returns-then-byte-eq255 c = simp (c.sets-then-byte-eq255.ensures, eq-eqb _ _ c.if-byte-eq255.true, eq-eqb _ _ c.if-kind-ne1.false, ne_eqb _ _ c.if-kind-eq2.false)

-- src/lib.rt:213:9
pub returns-then-byte-eq144 : goal.returns-then-byte-eq144
unfolding commanded_by
returns-then-byte-eq144 c = simp (c.sets-then-byte-eq144.ensures, eq-eqb _ _ c.if-byte-eq144.true, ne_eqb _ _ c.if-byte-eq255.false, eq-eqb _ _ c.if-kind-ne1.false, ne_eqb _ _ c.if-kind-eq2.false)

-- src/lib.rt:216:9
pub returns-then-byte-eq112 : goal.returns-then-byte-eq112
unfolding commanded_by
returns-then-byte-eq112 c = simp (c.sets-then-byte-eq112.ensures, eq-eqb _ _ c.if-byte-eq112.true, ne_eqb _ _ c.if-byte-eq144.false, ne_eqb _ _ c.if-byte-eq255.false, eq-eqb _ _ c.if-kind-ne1.false, ne_eqb _ _ c.if-kind-eq2.false)

-- src/lib.rt:219:9
pub returns-then-byte-eq80 : goal.returns-then-byte-eq80
unfolding commanded_by
returns-then-byte-eq80 c = simp (c.sets-then-byte-eq80.ensures, eq-eqb _ _ c.if-byte-eq80.true, ne_eqb _ _ c.if-byte-eq112.false, ne_eqb _ _ c.if-byte-eq144.false, ne_eqb _ _ c.if-byte-eq255.false, eq-eqb _ _ c.if-kind-ne1.false, ne_eqb _ _ c.if-kind-eq2.false)

-- src/lib.rt:222:9
pub returns-then-byte-eq32 : goal.returns-then-byte-eq32
unfolding commanded_by
returns-then-byte-eq32 c = simp (c.sets-then-byte-eq32.ensures, eq-eqb _ _ c.if-byte-eq32.true, ne_eqb _ _ c.if-byte-eq80.false, ne_eqb _ _ c.if-byte-eq112.false, ne_eqb _ _ c.if-byte-eq144.false, ne_eqb _ _ c.if-byte-eq255.false, eq-eqb _ _ c.if-kind-ne1.false, ne_eqb _ _ c.if-kind-eq2.false)

-- src/lib.rt:225:9
pub returns-then-byte-eq64 : goal.returns-then-byte-eq64
unfolding commanded_by
returns-then-byte-eq64 c = simp (c.sets-then-byte-eq64.ensures, eq-eqb _ _ c.if-byte-eq64.true, ne_eqb _ _ c.if-byte-eq32.false, ne_eqb _ _ c.if-byte-eq80.false, ne_eqb _ _ c.if-byte-eq112.false, ne_eqb _ _ c.if-byte-eq144.false, ne_eqb _ _ c.if-byte-eq255.false, eq-eqb _ _ c.if-kind-ne1.false, ne_eqb _ _ c.if-kind-eq2.false)

-- src/lib.rt:199:1
pub returns : goal.returns
unfolding commanded_by
returns c = simp (c.seldom_command.ensures, ne_eqb _ _ c.if-byte-eq64.false, ne_eqb _ _ c.if-byte-eq32.false, ne_eqb _ _ c.if-byte-eq80.false, ne_eqb _ _ c.if-byte-eq112.false, ne_eqb _ _ c.if-byte-eq144.false, ne_eqb _ _ c.if-byte-eq255.false, eq-eqb _ _ c.if-kind-ne1.false, ne_eqb _ _ c.if-kind-eq2.false)
