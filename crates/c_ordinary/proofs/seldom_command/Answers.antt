use borrow.Author.Tests.{eq-eqb, ne_eqb}
use Rattle.c_ordinary.specs.Ordinary.{seldom_of}
use Rattle.c_ordinary.proofs.seldom_command.Reads as reads
use Rattle.c_ordinary.proofs.seldom_command.Lts as lts
use Rattle.c_ordinary.proofs.sets.Reads as sets-reads
use Rattle.c_ordinary.proofs.unset.Reads as unset-reads
use Rattle.c_ordinary.proofs.seldom_command.Goals as goal

-- src/lib.rt:189:9
pub returns-then-byte-eq176 : goal.returns-then-byte-eq176
unfolding seldom_of
returns-then-byte-eq176 c = simp (c.sets.ensures, eq-eqb _ _ c.if-byte-eq176.true)

-- src/lib.rt:192:9
pub returns-then-large-byte : goal.returns-then-large-byte
unfolding seldom_of
returns-then-large-byte c = simp (c.sets-then-large-byte.ensures, c.if-large-byte.true, ne_eqb _ _ c.if-byte-eq176.false)

-- src/lib.rt:185:1
pub returns : goal.returns
unfolding seldom_of
returns c = simp (c.unset.ensures, c.if-large-byte.false, ne_eqb _ _ c.if-byte-eq176.false)
