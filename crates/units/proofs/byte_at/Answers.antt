use native.Mathlib.Omega.{arith}
use Rattle.units.proofs.byte_at.Goals as goal

pub first_byte-a-requires : goal.first_byte-a-requires
first_byte-a-requires c = let h = c.ranges.at.fits in omega arith

pub next_byte-requires : goal.next_byte-requires
next_byte-requires c =
    let h = c.ranges.at.fits in
    let e = c.first_byte-a.ensures in
    omega arith

pub returns-then-word : goal.returns-then-word
returns-then-word c = simp (c.next_byte.ensures, c.first_byte-a.ensures, c.if-word.true)

pub returns : goal.returns
returns c = simp c.if-word.false
