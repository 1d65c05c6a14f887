use borrow.Author.Tests.{eq-eqb, ne_eqb}
use Rattle.c_cycle.specs.Values.{phase_in}
use Rattle.c_cycle.proofs.states.phase_in.Goals as goal

pub returns-then-n-eq-FREE : goal.returns-then-n-eq-FREE
unfolding phase_in
returns-then-n-eq-FREE c = simp (eq-eqb _ _ c.if-n-eq-FREE.true)

pub returns-then-n-eq-ERASE_AWAITED : goal.returns-then-n-eq-ERASE_AWAITED
unfolding phase_in
returns-then-n-eq-ERASE_AWAITED c = simp (eq-eqb _ _ c.if-n-eq-ERASE_AWAITED.true, ne_eqb _ _ c.if-n-eq-FREE.false)

pub returns-then-n-eq-DATA_AWAITED : goal.returns-then-n-eq-DATA_AWAITED
unfolding phase_in
returns-then-n-eq-DATA_AWAITED c = simp (eq-eqb _ _ c.if-n-eq-DATA_AWAITED.true, ne_eqb _ _ c.if-n-eq-ERASE_AWAITED.false, ne_eqb _ _ c.if-n-eq-FREE.false)

pub returns-then-n-eq-PROGRAMMING : goal.returns-then-n-eq-PROGRAMMING
unfolding phase_in
returns-then-n-eq-PROGRAMMING c = simp (eq-eqb _ _ c.if-n-eq-PROGRAMMING.true, ne_eqb _ _ c.if-n-eq-DATA_AWAITED.false, ne_eqb _ _ c.if-n-eq-ERASE_AWAITED.false, ne_eqb _ _ c.if-n-eq-FREE.false)

pub returns-then-n-eq-ERASING : goal.returns-then-n-eq-ERASING
unfolding phase_in
returns-then-n-eq-ERASING c = simp (eq-eqb _ _ c.if-n-eq-ERASING.true, ne_eqb _ _ c.if-n-eq-PROGRAMMING.false, ne_eqb _ _ c.if-n-eq-DATA_AWAITED.false, ne_eqb _ _ c.if-n-eq-ERASE_AWAITED.false, ne_eqb _ _ c.if-n-eq-FREE.false)

pub returns-then-n-eq-SUSPENDED : goal.returns-then-n-eq-SUSPENDED
unfolding phase_in
returns-then-n-eq-SUSPENDED c = simp (eq-eqb _ _ c.if-n-eq-SUSPENDED.true, ne_eqb _ _ c.if-n-eq-ERASING.false, ne_eqb _ _ c.if-n-eq-PROGRAMMING.false, ne_eqb _ _ c.if-n-eq-DATA_AWAITED.false, ne_eqb _ _ c.if-n-eq-ERASE_AWAITED.false, ne_eqb _ _ c.if-n-eq-FREE.false)

pub returns : goal.returns
unfolding phase_in
returns c = simp (ne_eqb _ _ c.if-n-eq-SUSPENDED.false, ne_eqb _ _ c.if-n-eq-ERASING.false, ne_eqb _ _ c.if-n-eq-PROGRAMMING.false, ne_eqb _ _ c.if-n-eq-DATA_AWAITED.false, ne_eqb _ _ c.if-n-eq-ERASE_AWAITED.false, ne_eqb _ _ c.if-n-eq-FREE.false)
