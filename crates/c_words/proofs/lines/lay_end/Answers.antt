-- `lines::lay_end` meets its contract.
use borrow.Author.Tests.{ne_eqb}
use Rattle.c_words.specs.Words.{end_line}
use Rattle.c_words.proofs.lines.lay_end.Goals as goal

pub returns-in-20 : goal.returns-in-20
unfolding end_line
returns-in-20 c = simp c.in-20.is c.lay.ensures

pub returns-in-21 : goal.returns-in-21
unfolding end_line
returns-in-21 c = simp c.in-21.is c.lay-in-21.ensures

pub returns-in-22 : goal.returns-in-22
unfolding end_line
returns-in-22 c = simp c.in-22.is c.lay-in-22.ensures

pub returns-in-23 : goal.returns-in-23
unfolding end_line
returns-in-23 c = simp c.in-23.is c.lay-in-23.ensures

pub returns-in-24 : goal.returns-in-24
unfolding end_line
returns-in-24 c = simp c.in-24.is c.lay-in-24.ensures

pub returns-in-25 : goal.returns-in-25
unfolding end_line
returns-in-25 c = simp c.in-25.is c.lay-in-25.ensures

pub returns-in_default : goal.returns-in_default
unfolding end_line
returns-in_default c = simp (ne_eqb _ _ c.in_default.in_default-own.rest.1, ne_eqb _ _ c.in_default.in_default-own.rest.0.1, ne_eqb _ _ c.in_default.in_default-own.rest.0.0.1, ne_eqb _ _ c.in_default.in_default-own.rest.0.0.0.1, ne_eqb _ _ c.in_default.in_default-own.rest.0.0.0.0.1, ne_eqb _ _ c.in_default.in_default-own.rest.0.0.0.0.0.1) c.lay-in_default.ensures
