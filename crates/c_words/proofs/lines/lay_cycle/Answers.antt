-- `lines::lay_cycle` meets its contract.
use borrow.Author.Tests.{ne_eqb}
use Rattle.c_words.specs.Words.{cycle_line}
use Rattle.c_words.proofs.lines.lay_cycle.Goals as goal

pub returns-in-0 : goal.returns-in-0
unfolding cycle_line
returns-in-0 c = simp c.in-0.is c.lay.ensures

pub returns-in-1 : goal.returns-in-1
unfolding cycle_line
returns-in-1 c = simp c.in-1.is c.lay-in-1.ensures

pub returns-in-2 : goal.returns-in-2
unfolding cycle_line
returns-in-2 c = simp c.in-2.is c.lay-in-2.ensures

pub returns-in-3 : goal.returns-in-3
unfolding cycle_line
returns-in-3 c = simp c.in-3.is c.lay-in-3.ensures

pub returns-in-4 : goal.returns-in-4
unfolding cycle_line
returns-in-4 c = simp c.in-4.is c.lay-in-4.ensures

pub returns-in-5 : goal.returns-in-5
unfolding cycle_line
returns-in-5 c = simp c.in-5.is c.lay-in-5.ensures

pub returns-in-6 : goal.returns-in-6
unfolding cycle_line
returns-in-6 c = simp c.in-6.is c.lay-in-6.ensures

pub returns-in-7 : goal.returns-in-7
unfolding cycle_line
returns-in-7 c = simp c.in-7.is c.lay-in-7.ensures

pub returns-in-8 : goal.returns-in-8
unfolding cycle_line
returns-in-8 c = simp c.in-8.is c.lay-in-8.ensures

pub returns-in_default : goal.returns-in_default
unfolding cycle_line
returns-in_default c = simp (ne_eqb _ _ c.in_default.in_default-own.rest.1, ne_eqb _ _ c.in_default.in_default-own.rest.0.1, ne_eqb _ _ c.in_default.in_default-own.rest.0.0.1, ne_eqb _ _ c.in_default.in_default-own.rest.0.0.0.1, ne_eqb _ _ c.in_default.in_default-own.rest.0.0.0.0.1, ne_eqb _ _ c.in_default.in_default-own.rest.0.0.0.0.0.1, ne_eqb _ _ c.in_default.in_default-own.rest.0.0.0.0.0.0.1, ne_eqb _ _ c.in_default.in_default-own.rest.0.0.0.0.0.0.0.1, ne_eqb _ _ c.in_default.in_default-own.rest.0.0.0.0.0.0.0.0.1) c.lay-in_default.ensures
