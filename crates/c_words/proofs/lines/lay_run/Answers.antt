-- `lines::lay_run` meets its contract.
use borrow.Author.Tests.{ne_eqb}
use Rattle.c_words.specs.Words.{run_line}
use Rattle.c_words.proofs.lines.lay_run.Goals as goal

pub returns-in-10 : goal.returns-in-10
unfolding run_line
returns-in-10 c = simp c.in-10.is c.lay.ensures

pub returns-in-11 : goal.returns-in-11
unfolding run_line
returns-in-11 c = simp c.in-11.is c.lay-in-11.ensures

pub returns-in-12 : goal.returns-in-12
unfolding run_line
returns-in-12 c = simp c.in-12.is c.lay-in-12.ensures

pub returns-in_default : goal.returns-in_default
unfolding run_line
returns-in_default c = simp (ne_eqb _ _ c.in_default.in_default-own.rest.1, ne_eqb _ _ c.in_default.in_default-own.rest.0.1, ne_eqb _ _ c.in_default.in_default-own.rest.0.0.1) c.lay-in_default.ensures
