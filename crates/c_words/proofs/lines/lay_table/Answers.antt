-- `lines::lay_table` meets its contract.
use borrow.Author.Tests.{ne_eqb}
use Rattle.c_words.specs.Words.{table_line}
use Rattle.c_words.proofs.lines.lay_table.Goals as goal

pub returns-in-40 : goal.returns-in-40
unfolding table_line
returns-in-40 c = simp c.in-40.is c.lay.ensures

pub returns-in-41 : goal.returns-in-41
unfolding table_line
returns-in-41 c = simp c.in-41.is c.lay-in-41.ensures

pub returns-in-42 : goal.returns-in-42
unfolding table_line
returns-in-42 c = simp c.in-42.is c.lay-in-42.ensures

pub returns-in-43 : goal.returns-in-43
unfolding table_line
returns-in-43 c = simp c.in-43.is c.lay-in-43.ensures

pub returns-in-44 : goal.returns-in-44
unfolding table_line
returns-in-44 c = simp c.in-44.is c.lay-in-44.ensures

pub returns-in-45 : goal.returns-in-45
unfolding table_line
returns-in-45 c = simp c.in-45.is c.lay-in-45.ensures

pub returns-in-46 : goal.returns-in-46
unfolding table_line
returns-in-46 c = simp c.in-46.is c.lay-in-46.ensures

pub returns-in-47 : goal.returns-in-47
unfolding table_line
returns-in-47 c = simp c.in-47.is c.lay-in-47.ensures

pub returns-in-48 : goal.returns-in-48
unfolding table_line
returns-in-48 c = simp c.in-48.is c.lay-in-48.ensures

pub returns-in_default : goal.returns-in_default
unfolding table_line
returns-in_default c = simp (ne_eqb _ _ c.in_default.in_default-own.rest.1, ne_eqb _ _ c.in_default.in_default-own.rest.0.1, ne_eqb _ _ c.in_default.in_default-own.rest.0.0.1, ne_eqb _ _ c.in_default.in_default-own.rest.0.0.0.1, ne_eqb _ _ c.in_default.in_default-own.rest.0.0.0.0.1, ne_eqb _ _ c.in_default.in_default-own.rest.0.0.0.0.0.1, ne_eqb _ _ c.in_default.in_default-own.rest.0.0.0.0.0.0.1, ne_eqb _ _ c.in_default.in_default-own.rest.0.0.0.0.0.0.0.1, ne_eqb _ _ c.in_default.in_default-own.rest.0.0.0.0.0.0.0.0.1) c.lay-in_default.ensures
