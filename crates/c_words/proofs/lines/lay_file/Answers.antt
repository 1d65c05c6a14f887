-- `lines::lay_file` meets its contract.
use borrow.Author.Tests.{ne_eqb}
use Rattle.c_words.specs.Words.{file_line}
use Rattle.c_words.proofs.lines.lay_file.Goals as goal

pub returns-in-30 : goal.returns-in-30
unfolding file_line
returns-in-30 c = simp c.in-30.is c.lay.ensures

pub returns-in-36 : goal.returns-in-36
unfolding file_line
returns-in-36 c = simp c.in-36.is c.lay-in-36.ensures

pub returns-in-37 : goal.returns-in-37
unfolding file_line
returns-in-37 c = simp c.in-37.is c.lay-in-37.ensures

pub returns-in-39 : goal.returns-in-39
unfolding file_line
returns-in-39 c = simp c.in-39.is c.lay-in-39.ensures

pub returns-in_default : goal.returns-in_default
unfolding file_line
returns-in_default c = simp (ne_eqb _ _ c.in_default.in_default-own.rest.1, ne_eqb _ _ c.in_default.in_default-own.rest.0.1, ne_eqb _ _ c.in_default.in_default-own.rest.0.0.1, ne_eqb _ _ c.in_default.in_default-own.rest.0.0.0.1) c.put_file_words.ensures
