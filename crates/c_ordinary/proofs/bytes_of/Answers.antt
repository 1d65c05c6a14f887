-- `c_ordinary::bytes_of` meets its contract.
use borrow.Author.Tests.{ne_eqb}
use Rattle.c_ordinary.specs.Ordinary.{bytes_for}
use Rattle.c_ordinary.proofs.bytes_of.Goals as goal

pub returns-in-1 : goal.returns-in-1
unfolding bytes_for
returns-in-1 c = simp c.in-1.is

pub returns-in-2 : goal.returns-in-2
unfolding bytes_for
returns-in-2 c = simp c.in-2.is

pub returns-in-3 : goal.returns-in-3
unfolding bytes_for
returns-in-3 c = simp c.in-3.is

pub returns-in-4 : goal.returns-in-4
unfolding bytes_for
returns-in-4 c = simp c.in-4.is

pub returns-in-5 : goal.returns-in-5
unfolding bytes_for
returns-in-5 c = simp c.in-5.is

pub returns-in-6 : goal.returns-in-6
unfolding bytes_for
returns-in-6 c = simp c.in-6.is

pub returns-in-7 : goal.returns-in-7
unfolding bytes_for
returns-in-7 c = simp c.in-7.is

pub returns-in-8 : goal.returns-in-8
unfolding bytes_for
returns-in-8 c = simp c.in-8.is

pub returns-in_default : goal.returns-in_default
unfolding bytes_for
returns-in_default c = simp (ne_eqb c.args.number 1 c.in_default.in_default-own.rest.0.0.0.0.0.0.0.1, ne_eqb c.args.number 2 c.in_default.in_default-own.rest.0.0.0.0.0.0.1, ne_eqb c.args.number 3 c.in_default.in_default-own.rest.0.0.0.0.0.1, ne_eqb c.args.number 4 c.in_default.in_default-own.rest.0.0.0.0.1, ne_eqb c.args.number 5 c.in_default.in_default-own.rest.0.0.0.1, ne_eqb c.args.number 6 c.in_default.in_default-own.rest.0.0.1, ne_eqb c.args.number 7 c.in_default.in_default-own.rest.0.1, ne_eqb c.args.number 8 c.in_default.in_default-own.rest.1)
