-- `c_blocks::seven_at` meets its contract.
use borrow.Author.Tests.{ne_eqb}
use Rattle.c_blocks.specs.Table.{seven_at}
use Rattle.c_blocks.proofs.seven_at.Goals as goal

pub returns-in-0 : goal.returns-in-0
unfolding seven_at
returns-in-0 c = simp c.in-0.is

pub returns-in-1 : goal.returns-in-1
unfolding seven_at
returns-in-1 c = simp c.in-1.is

pub returns-in-2 : goal.returns-in-2
unfolding seven_at
returns-in-2 c = simp c.in-2.is

pub returns-in-3 : goal.returns-in-3
unfolding seven_at
returns-in-3 c = simp c.in-3.is

pub returns-in-4 : goal.returns-in-4
unfolding seven_at
returns-in-4 c = simp c.in-4.is

pub returns-in-5 : goal.returns-in-5
unfolding seven_at
returns-in-5 c = simp c.in-5.is

pub returns-in-6 : goal.returns-in-6
unfolding seven_at
returns-in-6 c = simp c.in-6.is

pub returns-in_default : goal.returns-in_default
unfolding seven_at
returns-in_default c = simp (ne_eqb c.args.k 0 c.in_default.in_default-own.rest.0.0.0.0.0.0.1, ne_eqb c.args.k 1 c.in_default.in_default-own.rest.0.0.0.0.0.1, ne_eqb c.args.k 2 c.in_default.in_default-own.rest.0.0.0.0.1, ne_eqb c.args.k 3 c.in_default.in_default-own.rest.0.0.0.1, ne_eqb c.args.k 4 c.in_default.in_default-own.rest.0.0.1, ne_eqb c.args.k 5 c.in_default.in_default-own.rest.0.1, ne_eqb c.args.k 6 c.in_default.in_default-own.rest.1)
