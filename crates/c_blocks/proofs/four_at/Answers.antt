-- `c_blocks::four_at` meets its contract.
use borrow.Author.Tests.{ne_eqb}
use Rattle.c_blocks.specs.Table.{four_at}
use Rattle.c_blocks.proofs.four_at.Goals as goal

pub returns-in-0 : goal.returns-in-0
unfolding four_at
returns-in-0 c = simp c.in-0.is

pub returns-in-1 : goal.returns-in-1
unfolding four_at
returns-in-1 c = simp c.in-1.is

pub returns-in-2 : goal.returns-in-2
unfolding four_at
returns-in-2 c = simp c.in-2.is

pub returns-in-3 : goal.returns-in-3
unfolding four_at
returns-in-3 c = simp c.in-3.is

pub returns-in_default : goal.returns-in_default
unfolding four_at
returns-in_default c = simp (ne_eqb c.args.k 0 c.in_default.in_default-own.rest.0.0.0.1, ne_eqb c.args.k 1 c.in_default.in_default-own.rest.0.0.1, ne_eqb c.args.k 2 c.in_default.in_default-own.rest.0.1, ne_eqb c.args.k 3 c.in_default.in_default-own.rest.1)
