-- `c_blocks::block_at` meets its contract.
use mathlib.Core.Path.{◌∙◌}
use borrow.Author.Tests.{ne_eqb}
use Rattle.c_blocks.specs.Table.{block_at}
use Rattle.c_blocks.proofs.block_at.Goals as goal

pub returns-in-1 : goal.returns-in-1
unfolding block_at
returns-in-1 c = c.four_at.ensures ∙ simp c.in-1.is

pub returns-in-2 : goal.returns-in-2
unfolding block_at
returns-in-2 c = c.four_at-in-2.ensures ∙ simp c.in-2.is

pub returns-in-3 : goal.returns-in-3
unfolding block_at
returns-in-3 c = c.four_at-in-3.ensures ∙ simp c.in-3.is

pub returns-in-4 : goal.returns-in-4
unfolding block_at
returns-in-4 c = c.four_at-in-4.ensures ∙ simp c.in-4.is

pub returns-in-5 : goal.returns-in-5
unfolding block_at
returns-in-5 c = c.five_at.ensures ∙ simp c.in-5.is

pub returns-in-6 : goal.returns-in-6
unfolding block_at
returns-in-6 c = c.five_at-in-6.ensures ∙ simp c.in-6.is

pub returns-in-7 : goal.returns-in-7
unfolding block_at
returns-in-7 c = c.seven_at.ensures ∙ simp c.in-7.is

pub returns-in-8 : goal.returns-in-8
unfolding block_at
returns-in-8 c = c.seven_at-in-8.ensures ∙ simp c.in-8.is

pub returns-in_default : goal.returns-in_default
unfolding block_at
returns-in_default c = simp (ne_eqb c.args.part 1 c.in_default.in_default-own.rest.0.0.0.0.0.0.0.1, ne_eqb c.args.part 2 c.in_default.in_default-own.rest.0.0.0.0.0.0.1, ne_eqb c.args.part 3 c.in_default.in_default-own.rest.0.0.0.0.0.1, ne_eqb c.args.part 4 c.in_default.in_default-own.rest.0.0.0.0.1, ne_eqb c.args.part 5 c.in_default.in_default-own.rest.0.0.0.1, ne_eqb c.args.part 6 c.in_default.in_default-own.rest.0.0.1, ne_eqb c.args.part 7 c.in_default.in_default-own.rest.0.1, ne_eqb c.args.part 8 c.in_default.in_default-own.rest.1)
