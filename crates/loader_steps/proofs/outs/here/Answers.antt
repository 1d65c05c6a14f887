-- `loader_steps::outs::here` meets its contract.
use native.Mathlib.Omega.{arith}
use borrow.Author.Tests.{lt-ltb, le-ltb}
use Rattle.loader_steps.specs.Addresses.{first_address}
use Rattle.loader_steps.specs.Inner.{here_of}
use Rattle.loader_steps.proofs.SmallAddresses.{start_small}
use Rattle.loader_steps.proofs.outs.here.Goals as goal

pub overflow_add-result : goal.overflow_add-result
unfolding first_address
overflow_add-result c = record { fits = omega (arith, c.requires, start_small c.args.l.part c.args.l.block) }

pub returns-then-l-lt16777216 : goal.returns-then-l-lt16777216
unfolding here_of
returns-then-l-lt16777216 c = simp (lt-ltb _ _ c.if-l-lt16777216.true, c.requires)

pub returns : goal.returns
unfolding here_of
returns c = simp (le-ltb _ _ c.if-l-lt16777216.false, c.requires)
