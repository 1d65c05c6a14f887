use Rattle.loader_steps.proofs.SmallAddresses.{start_small}
use native.Mathlib.Omega.{arith}
use Rattle.loader_steps.specs.Addresses.{first_address}
use Rattle.loader_steps.proofs.outs.first.Goals as goal

pub overflow_cast-result : goal.overflow_cast-result
overflow_cast-result c = record { fits = omega (arith, c.start.ensures, start_small c.args.l.part c.args.l.block) }

pub returns : goal.returns
unfolding first_address
returns c = simp c.start.ensures
