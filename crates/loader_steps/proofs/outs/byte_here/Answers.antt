-- `loader_steps::outs::byte_here` meets its contract.
use native.Mathlib.Omega.{arith}
use Rattle.units.proofs.Widths.{byte_at_most}
use Rattle.loader_steps.specs.Outs.{byte_here}
use Rattle.loader_steps.proofs.SmallAddresses.{here_small}
use Rattle.loader_steps.proofs.outs.byte_here.Goals as goal

pub here-requires : goal.here-requires
here-requires c = c.first-a.ensures

pub overflow_cast-result : goal.overflow_cast-result
overflow_cast-result c =
    let l = c.args.l in
    record { fits = omega (arith, c.byte_at.ensures, byte_at_most l.part.word c.here.result l.high, c.here.ensures, here_small l) }

pub returns : goal.returns
unfolding byte_here
returns c = simp (c.byte_at.ensures, c.here.ensures)
