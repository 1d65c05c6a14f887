-- `loader_quick::first_byte` meets its contract.
use mathlib.Core.Path.{ap, ◌∙◌}
use Prim.Native.Nat.{ℕ}
use native.Mathlib.Omega.{arith}
use Rattle.units.specs.Address.{byte_of}
use Rattle.loader_steps.proofs.SmallAddresses.{start_small}
use Rattle.loader_quick.proofs.Places.{low_byte}
use Rattle.loader_quick.proofs.first_byte.Goals as goal

pub overflow_cast-a : goal.overflow_cast-a
overflow_cast-a c =
    record { fits = omega (arith, c.start-a.ensures, start_small c.args.part c.args.block) }

pub returns : goal.returns
returns c =
    let a = c.args in
    c.byte_at.ensures ∙ low_byte a.part.word c.start-a.result ∙ ap (λ (x : ℕ). byte_of a.part.word x) c.start-a.ensures
