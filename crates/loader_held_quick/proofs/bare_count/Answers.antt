-- `loader_held_quick::bare_count` meets its contract.
use mathlib.Core.Path.{sym}
use native.Mathlib.Omega.{arith}
use Rattle.common.proofs.Choice.{if_true, if_false}
use Rattle.loader_held_quick.specs.HeldQuick.{bare_count}
use Rattle.loader_held_quick.proofs.bare_count.Goals as goal

pub returns-then-verify : goal.returns-then-verify
unfolding bare_count
returns-then-verify c =
    let z = c.struct_known-1.given in
    record { result = sym (if_true _ _ _ c.if-verify.true); timed = (omega (arith, z.1.0.fits), omega (arith, z.1.1.0.fits)) }

pub returns : goal.returns
unfolding bare_count
returns c =
    let z = c.struct_known-1.given in
    record { result = sym (if_false _ _ _ c.if-verify.false); timed = (omega (arith, z.1.0.fits), omega (arith, z.1.1.0.fits)) }
