-- `loader_blocks::keep_bits` meets its contract: the first i bytes are the wanted ones.
use mathlib.Core.Path.{ap, ◌∙◌}
use mathlib.Core.List.{List}
use Prim.Native.Nat.{ℕ, ◌<◌}
use native.Mathlib.Omega.{arith}
use lib.ListN.{length, get_or, set}
use lib.Bits.{bit_and}
use Rattle.loader_blocks.proofs.Laws.{bits_more}
use Rattle.loader_blocks.proofs.keep_bits.Goals as goal

pub loop-i-preserved : goal.loop-i-preserved
loop-i-preserved c =
    let w = c.args.wanted.now in
    let h = c.args.held.now in
    let i = c.loop-i.i in
    let k : i < length h = c.loop-i-test.true in
    let m : i < length w = omega (arith, k, c.requires.long) in
    ap (λ (x : List ℕ). set x i (bit_and (get_or x i 0) (get_or w i 0))) c.loop-i.invariant ∙ bits_more w h c.requires.long i k (c.requires.falls i m)
