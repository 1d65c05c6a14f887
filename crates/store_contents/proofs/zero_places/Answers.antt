use Rattle.std.proofs.Common.{◌≡◌, ◌+◌, ◌*◌, ◌-◌, suc, arith}
use Rattle.store_contents.proofs.zero_places.Goals as goal

pub loop-i-preserved : goal.loop-i-preserved
loop-i-preserved c =
    let a = c.args in
    let L = c.loop-i in
    let e : a.k - L.i ≡ suc (a.k - (L.i + 1)) = omega arith in
    let f : a.from + 512 * (L.i + 1) ≡ a.from + 512 * L.i + 512 = omega arith in
    rw f (rw e at L.invariant)
