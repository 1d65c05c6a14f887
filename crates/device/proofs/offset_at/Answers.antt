-- `device::offset_at` meets its contract: the first k blocks, all seven from 7 on.
use Rattle.std.proofs.Common.{◌≡◌, ◌∙◌, ap, ℕ, take, length}
use native.Mathlib.Omega.{arith}
use Prim.Native.Nat.{min}
use Rattle.device.specs.Blocks.{units_of_all}
use Rattle.device.specs.Parts.{offset_in}
use Rattle.device.proofs.Cover.{before_least}
use Rattle.device.proofs.offset_at.Goals as goal

pub returns : goal.returns
unfolding offset_in
returns c =
    let ls = c.args.s.lengths in
    let e : c.least-to.result ≡ min c.args.k (length ls) = omega arith in
    c.units_of_all.ensures ∙ ap (λ (n : ℕ). units_of_all (take n ls)) e ∙ before_least ls c.args.k
