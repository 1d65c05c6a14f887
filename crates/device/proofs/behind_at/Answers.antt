-- `device::behind_at` meets its contract: the blocks after block k, none from 6 on.
use Rattle.std.proofs.Common.{◌≡◌, ◌∙◌, ap, ℕ, ◌+◌, ◌-◌, take, drop, length}
use native.Mathlib.Omega.{arith}
use Prim.Native.Nat.{min}
use Rattle.device.specs.Blocks.{units_of_all}
use Rattle.device.specs.Parts.{offset_in, length_in, size_in}
use Rattle.device.proofs.Cover.{after_least}
use Rattle.device.proofs.behind_at.Goals as goal

pub returns : goal.returns
unfolding offset_in length_in size_in
returns c =
    let ls = c.args.s.lengths in
    let e : c.least-from.result ≡ min (c.args.k + 1) (length ls) = omega arith in
    c.units_of_all.ensures ∙ ap (λ (n : ℕ). units_of_all (take (length ls - n) (drop n ls))) e ∙ after_least ls c.args.k
