-- `file_codec::payload_size` meets its contract.
use mathlib.Core.Path.{◌≡◌, ◌∙◌}
use Prim.Native.Nat.{◌-◌, ◌*◌}
use native.Mathlib.Omega.{arith}
use lib.ListN.{length, take, drop}
use Rattle.file_block.specs.Block.{used_of}
use Rattle.file_codec.proofs.payload_size.Goals as goal

pub returns : goal.returns
returns c =
    let n = c.args.n in
    let xs = c.args.file.now in
    let l = c.requires.1 in
    let z = c.requires.0 in
    let f : length xs - 512 ≡ 512 * (n - 1) = omega arith in
    let k : length xs - (length xs - 512) ≡ 512 = omega arith in
    let u : c.used.result ≡ used_of (take 512 (drop (512 * (n - 1)) xs)) = c.used.ensures.0 ∙ (λ i. used_of (take (k i) (drop (f i) xs))) in
    let w = c.seven.ensures in
    omega arith
