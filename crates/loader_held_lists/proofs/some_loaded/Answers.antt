use mathlib.Core.Bool.{◌&&◌}
use mathlib.Core.Path.{ap, ◌∙◌}
use Prim.Native.Nat.{ℕ, ◌+◌}
use lib.Dec.{ltb, leb}
use Rattle.device.specs.Parts.{start_of, length_of}
use Rattle.loader_held_lists.specs.Listings.{some_of, in_loaded}
use Rattle.loader_held_lists.proofs.some_loaded.Goals as goal

-- src/lib.rt:83:1
pub returns : goal.returns
unfolding in_loaded
returns c =
    let a = c.args in
    let bs = a.addresses.now in
    c.some_lies.ensures
    ∙ ap (λ (n : ℕ). some_of (λ x. ltb x n && leb c.start.result x) bs) c.end_of.ensures
    ∙ ap (λ (n : ℕ). some_of (λ x. ltb x (start_of a.part a.block + length_of a.part a.block) && leb n x) bs) c.start.ensures
