-- `c_operations::is_elsewhere` meets its contract.
use mathlib.Core.Path.{ap, ◌∙◌}
use mathlib.Core.Bool.{not}
use lib.Dec.{eqb}
use Rattle.device.specs.declared.Part.{Part}
use Rattle.device.specs.Parts.{block_of}
use Rattle.c_operations.proofs.is_elsewhere.Goals as goal

pub returns : goal.returns
returns c = let a = c.args in
    let u = c.block_of.ensures ∙ ap (λ (z : Part). block_of z a.address) c.part_in-part.ensures in
    let v = c.block_of-2.ensures ∙ ap (λ (z : Part). block_of z a.n.address) c.part_in-part.ensures in
    (λ i. not (eqb (u i) (v i)))
