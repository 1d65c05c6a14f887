-- `tb_knot_unpack` meets its contract.
use mathlib.Core.Path.{◌∙◌}
use mir.Syntax.{w16, w32}
use mir.ValLaws.{to_z-of_z}
use Rattle.c_words.proofs.tb_knot_unpack.Goals as goal

pub returns : goal.returns
returns c =
    let v = c.volts in
    let t = c.tenths in
    let a = to_z-of_z w32 v.result (record { sfits = v.type_inv }) ∙ v.ensures in
    let b = to_z-of_z w16 t.result (record { sfits = t.type_inv }) ∙ t.ensures in
    λ i. record { microvolts = a i; tenths = b i; there = c.is_there.ensures i }
