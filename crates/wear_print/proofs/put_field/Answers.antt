-- `wear_print::put_field` meets its contract.
use mathlib.Core.Path.{◌∙◌}
use Prim.Native.Nat.{◌+◌, ◌-◌, ◌≤◌}
use native.Mathlib.Omega.{arith}
use lib.ListN.{length, set, length-set}
use borrow.Rule.Slice.PartMut.{same_len_mid}
use Rattle.wear_print.proofs.Laying.{field_over}
use Rattle.wear_print.proofs.put_field.Goals as goal

pub slice_bounds-decimal-end : goal.slice_bounds-decimal-end
slice_bounds-decimal-end c =
    let out = c.args.out.now in
    let h : c.args.at + 1 + c.width-w.result ≤ length (set out c.args.at 32) = omega (arith, length-set out c.args.at 32, c.width-w.ensures.1, c.requires) in
    h

pub shape_of-out : goal.shape_of-out
shape_of-out c =
    let w = c.width-w.result in
    let d = c.decimal in
    let out = c.args.out.now in
    same_len_mid (c.args.at + 1) (c.args.at + 1 + w - (c.args.at + 1)) (set out c.args.at 32) d.new.out d.auto.out ∙ length-set out c.args.at 32

pub returns : goal.returns
returns c =
    let w = c.width-w in
    let d = c.decimal in
    let out = c.args.out.now in
    let both = field_over out d.new.out c.args.at w.result c.args.n w.ensures.0 w.ensures.1 c.requires (length-set out c.args.at 32) d.ensures in record { result = both.0; out_left = both.1 }
