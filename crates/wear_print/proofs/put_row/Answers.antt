-- `wear_print::put_row` meets its contract.
use mathlib.Core.Path.{◌≡◌, ◌∙◌}
use mathlib.Core.List.{List, ◌++◌}
use Prim.Native.Nat.{ℕ, ◌+◌, ◌≤◌, ◌<◌}
use native.Mathlib.Omega.{arith}
use lib.ListN.{length, length-set}
use Rattle.wear_print.specs.Tables.{field_text, row_text}
use Rattle.wear_print.proofs.Laying.{From, from_more, from_letter}
use Rattle.wear_print.proofs.put_row.Goals as goal

pub shape_of-out : goal.shape_of-out
shape_of-out c =
    let p = c.put_field-a in
    let q = c.put_field-b in
    let r = c.put_field-c in
    let u = c.put_field-d in
    let v = c.put_field-e in
    length-set v.new.out v.result 10 ∙ v.auto.out ∙ u.auto.out ∙ r.auto.out ∙ q.auto.out ∙ p.auto.out

pub returns : goal.returns
unfolding row_text
returns c =
    let p = c.put_field-a in
    let q = c.put_field-b in
    let r = c.put_field-c in
    let u = c.put_field-d in
    let v = c.put_field-e in
    let out = c.args.out.now in
    let at = c.args.at in
    let t = c.args.t in
    let h : at ≤ length out = omega (arith, c.requires) in
    let A : List ℕ = field_text c.args.block in
    let B : List ℕ = field_text t.total in
    let C : List ℕ = field_text t.largest in
    let D : List ℕ = field_text t.smallest in
    let E : List ℕ = field_text t.passed in
    let f : From out at A p.new.out p.result = record { bytes = p.ensures.out_left; behind = p.ensures.result.0 } in
    let g = from_more out A B p.new.out q.new.out at p.result q.result h f q.ensures.out_left q.ensures.result.0 in
    let i = from_more out (A ++ B) C q.new.out r.new.out at q.result r.result h g r.ensures.out_left r.ensures.result.0 in
    let j = from_more out ((A ++ B) ++ C) D r.new.out u.new.out at r.result u.result h i u.ensures.out_left u.ensures.result.0 in
    let k = from_more out (((A ++ B) ++ C) ++ D) E u.new.out v.new.out at u.result v.result h j v.ensures.out_left v.ensures.result.0 in
    let b : v.result ≤ at + 105 = omega (arith, p.ensures.result.1, q.ensures.result.1, r.ensures.result.1, u.ensures.result.1, v.ensures.result.1) in
    let m : length v.new.out ≡ length out = v.auto.out ∙ u.auto.out ∙ r.auto.out ∙ q.auto.out ∙ p.auto.out in
    let l : v.result < length v.new.out = omega (arith, b, m, c.requires) in
    let z = from_letter out ((((A ++ B) ++ C) ++ D) ++ E) v.new.out 10 at v.result h l k in
    record { result = (z.behind, omega (arith, b)); out_left = z.bytes }
