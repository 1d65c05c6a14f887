-- `wear_print::table` meets its contract.
use mathlib.Core.Path.{◌≡◌, ◌∙◌}
use mathlib.Core.List.{List, ◌++◌}
use Prim.Native.Nat.{ℕ, zero-le, ◌≤◌}
use native.Mathlib.Omega.{arith}
use lib.ListN.{length}
use Rattle.wear_print.specs.Tables.{head_text, row_text, table_text}
use Rattle.wear_print.proofs.Laying.{from_more, head_front, no_room_lem, in_room, counts}
use Rattle.wear_print.proofs.table.Goals as goal

pub returns-then-out-lt512 : goal.returns-then-out-lt512
returns-then-out-lt512 c =
    let n = no_room_lem c.args.out.now (table_text c.args.r) c.if-out-lt512.true in
    record { result = n.0; out_left = n.1; out_used = counts 0 c.args.out.now zero-le }

pub returns : goal.returns
unfolding table_text
returns c =
    let w = c.copy in
    let p = c.put_row-a in
    let q = c.put_row-b in
    let u = c.put_row-c in
    let v = c.put_row in
    let out = c.args.out.now in
    let t = c.args.r in
    let l : 512 ≤ length out = c.if-out-lt512.false in
    let A : List ℕ = row_text 0 t.block0 in
    let B : List ℕ = row_text 1 t.block1 in
    let C : List ℕ = row_text 2 t.block2 in
    let D : List ℕ = row_text 3 t.block3 in
    let f = head_front out w.new.dst l w.ensures in
    let g = from_more out head_text A w.new.dst p.new.out 0 37 p.result zero-le f p.ensures.out_left p.ensures.result.0 in
    let h = from_more out (head_text ++ A) B p.new.out q.new.out 0 p.result q.result zero-le g q.ensures.out_left q.ensures.result.0 in
    let i = from_more out ((head_text ++ A) ++ B) C q.new.out u.new.out 0 q.result u.result zero-le h u.ensures.out_left u.ensures.result.0 in
    let j = from_more out (((head_text ++ A) ++ B) ++ C) D u.new.out v.new.out 0 u.result v.result zero-le i v.ensures.out_left v.ensures.result.0 in
    let b : v.result ≤ 461 = omega (arith, p.ensures.result.1, q.ensures.result.1, u.ensures.result.1, v.ensures.result.1) in
    let m : length v.new.out ≡ length out = v.auto.out ∙ u.auto.out ∙ q.auto.out ∙ p.auto.out ∙ w.auto.dst in
    let n = in_room out ((((head_text ++ A) ++ B) ++ C) ++ D) v.new.out v.result l j in
    record { result = n.0; out_left = n.1; out_used = counts v.result v.new.out (omega (arith, b, m, l)) }
