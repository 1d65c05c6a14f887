-- `wear_print::line` meets its contract.
use mathlib.Core.Path.{◌≡◌, ◌∙◌}
use mathlib.Core.List.{List, [], ◌∷◌, ◌++◌}
use Prim.Native.Nat.{ℕ, zero-le, ◌+◌, ◌≤◌, ◌<◌}
use native.Mathlib.Omega.{arith}
use lib.ListN.{length, set, length-set}
use Rattle.wear_print.specs.Tables.{field_text, line_text}
use Rattle.wear_print.proofs.Laying.{from_more, from_letter, letter_front, no_room_lem, in_room, counts}
use Rattle.wear_print.proofs.line.Goals as goal

pub returns-then-out-lt512 : goal.returns-then-out-lt512
returns-then-out-lt512 c =
    let n = no_room_lem c.args.out.now (line_text c.args.sign c.args.a c.args.b) c.if-out-lt512.true in
    record { result = n.0; out_left = n.1; out_used = counts 0 c.args.out.now zero-le }

pub put_field-p-requires : goal.put_field-p-requires
put_field-p-requires c =
    let a = c.args in
    let l = c.if-out-lt512.false in
    let h : 1 + 21 ≤ length (set a.out.now 0 a.sign) = omega (arith, l, length-set a.out.now 0 a.sign) in
    h

pub put_field-q-requires : goal.put_field-q-requires
put_field-q-requires c =
    let a = c.args in
    let p = c.put_field-p in
    let l = c.if-out-lt512.false in
    let m : length p.new.out ≡ length a.out.now = p.auto.out ∙ length-set a.out.now 0 a.sign in
    let h : p.result + 21 ≤ length p.new.out = omega (arith, l, m, p.ensures.result.1) in
    h

pub bounds-out-q : goal.bounds-out-q
bounds-out-q c =
    let a = c.args in
    let p = c.put_field-p in
    let q = c.put_field-q in
    let l = c.if-out-lt512.false in
    let m : length q.new.out ≡ length a.out.now = q.auto.out ∙ p.auto.out ∙ length-set a.out.now 0 a.sign in
    let h : q.result < length q.new.out = omega (arith, l, m, p.ensures.result.1, q.ensures.result.1) in
    h

pub shape_of-out : goal.shape_of-out
shape_of-out c =
    let a = c.args in
    let p = c.put_field-p in
    let q = c.put_field-q in
    length-set q.new.out q.result 10 ∙ q.auto.out ∙ p.auto.out ∙ length-set a.out.now 0 a.sign

pub returns : goal.returns
unfolding line_text
returns c =
    let p = c.put_field-p in
    let q = c.put_field-q in
    let l : 512 ≤ length c.args.out.now = c.if-out-lt512.false in
    let out = c.args.out.now in
    let S : List ℕ = c.args.sign ∷ [] in
    let A : List ℕ = field_text c.args.a in
    let B : List ℕ = field_text c.args.b in
    let f = letter_front out c.args.sign (omega (arith, l)) in
    let g = from_more out S A (set out 0 c.args.sign) p.new.out 0 1 p.result zero-le f p.ensures.out_left p.ensures.result.0 in
    let h = from_more out (S ++ A) B p.new.out q.new.out 0 p.result q.result zero-le g q.ensures.out_left q.ensures.result.0 in
    let b : q.result ≤ 43 = omega (arith, p.ensures.result.1, q.ensures.result.1) in
    let m : length q.new.out ≡ length out = q.auto.out ∙ p.auto.out ∙ length-set out 0 c.args.sign in
    let z = from_letter out ((S ++ A) ++ B) q.new.out 10 0 q.result zero-le (omega (arith, b, m, l)) h in
    let n = in_room out (((S ++ A) ++ B) ++ (10 ∷ [])) (set q.new.out q.result 10) (q.result + 1) l z in
    let k : length (set q.new.out q.result 10) ≡ length out = length-set q.new.out q.result 10 ∙ m in
    record { result = n.0; out_left = n.1; out_used = counts (q.result + 1) (set q.new.out q.result 10) (omega (arith, b, k, l)) }
