-- `trace_replay::replay` meets its contract: the good lines are counted, answered and marked, and that is the output.
use mathlib.Core.Path.{refl, sym, subst}
use Prim.Native.Nat.{ℕ, ◌*◌, ◌≤◌}
use native.Mathlib.Omega.{arith}
use lib.ListN.{length}
use Rattle.trace_replay.proofs.Scans.{good_most, good_fit}
use Rattle.trace_replay.proofs.WholeTrace.{few, inside, short, refused, refused_array, refused_out, done, done_array, done_out, done_used}
use Rattle.trace_replay.proofs.replay.Goals as goal

pub overflow_mul-left : goal.overflow_mul-left
overflow_mul-left g c =
    let a = c.args in
    let m = c.good_lines-g in
    record { fits = omega (arith, subst (λ (k : ℕ). 20 * k ≤ length a.text.now) (sym m.ensures) (good_fit 9998 a.text.now)) }

pub overflow_sub-left : goal.overflow_sub-left
overflow_sub-left g c =
    let a = c.args in
    let m = c.good_lines-g in
    omega (arith, subst (λ (k : ℕ). 20 * k ≤ length a.text.now) (sym m.ensures) (good_fit 9998 a.text.now))

pub overflow_mul-n : goal.overflow_mul-n
overflow_mul-n g c =
    let a = c.args in
    let m = c.good_lines-g in
    record { fits = omega (arith, subst (λ (k : ℕ). k ≤ 9998) (sym m.ensures) (good_most 9998 a.text.now)) }

pub overflow_add-n : goal.overflow_add-n
overflow_add-n g c =
    let a = c.args in
    let m = c.good_lines-g in
    let n = c.end_length in
    record { fits = omega (arith, few m.result n.result a.array.now a.residue.now a.text.now a.out.now m.ensures n.ensures, short m.result n.result a.array.now a.residue.now a.text.now a.out.now m.ensures n.ensures) }

pub returns-then-out-n : goal.returns-then-out-n
returns-then-out-n g c =
    let a = c.args in
    let m = c.good_lines-g in
    let n = c.end_length in record { result = refused m.result n.result a.array.now a.residue.now a.text.now a.out.now m.ensures n.ensures c.if-out-n.true; array_left = refused_array m.result n.result a.array.now a.residue.now a.text.now a.out.now m.ensures n.ensures c.if-out-n.true; out_left = refused_out m.result n.result a.array.now a.residue.now a.text.now a.out.now m.ensures n.ensures c.if-out-n.true; out_used = (omega arith, refl) }

pub answer_lines-requires : goal.answer_lines-requires
answer_lines-requires g c =
    let a = c.args in
    let m = c.good_lines-g in
    let n = c.end_length in
    (inside m.result n.result a.array.now a.residue.now a.text.now a.out.now m.ensures n.ensures, omega arith)

pub returns : goal.returns
returns g c =
    let a = c.args in
    let m = c.good_lines-g in
    let n = c.end_length in
    let k = c.answer_lines in
    let w = c.write_end in
    let h = c.if-out-n.false in record { result = done m.result n.result a.array.now a.residue.now a.text.now a.out.now m.ensures n.ensures h; array_left = done_array m.result n.result a.array.now a.residue.now a.text.now a.out.now m.ensures n.ensures h k.new.array k.ensures.array_left; out_left = done_out m.result n.result a.array.now a.residue.now a.text.now a.out.now m.ensures n.ensures h k.new.out w.new.out k.ensures.out_left w.ensures; out_used = done_used m.result n.result a.array.now a.residue.now a.text.now a.out.now m.ensures n.ensures h k.new.out w.new.out k.ensures.out_left w.ensures w.auto.out k.auto.out }
