-- `trace_replay::answer_lines` meets its contract: after i rounds the first i answers stand; what is left to answer makes up the rest of
-- the answers and of the array.
use mathlib.Core.Path.{◌≡◌, sym, ap, ◌∙◌}
use mathlib.Core.List.{◌++◌}
use Prim.Native.Nat.{◌*◌, ◌≤◌, ◌<◌}
use lib.ListN.{length, drop}
use Rattle.model_types.specs.declared.State.{State}
use Rattle.model_states.specs.States.{fresh_state}
use Rattle.trace_replay.specs.Replays.{answers_of, arrays_of}
use Rattle.trace_replay.proofs.Rounds.{round_array, round_out, round_rest, round_over, arrays_over}
use native.Mathlib.Omega.{arith}
use Rattle.trace_replay.proofs.answer_lines.Goals as goal

pub loop-i-preserved : goal.loop-i-preserved
loop-i-preserved g c =
    let l = c.loop-i in
    let a = c.args in
    let k = c.answer_line-s in
    let h : l.i < a.g = c.loop-i-test.true in
    let f : 8 * a.g ≤ length l.out = omega (arith, l.auto.out, c.requires.1) in
    let e = k.ensures.result in
    let x = k.ensures.array_left in
    let o = k.ensures.out_left in (
      round_array a.g l.i l.s k.result l.array k.new.array k.new.out a.residue.now a.text.now l.out h f e x o
          (arrays_of a.g c.fresh-s.result a.array.now a.residue.now a.text.now) l.invariant.0,
      round_out a.g l.i l.s k.result l.array k.new.array k.new.out a.residue.now a.text.now l.out h f e x o
          (answers_of a.g c.fresh-s.result a.array.now a.residue.now a.text.now) l.invariant.1,
      round_rest a.g l.i l.s k.result l.array k.new.array k.new.out a.residue.now a.text.now l.out h f e x o a.out.now l.invariant.2,
    )

pub returns : goal.returns
returns g c =
    let l = c.loop-i in
    let a = c.args in
    let s = c.fresh-s.result in
    let e : s ≡ fresh_state = c.fresh-s.ensures in
    let y : a.g ≤ l.i = c.loop-i-test.false in
    let z : l.i ≡ a.g = omega (arith, l.auto.i-end) in record {
      array_left = sym (arrays_over a.g l.i l.s l.array a.residue.now (drop (20 * l.i) a.text.now) y) ∙ l.invariant.0
          ∙ ap (λ (x : State). arrays_of a.g x a.array.now a.residue.now a.text.now) e;
      out_left = round_over a.g l.i l.s l.array a.residue.now a.text.now l.out a.out.now (answers_of a.g s a.array.now a.residue.now a.text.now) z l.invariant.1 l.invariant.2
          ∙ ap (λ (x : State). answers_of a.g x a.array.now a.residue.now a.text.now ++ drop (8 * a.g) a.out.now) e;
    }
