-- `trace_wear::last_state` meets its contract: after i rounds what is left to replay leads where the whole leads.
use mathlib.Core.Path.{sym, ap, ◌∙◌}
use Prim.Native.Nat.{◌*◌, ◌≤◌}
use lib.ListN.{drop}
use Rattle.model_types.specs.declared.State.{State}
use Rattle.trace_replay.specs.Replays.{arrays_of}
use Rattle.trace_replay.proofs.Rounds.{arrays_over}
use Rattle.trace_wear.specs.Inner.{states_of}
use Rattle.trace_wear.proofs.Walks.{round_state, round_array, states_over}
use Rattle.trace_wear.proofs.last_state.Goals as goal

pub loop-i-preserved : goal.loop-i-preserved
loop-i-preserved c =
    let l = c.loop-i in
    let a = c.args in
    let k = c.next-s in
    let s = c.fresh-s.result in
    let h = c.loop-i-test.true in (
      round_state a.g l.i l.s k.result l.array k.new.array a.residue.now a.text.now h k.ensures.result k.ensures.array_left
          (states_of a.g s a.array.now a.residue.now a.text.now) l.invariant.0,
      round_array a.g l.i l.s k.result l.array k.new.array a.residue.now a.text.now h k.ensures.result k.ensures.array_left
          (arrays_of a.g s a.array.now a.residue.now a.text.now) l.invariant.1,
    )

pub returns : goal.returns
returns c =
    let l = c.loop-i in
    let a = c.args in
    let e = c.fresh-s.ensures in
    let y : a.g ≤ l.i = c.loop-i-test.false in record {
      result = sym (states_over a.g l.i l.s l.array a.residue.now (drop (20 * l.i) a.text.now) y) ∙ l.invariant.0
          ∙ ap (λ (x : State). states_of a.g x a.array.now a.residue.now a.text.now) e;
      array_left = sym (arrays_over a.g l.i l.s l.array a.residue.now (drop (20 * l.i) a.text.now) y) ∙ l.invariant.1
          ∙ ap (λ (x : State). arrays_of a.g x a.array.now a.residue.now a.text.now) e;
    }
