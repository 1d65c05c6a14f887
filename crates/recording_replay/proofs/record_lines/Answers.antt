-- `recording_replay::record_lines` meets its contract: after i rounds the first i lines stand, and what is left makes up the rest.
use mathlib.Core.Path.{◌≡◌, refl, sym, ap, ◌∙◌}
use mathlib.Core.List.{◌++◌}
use Prim.Native.Nat.{◌+◌, ◌*◌, ◌≤◌, ◌<◌}
use native.Mathlib.Omega.{arith}
use lib.ListN.{length, drop}
use Rattle.trace_replay.specs.Replays.{arrays_of}
use Rattle.trace_replay.proofs.Rounds.{arrays_over}
use Rattle.recording_replay.specs.declared.Log.{Log}
use Rattle.recording_replay.specs.Recorded.{lines_from, log_from, no_log}
use Rattle.recording_replay.proofs.Rounds.{log_over, part_length, round_log, round_array, round_out, round_rest, round_over}
use Rattle.recording_replay.proofs.record_lines.Goals as goal

pub next-l-requires : goal.next-l-requires
next-l-requires c =
    let a = c.args in
    part_length a.g c.loop-i.i a.text.now c.loop-i-test.true c.requires.0

pub loop-i-preserved : goal.loop-i-preserved
loop-i-preserved c =
    let l = c.loop-i in
    let a = c.args in
    let k = c.next-l in
    let s = c.no_log-l.result in
    let h : l.i < a.g = c.loop-i-test.true in
    let f : 20 * a.g ≤ length a.text.now = c.requires.0 in
    let m : 31 * a.g ≤ length l.out = omega (arith, l.auto.out, c.requires.1) in (
      round_log a.g l.i (l.i + 1) l.l k.result l.array k.new.array k.new.out a.residue.now a.text.now l.out h refl f m k.ensures.result k.ensures.array_left k.ensures.out_left
          (log_from a.g 1 s a.array.now a.residue.now a.text.now) l.invariant.0,
      round_array a.g l.i (l.i + 1) l.l k.result l.array k.new.array k.new.out a.residue.now a.text.now l.out h refl f m k.ensures.result k.ensures.array_left k.ensures.out_left
          (arrays_of a.g s.state a.array.now a.residue.now a.text.now) l.invariant.1,
      round_out a.g l.i (l.i + 1) l.l k.result l.array k.new.array k.new.out a.residue.now a.text.now l.out h refl f m k.ensures.result k.ensures.array_left k.ensures.out_left
          (lines_from a.g s.state a.array.now a.residue.now a.text.now) l.invariant.2,
      round_rest a.g l.i (l.i + 1) l.l k.result l.array k.new.array k.new.out a.residue.now a.text.now l.out h refl f m k.ensures.result k.ensures.array_left k.ensures.out_left a.out.now l.invariant.3,
    )

pub returns : goal.returns
returns c =
    let l = c.loop-i in
    let a = c.args in
    let s = c.no_log-l.result in
    let e : s ≡ no_log = c.no_log-l.ensures in
    let z : l.i ≡ a.g = omega (arith, l.auto.i-end, c.loop-i-test.false) in
    let y : a.g ≤ l.i = c.loop-i-test.false in record {
      result = sym (log_over a.g l.i (l.i + 1) l.l l.array a.residue.now (drop (20 * l.i) a.text.now) y) ∙ l.invariant.0
          ∙ ap (λ (x : Log). log_from a.g 1 x a.array.now a.residue.now a.text.now) e;
      array_left = sym (arrays_over a.g l.i l.l.state l.array a.residue.now (drop (20 * l.i) a.text.now) y) ∙ l.invariant.1
          ∙ ap (λ (x : Log). arrays_of a.g x.state a.array.now a.residue.now a.text.now) e;
      out_left = round_over a.g l.i l.l.state l.array a.residue.now a.text.now l.out a.out.now (lines_from a.g s.state a.array.now a.residue.now a.text.now) z l.invariant.2 l.invariant.3
          ∙ ap (λ (x : Log). lines_from a.g x.state a.array.now a.residue.now a.text.now ++ drop (31 * a.g) a.out.now) e;
    }
