-- `recording_text::walk_lines` meets its contract: after i rounds what is ahead leads where the whole leads.
use mathlib.Core.Path.{◌≡◌, sym, ap, ◌∙◌}
use Prim.Native.Nat.{ℕ, ◌+◌, ◌-◌, ◌*◌, ◌<◌}
use native.Mathlib.Omega.{arith}
use Rattle.recording_text.specs.Inner.{come_as}
use Rattle.recording_text.proofs.Rounds.{ahead, lies, bad, over, round_walk, round_bytes, round_count, stopped}
use Rattle.recording_text.proofs.walk_lines.Goals as goal

pub slice_bounds-next-end : goal.slice_bounds-next-end
slice_bounds-next-end c = lies c.args.text.now (31 * c.loop-i.i) (sym c.good_at.ensures ∙ c.if-not-good_at.false)

pub loop-i-preserved : goal.loop-i-preserved
loop-i-preserved c =
    let l = c.loop-i in
    let a = c.args in
    let k = c.next-w in
    let h : l.i < 9998 = c.loop-i-test.true in
    let g = sym c.good_at.ensures ∙ c.if-not-good_at.false in
    let n = 31 * l.i + 31 - 31 * l.i in
    let p : n ≡ 31 = omega arith in
    let y = k.new.array in (
      round_walk 9998 l.i a.text.now h g l.w k.result l.array y n p k.ensures.0 k.ensures.1 ∙ l.invariant.0,
      round_bytes 9998 l.i a.text.now h g l.w k.result l.array y n p k.ensures.0 k.ensures.1 ∙ l.invariant.1,
      round_count 9998 l.i a.text.now h g l.w k.result l.array y n p k.ensures.0 k.ensures.1 ∙ l.invariant.2,
    )

pub returns-then-not-good_at : goal.returns-then-not-good_at
returns-then-not-good_at c =
    let l = c.loop-i in
    let a = c.args in
    let h : l.i < 9998 = c.loop-i-test.true in
    stopped a.text.now a.array.now l.array a.from l.w l.i (ahead 9998 l.i a.text.now)
    (bad 9998 l.i a.text.now h (sym c.good_at.ensures ∙ c.if-not-good_at.true)) l.invariant.0 l.invariant.1 l.invariant.2

pub returns : goal.returns
returns c =
    let l = c.loop-i in
    let a = c.args in
    let e : l.i ≡ 9998 = omega (arith, l.auto.i-end, c.loop-i-test.false) in
    let r = stopped a.text.now a.array.now l.array a.from l.w l.i (ahead 9998 l.i a.text.now)
    (over 9998 l.i a.text.now c.loop-i-test.false) l.invariant.0 l.invariant.1 l.invariant.2 in
    (ap (λ (m : ℕ). come_as l.w m) (sym e) ∙ r.0, r.1)
