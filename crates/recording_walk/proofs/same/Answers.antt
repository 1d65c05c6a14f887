-- `recording_walk::same` meets its contract: the bits gathered, and what is left, say what both lists say.
use mathlib.Core.Path.{◌≡◌, sym, ap, ◌∙◌}
use mathlib.Core.Bool.{Bool, true, ◌&&◌}
use Prim.Native.Nat.{◌<◌}
use native.Mathlib.Omega.{arith}
use lib.Dec.{eqb}
use lib.ListN.{length, drop}
use Rattle.recording_walk.specs.Lists.{same_bytes}
use Rattle.recording_walk.proofs.Equal.{other_length, and_yes, one_more, at_end}
use Rattle.recording_walk.proofs.same.Goals as goal

pub returns-then-a-b : goal.returns-then-a-b
returns-then-a-b c = let a = c.args in other_length a.a.now a.b.now c.if-a-b.true

pub loop-i-preserved : goal.loop-i-preserved
loop-i-preserved c =
    let a = c.args in
    let l = c.loop-i in
    let h : l.i < length a.a.now = c.loop-i-test.true in
    let k : l.i < length a.b.now = omega (arith, h, c.if-a-b.false) in
    one_more a.a.now a.b.now l.i h k l.bits ∙ l.invariant

pub returns : goal.returns
returns c =
    let a = c.args in
    let l = c.loop-i in
    let e : same_bytes (drop l.i a.a.now) (drop l.i a.b.now) ≡ true = at_end a.a.now a.b.now l.i c.loop-i-test.false (omega (arith, c.loop-i-test.false, c.if-a-b.false)) in
    sym (and_yes (eqb l.bits 0)) ∙ ap (λ (x : Bool). eqb l.bits 0 && x) (sym e) ∙ l.invariant
