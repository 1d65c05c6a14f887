-- `c_recording::rest_read` meets its contract.
use Rattle.c_recording.specs.Known.{good}
use mathlib.Core.Path.{sym, ◌∙◌}
use native.Mathlib.Omega.{arith}
use Rattle.common.proofs.Choice.{unlike}
use Rattle.c_recording.proofs.Moving.{array_read, status_read}
use Rattle.c_recording.proofs.rest_read.Goals as goal

pub returns-then-r-ne1 : goal.returns-then-r-ne1
returns-then-r-ne1 c = λ e. absurd (unlike (sym e ∙ c.unknown.ensures))

pub returns-then-get_unit-r : goal.returns-then-get_unit-r
returns-then-get_unit-r c = let a = c.args in let xs = a.array.now in let q = c.leaves.ensures in λ e u k w. let t = array_read a.d a.r xs u a.key k w c.requires (let s = c.if-r-ne1.false in omega (arith, s)) c.if-key-eq0.true _ c.get_unit.ensures.0 c.if-get_unit-r.true in ((λ i. good (q i).key (q i).rest w) ∙ t.0, t.1)

pub returns-then-key-eq0 : goal.returns-then-key-eq0
returns-then-key-eq0 c = λ e. absurd (unlike (sym e ∙ c.unknown-then-key-eq0.ensures))

pub returns-then-key-r : goal.returns-then-key-r
returns-then-key-r c = let a = c.args in let xs = a.array.now in let q = c.leaves-then-key-r.ensures in λ e u k w. let t = status_read a.d a.r xs u a.key k w c.requires (let s = c.if-r-ne1.false in omega (arith, s)) c.if-key-eq1.true c.if-key-r.true in ((λ i. good (q i).key (q i).rest w) ∙ t.0, t.1)

pub returns : goal.returns
returns c = λ e. absurd (unlike (sym e ∙ c.unknown-2.ensures))
