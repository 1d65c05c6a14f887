-- `c_recording::rest_write` meets its contract.
use mathlib.Core.Path.{sym, ◌∙◌}
use native.Mathlib.Omega.{arith}
use Rattle.common.proofs.Choice.{unlike}
use Rattle.c_recording.specs.Known.{good}
use Rattle.c_recording.proofs.Moving.{commanded}
use Rattle.c_recording.proofs.rest_write.Goals as goal

pub returns-then-r-ne0 : goal.returns-then-r-ne0
returns-then-r-ne0 c = λ e. absurd (unlike (sym e ∙ c.unknown.ensures))

pub returns-then-set : goal.returns-then-set
returns-then-set c = let a = c.args in
    let q = c.leaves.ensures in
    let j = c.joined.ensures in
    λ e xs u k w.
    let t = commanded a.d a.r xs u a.key k w (let s = c.if-r-ne0.false in omega (arith, s)) c.command_by-set.result c.command_by-set.ensures c.if-set.true c.joined.result j.0 j.1 j.2 j.3 in
    ((λ i. good (q i).key (q i).rest w) ∙ t.0, t.1)

pub returns : goal.returns
returns c = λ e. absurd (unlike (sym e ∙ c.unknown-2.ensures))
