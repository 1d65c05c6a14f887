-- `c_recording::more_poll` meets its contract.
use Rattle.c_recording.specs.Known.{good}
use mathlib.Core.Path.{sym, ◌∙◌}
use native.Mathlib.Omega.{arith}
use Rattle.common.proofs.Choice.{unlike}
use Rattle.c_recording.proofs.Moving.{poll_more_lem}
use borrow.Author.Rules.{rules}
use Rattle.c_recording.proofs.more_poll.Goals as goal

pub returns-then-rest-eq0 : goal.returns-then-rest-eq0
returns-then-rest-eq0 c = λ e. absurd (unlike (sym e ∙ c.unknown.ensures))

pub overflow_sub-rest : goal.overflow_sub-rest
overflow_sub-rest c = let h = c.if-rest-eq0.false in search rules

pub returns-then-key-r : goal.returns-then-key-r
returns-then-key-r c = let a = c.args in let q = c.leaves.ensures in λ e xs u i w. let z = c.if-rest-eq0.false in let o = c.requires.1 in let t = poll_more_lem a.d a.r xs u a.key a.rest c.requires.0 i (omega (arith, z)) w (omega (arith, z, o)) c.if-key-r.true in ((λ i. good (q i).key (q i).rest w) ∙ t.0, t.1)

pub returns : goal.returns
returns c = λ e. absurd (unlike (sym e ∙ c.unknown-2.ensures))
