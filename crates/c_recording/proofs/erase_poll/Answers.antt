-- `c_recording::erase_poll` meets its contract.
use mathlib.Core.Path.{sym, ◌∙◌}
use native.Mathlib.Omega.{arith}
use Rattle.common.proofs.Choice.{unlike}
use Rattle.c_recording.specs.Known.{good}
use Rattle.c_recording.proofs.Lasting.{goes_on}
use borrow.Author.Rules.{rules}
use Rattle.c_recording.proofs.erase_poll.Goals as goal

pub returns-then-r-ne1 : goal.returns-then-r-ne1
returns-then-r-ne1 c = λ e. absurd (unlike (sym e ∙ c.unknown.ensures))

pub overflow_sub-rest : goal.overflow_sub-rest
overflow_sub-rest c = let h = c.requires.0.more in search rules

pub returns-then-key-r : goal.returns-then-key-r
returns-then-key-r c = let a = c.args in let q = c.leaves.ensures in let s = c.if-r-ne1.false in let k = c.requires.1 in λ e xs u i w. let t = goes_on a.d a.r xs u a.key a.rest c.requires.0 i w (omega (arith, s)) (omega (arith, k)) (omega (arith, s)) k c.if-key-r.true in ((λ j. good (q j).key (q j).rest w) ∙ t.0, t.1)

pub returns : goal.returns
returns c = λ e. absurd (unlike (sym e ∙ c.unknown-2.ensures))
