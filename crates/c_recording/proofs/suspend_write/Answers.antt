-- `c_recording::suspend_write` meets its contract.
use mathlib.Core.Path.{refl, sym, ◌∙◌}
use native.Mathlib.Omega.{arith}
use Rattle.common.proofs.Choice.{unlike}
use Rattle.c_recording.specs.Known.{good}
use Rattle.c_recording.proofs.Lasting.{is_held}
use borrow.Author.Rules.{rules}
use Rattle.c_recording.proofs.suspend_write.Goals as goal

pub returns-then-r-ne0 : goal.returns-then-r-ne0
returns-then-r-ne0 c = λ e. absurd (unlike (sym e ∙ c.unknown.ensures))

pub overflow_add-key : goal.overflow_add-key
overflow_add-key c = let h = c.requires.0.phase in record { fits = omega (arith, h) }

pub overflow_add-key-then-r-eq176 : goal.overflow_add-key-then-r-eq176
overflow_add-key-then-r-eq176 c = let h = c.requires.0.phase in let k = c.struct_known-then-r-eq176-1.given in search rules

pub overflow_sub-rest : goal.overflow_sub-rest
overflow_sub-rest c = let h = c.requires.0.more in search rules

pub returns-then-r-eq176 : goal.returns-then-r-eq176
returns-then-r-eq176 c = let a = c.args in let q = c.leaves.ensures in let s = c.if-r-ne0.false in let k = c.requires.1 in λ e xs u i w. let t = is_held a.d a.r xs u a.key a.rest c.requires.0 i w (omega (arith, s)) (omega (arith, k)) (omega (arith, s)) k c.if-r-eq176.true _ refl in ((λ j. good (q j).key (q j).rest w) ∙ t.0, t.1)

pub returns : goal.returns
returns c = λ e. absurd (unlike (sym e ∙ c.unknown-2.ensures))
