-- `c_recording::held_write` meets its contract.
use mathlib.Core.Path.{sym, ◌∙◌}
use native.Mathlib.Omega.{arith}
use Rattle.common.proofs.Choice.{unlike}
use Rattle.c_recording.specs.Known.{good}
use Prim.Native.Nat.{◌-◌, ◌*◌, ◌/◌}
use Rattle.c_recording.proofs.Holding.{to_array, to_erase}
use Rattle.c_recording.proofs.held_write.Goals as goal

pub returns-then-r-ne0 : goal.returns-then-r-ne0
returns-then-r-ne0 c = λ e. absurd (unlike (sym e ∙ c.unknown.ensures))

pub returns-then-r-eq255 : goal.returns-then-r-eq255
returns-then-r-eq255 c = let a = c.args in let q = c.leaves.ensures in let s = c.if-r-ne0.false in let k = c.requires.1 in λ e xs u i w. let t = to_array a.d a.r xs u a.key a.rest c.requires.0 i w (omega (arith, s)) (omega (arith, k)) (omega (arith, s)) k c.if-r-eq255.true in ((λ j. good (q j).key (q j).rest w) ∙ t.0, t.1)

pub returns-then-r-eq208 : goal.returns-then-r-eq208
returns-then-r-eq208 c = let a = c.args in let q = c.leaves-then-r-eq208.ensures in let s = c.if-r-ne0.false in let k = c.requires.1 in let f = c.requires.0.phase in λ e xs u i w. let t = to_erase a.d a.r xs u a.key a.rest c.requires.0 i w (omega (arith, s)) (omega (arith, k)) (omega (arith, s)) k c.if-r-eq208.true (a.key / 256 * 256 - 114687) (omega (arith, f)) in ((λ j. good (q j).key (q j).rest w) ∙ t.0, t.1)

pub returns : goal.returns
returns c = λ e. absurd (unlike (sym e ∙ c.unknown-2.ensures))
