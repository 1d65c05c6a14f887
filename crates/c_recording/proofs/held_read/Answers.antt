-- `c_recording::held_read` meets its contract.
use mathlib.Core.Path.{sym, ap, ◌∙◌}
use native.Mathlib.Omega.{arith}
use Rattle.common.proofs.Choice.{unlike}
use Rattle.c_recording.specs.Known.{good}
use Prim.Native.Nat.{◌/◌}
use Rattle.device.specs.declared.Part.{Part}
use Rattle.device.specs.Parts.{block_of}
use Rattle.c_recording.proofs.Holding.{other_block}
use Rattle.c_recording.proofs.held_read.Goals as goal

pub returns-then-r-ne1 : goal.returns-then-r-ne1
returns-then-r-ne1 c = λ e. absurd (unlike (sym e ∙ c.unknown.ensures))

pub returns-then-key-eq1 : goal.returns-then-key-eq1
returns-then-key-eq1 c = λ e. absurd (unlike (sym e ∙ c.unknown-then-key-eq1.ensures))

pub returns-then-block_of : goal.returns-then-block_of
returns-then-block_of c = λ e. absurd (unlike (sym e ∙ c.unknown-then-block_of.ensures))

pub returns-then-get_unit-r : goal.returns-then-get_unit-r
returns-then-get_unit-r c = let a = c.args in let q = c.leaves.ensures in let s = c.if-r-ne1.false in let k = c.requires.1 in λ e u i w. let t = other_block a.d a.r a.array.now u a.key a.rest c.requires.0 i w (omega (arith, s)) (omega (arith, k)) (omega (arith, s)) k c.if-key-eq1.false c.block_of.result c.block_of-2.result (c.block_of.ensures ∙ ap (λ (x : Part). block_of x a.r.bus.address) c.part_in-part.ensures) (c.block_of-2.ensures ∙ ap (λ (x : Part). block_of x (a.rest / 4294967296)) c.part_in-part.ensures) c.if-block_of.false _ c.get_unit.ensures.0 c.if-get_unit-r.true in ((λ j. good (q j).key (q j).rest w) ∙ t.0, t.1)

pub returns : goal.returns
returns c = λ e. absurd (unlike (sym e ∙ c.unknown-2.ensures))
