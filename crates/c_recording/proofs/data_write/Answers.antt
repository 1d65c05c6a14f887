-- `c_recording::data_write` meets its contract.
use Rattle.c_recording.specs.Known.{good}
use mathlib.Core.Path.{refl, sym, ap, ◌∙◌}
use native.Mathlib.Omega.{arith}
use Rattle.common.proofs.Choice.{unlike}
use Rattle.c_recording.proofs.Moving.{data_started}
use Rattle.device.specs.declared.Part.{Part}
use Rattle.device.specs.Parts.{block_of}
use Rattle.c_recording.proofs.data_write.Goals as goal

pub returns-then-r-ne1 : goal.returns-then-r-ne1
returns-then-r-ne1 c = λ e. absurd (unlike (sym e ∙ c.unknown.ensures))

pub returns-then-r-ne0 : goal.returns-then-r-ne0
returns-then-r-ne0 c = λ e. absurd (unlike (sym e ∙ c.unknown-then-r-ne0.ensures))

pub returns-then-r-eq0 : goal.returns-then-r-eq0
returns-then-r-eq0 c = λ e. absurd (unlike (sym e ∙ c.unknown-then-r-eq0.ensures))

pub returns-then-r-gt65535 : goal.returns-then-r-gt65535
returns-then-r-gt65535 c = λ e. absurd (unlike (sym e ∙ c.unknown-then-r-gt65535.ensures))

pub returns-then-key-ne0 : goal.returns-then-key-ne0
returns-then-key-ne0 c = λ e. absurd (unlike (sym e ∙ c.unknown-then-key-ne0.ensures))

pub returns-then-block_of-eq0 : goal.returns-then-block_of-eq0
returns-then-block_of-eq0 c = λ e. absurd (unlike (sym e ∙ c.unknown-then-block_of-eq0.ensures))

pub overflow_add-key : goal.overflow_add-key
overflow_add-key c = let h = c.requires.1 in record { fits = omega (arith, h) }

pub returns-then-is_high : goal.returns-then-is_high
returns-then-is_high c = let a = c.args in let q = c.leaves.ensures in λ e xs u w. let t = data_started a.d a.r xs u a.key c.requires w (let s = c.if-r-ne1.false in omega (arith, s)) (let s = c.if-r-ne0.false in omega (arith, s)) c.if-r-eq0.false (let s = c.if-r-gt65535.false in omega (arith, s)) (let s = c.if-key-ne0.false in omega (arith, s)) (c.is_high.ensures c.if-is_high.true) c.block_of.result (c.block_of.ensures ∙ ap (λ (x : Part). block_of x a.r.bus.address) c.part_in-part.ensures) c.if-block_of-eq0.false c.carry-unit.result c.carry-unit.type_inv c.carry-unit.ensures _ _ refl refl in ((λ i. good (q i).key (q i).rest w) ∙ t.0, t.1)

pub returns : goal.returns
returns c = λ e. absurd (unlike (sym e ∙ c.unknown-2.ensures))
