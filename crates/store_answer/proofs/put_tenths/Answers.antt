-- `store_answer::put_tenths` meets its contract.
use mathlib.Core.Path.{ap, ◌∙◌}
use lib.Ieee.{Float, binary64, of_int}
use mir.Syntax.{w16}
use mir.ValLaws.{to_z-of_z}
use Rattle.text.specs.Writing.{laid_at, behind}
use Rattle.reading_print.specs.Texts.{temperature_text}
use Rattle.store_answer.proofs.put_tenths.Goals as goal

pub returns : goal.returns
returns c =
    let a = c.args in
    let p = c.put_temperature in
    let e = ap (of_int binary64) (to_z-of_z w16 c.tenths-t.result (record { sfits = c.tenths-t.type_inv }) ∙ c.tenths-t.ensures) in
    record { result = p.ensures.result ∙ ap (λ (z : Float). behind a.out.now a.at (temperature_text z)) e; out_left = p.ensures.out_left ∙ ap (λ (z : Float). laid_at a.out.now a.at (temperature_text z)) e }
