-- `reading_print::put_knot` meets its contract.
use Rattle.std.proofs.Common.{◌≡◌, ℕ, List, [], ◌∷◌, ◌++◌, ap, ◌∙◌, subst, ap₂, w16, w32, to_z, of_z}
use mir.ValLaws.{to_z-of_z}
use Rattle.text.proofs.Laying.{Laid, laid_first, laid_more}
use Rattle.reading_print.specs.Texts.{signed_text, number_text, knot_text}
use Rattle.reading_print.proofs.Signed.{wider}
use Rattle.reading_print.proofs.put_knot.Goals as goal

pub overflow_cast-t : goal.overflow_cast-t
overflow_cast-t c = wider c.args.tenths c.ranges.tenths

pub returns : goal.returns
returns c =
    let out = c.args.out.now in
    let at = c.args.at in
    let p = c.put_signed-a in
    let q = c.put_text-b in
    let r = c.put_signed-c in
    let t = c.put_text in
    let A : List ℕ = signed_text c.negative.result c.size.result in
    let B : List ℕ = signed_text c.negative-2.result c.size-2.result in
    let f₁ = laid_first out A p.new.out at p.result p.ensures.result p.ensures.out_left in
    let f₂ = laid_more out A (32 ∷ []) p.new.out q.new.out at p.result q.result f₁ q.ensures.result q.ensures.out_left in
    let f₃ = laid_more out (A ++ (32 ∷ [])) B q.new.out r.new.out at q.result r.result f₂ r.ensures.result r.ensures.out_left in
    let f₄ = laid_more out ((A ++ (32 ∷ [])) ++ B) (10 ∷ []) r.new.out t.new.out at r.result t.result f₃ t.ensures.result t.ensures.out_left in
    let a : A ≡ number_text c.args.volts = ap₂ signed_text c.negative.ensures c.size.ensures ∙ ap number_text (to_z-of_z w32 c.args.volts c.ranges.volts) in
    let b : B ≡ number_text c.args.tenths = ap₂ signed_text c.negative-2.ensures c.size-2.ensures ∙ ap number_text (to_z-of_z w32 (to_z w16 (of_z w16 c.args.tenths)) (wider c.args.tenths c.ranges.tenths) ∙ to_z-of_z w16 c.args.tenths c.ranges.tenths) in
    let g : Laid out at (knot_text c.args.volts c.args.tenths) t.new.out t.result = subst (λ (z : List ℕ). Laid out at z t.new.out t.result) (λ j. ((a j ++ (32 ∷ [])) ++ b j) ++ (10 ∷ [])) f₄ in
    record { result = g.place; out_left = g.bytes }
