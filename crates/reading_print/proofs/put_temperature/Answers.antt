-- `reading_print::put_temperature` meets its contract.
use Rattle.std.proofs.Common.{ℕ, ◌+◌, ◌/◌, ◌%◌, Bool, List, [], ◌∷◌, ◌++◌, subst, ap₂}
use Rattle.text.proofs.Laying.{Laid, laid_first, laid_more}
use Rattle.reading_print.specs.Texts.{signed_text, temperature_text}
use Rattle.reading_print.proofs.put_temperature.Goals as goal

pub returns : goal.returns
returns c =
    let out = c.args.out.now in
    let at = c.args.at in
    let p = c.put_signed-a in
    let q = c.put_text-b in
    let t = c.put_text in
    let n = c.tenths_shown-n.result in
    let A : List ℕ = signed_text c.is_under.result (n / 10) in
    let f₁ = laid_first out A p.new.out at p.result p.ensures.result p.ensures.out_left in
    let f₂ = laid_more out A (46 ∷ []) p.new.out q.new.out at p.result q.result f₁ q.ensures.result q.ensures.out_left in
    let f₃ = laid_more out (A ++ (46 ∷ [])) ((48 + n % 10) ∷ []) q.new.out t.new.out at q.result t.result f₂ t.ensures.result t.ensures.out_left in
    let g : Laid out at (temperature_text c.args.t) t.new.out t.result =
    subst (λ (z : List ℕ). Laid out at z t.new.out t.result) (ap₂ (λ (b : Bool) (m : ℕ). (signed_text b (m / 10) ++ (46 ∷ [])) ++ ((48 + m % 10) ∷ [])) c.is_under.ensures c.tenths_shown-n.ensures) f₃
    in
    record { result = g.place; out_left = g.bytes }
