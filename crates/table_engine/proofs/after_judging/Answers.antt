use Rattle.units.specs.Units.{units}
use mathlib.Core.Path.{◌≡◌, ap, ◌∙◌}
use mathlib.Core.List.{List}
use Prim.Native.Nat.{ℕ}
use Rattle.model_types.specs.declared.Decision.{Decision}
use Rattle.model_rules.specs.Inner.{decide_judged}
use Rattle.model.specs.Arrays.{seen_of}
use Rattle.model.specs.Inner.{done_of, array_judged, answer_judged}
use Rattle.table_engine.proofs.after_judging.Goals as goal

pub returns : goal.returns
unfolding answer_judged array_judged
returns c =
    let a = c.args in
    let xs = units a.d.part.word a.array.now in
    let rs = units a.d.part.word a.residue.now in
    let put = c.put in
    let decided = c.decide_judged-x in
    let x : Decision = decide_judged a.d a.s a.c in
    let e : decided.result ≡ x = decided.ensures in
    let left : units a.d.part.word put.new.array ≡ done_of x.effect a.d.part rs xs = put.ensures.array_left ∙ ap (λ (y : Decision). done_of y.effect a.d.part rs xs) e in
    let p : c.see-seen.result ≡ seen_of x.reply (done_of x.effect a.d.part rs xs) =
    c.see-seen.ensures.result ∙ ap (λ (y : Decision). seen_of y.reply (units a.d.part.word put.new.array)) e ∙ ap (λ (ys : List ℕ). seen_of x.reply ys) left in
    let q : decided.result.state ≡ x.state = ap (λ (y : Decision). y.state) e in
    record { result = λ i. record { seen = p i; state = q i }; array_left = left; array_spare = put.ensures.array_spare }
