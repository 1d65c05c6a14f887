use Rattle.units.specs.Units.{units}
use mathlib.Core.Path.{◌≡◌, ap, refl, sym, ◌∙◌}
use mathlib.Core.List.{List}
use Prim.Native.Nat.{ℕ}
use Rattle.model_types.specs.declared.Decision.{Decision}
use Rattle.model_types.specs.declared.Effect.TheVariants.{Nothing}
use Rattle.model_types.specs.declared.Reply.TheVariants.{GivesArray}
use Rattle.model_rules.specs.Cycles.{decided_as}
use Rattle.model_rules.specs.Inner.{decide_judged}
use Rattle.model_rules.proofs.Passing.{shows}
use Rattle.model.specs.Arrays.{seen_of}
use Rattle.model.specs.Inner.{done_of, array_judged, answer_judged}
use Rattle.model.proofs.Told.{judged_too}
use Rattle.model.proofs.after_judging.Goals as goal

pub returns-then-asks_array : goal.returns-then-asks_array
unfolding answer_judged array_judged
returns-then-asks_array c =
    let a = c.args in
    let xs = units a.d.part.word a.array.now in
    let rs = units a.d.part.word a.residue.now in
    let e : decide_judged a.d a.s a.c ≡ decided_as (GivesArray a.c.address) a.s Nothing =
    shows a.d a.s a.c (sym c.asks_array.ensures ∙ c.if-asks_array.true) in
    let both = judged_too a.d a.s a.c xs rs
    (c.show.ensures ∙ sym (ap (λ (x : Decision). record { seen = seen_of x.reply (done_of x.effect a.d.part rs xs); state = x.state }) e))
    (sym (ap (λ (x : Decision). done_of x.effect a.d.part rs xs) e)) in record { result = both.0; told = both.1.0; array_left = both.1.1; array_spare = refl }

pub returns : goal.returns
unfolding answer_judged array_judged
returns c =
    let a = c.args in
    let xs = units a.d.part.word a.array.now in
    let rs = units a.d.part.word a.residue.now in
    let put = c.put in
    let decided = c.decide_judged-x in
    let x : Decision = decide_judged a.d a.s a.c in
    let e : decided.result ≡ x = decided.ensures in
    let left : units a.d.part.word put.new.array ≡ done_of x.effect a.d.part rs xs = put.ensures.array_left ∙ ap (λ (y : Decision). done_of y.effect a.d.part rs xs) e in
    let p : c.see-seen.result ≡ seen_of x.reply (done_of x.effect a.d.part rs xs) =
    c.see-seen.ensures.result ∙ ap (λ (y : Decision). seen_of y.reply (units a.d.part.word put.new.array)) e ∙ ap (λ (ys : List ℕ). seen_of x.reply ys) left in
    let q : decided.result.state ≡ x.state = ap (λ (y : Decision). y.state) e in
    let both = judged_too a.d a.s a.c xs rs (λ i. record { seen = p i; state = q i }) left in record { result = both.0; told = both.1.0; array_left = both.1.1; array_spare = put.ensures.array_spare }
