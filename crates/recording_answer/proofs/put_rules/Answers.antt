-- `recording_answer::put_rules` meets its contract.
use mathlib.Core.Path.{◌≡◌, sym, ap, ◌∙◌}
use mathlib.Core.List.{List}
use Prim.Native.Nat.{ℕ}
use borrow.Author.Tests.{eq-eqb, ne_eqb}
use Rattle.text.specs.Writing.{bytes, laid_at, behind}
use Rattle.recording_answer.specs.Lines.{around, given_text, rules_text}
use Rattle.recording_answer.proofs.put_rules.Goals as goal

pub returns-then-kind-eq3 : goal.returns-then-kind-eq3
unfolding rules_text
returns-then-kind-eq3 c =
    let a = c.args in
    let xs = a.out.now in
    let p = c.put_around in
    let e : rules_text a.kind a.value ≡ around (bytes "refuse the cycle by number ") a.value (bytes "\n") = simp (eq-eqb _ _ c.if-kind-eq3.true) in
    record { result = p.ensures.result ∙ ap (λ (z : List ℕ). behind xs a.at z) (sym e); out_left = p.ensures.out_left ∙ ap (λ (z : List ℕ). laid_at xs a.at z) (sym e) }

pub returns-then-kind-eq4 : goal.returns-then-kind-eq4
unfolding rules_text
returns-then-kind-eq4 c =
    let a = c.args in
    let xs = a.out.now in
    let p = c.put_text in
    let e : rules_text a.kind a.value ≡ bytes "give N --\n" = simp (ne_eqb _ _ c.if-kind-eq3.false, eq-eqb _ _ c.if-kind-eq4.true) in
    record { result = p.ensures.result ∙ ap (λ (z : List ℕ). behind xs a.at z) (sym e); out_left = p.ensures.out_left ∙ ap (λ (z : List ℕ). laid_at xs a.at z) (sym e) }

pub returns : goal.returns
unfolding rules_text
returns c =
    let a = c.args in
    let xs = a.out.now in
    let p = c.put_given in
    let e : rules_text a.kind a.value ≡ given_text a.value = simp (ne_eqb _ _ c.if-kind-eq3.false, ne_eqb _ _ c.if-kind-eq4.false) in
    record { result = p.ensures.result ∙ ap (λ (z : List ℕ). behind xs a.at z) (sym e); out_left = p.ensures.out_left ∙ ap (λ (z : List ℕ). laid_at xs a.at z) (sym e) }
