-- `recording_answer::put_why` meets its contract.
use mathlib.Core.Path.{◌≡◌, sym, ap, ◌∙◌}
use mathlib.Core.List.{List}
use Prim.Native.Nat.{ℕ}
use borrow.Author.Tests.{eq-eqb, ne_eqb}
use Rattle.text.specs.Writing.{bytes, laid_at, behind}
use Rattle.recording_answer.specs.Lines.{around, seen_text, why_text}
use Rattle.recording_answer.proofs.put_why.Goals as goal

pub returns-then-kind-eq1 : goal.returns-then-kind-eq1
unfolding why_text
returns-then-kind-eq1 c =
    let a = c.args in
    let xs = a.out.now in
    let p = c.put_around in
    let e : why_text a.heard a.w ≡ around (bytes "the count ") a.w.value (bytes " is not 1 to 65535\n") = simp (eq-eqb _ _ c.if-kind-eq1.true) in
    record { result = p.ensures.result ∙ ap (λ (z : List ℕ). behind xs a.at z) (sym e); out_left = p.ensures.out_left ∙ ap (λ (z : List ℕ). laid_at xs a.at z) (sym e) }

pub returns-then-kind-eq2 : goal.returns-then-kind-eq2
unfolding why_text
returns-then-kind-eq2 c =
    let a = c.args in
    let xs = a.out.now in
    let p = c.put_text in
    let e : why_text a.heard a.w ≡ bytes "an operation is cut\n" = simp (ne_eqb _ _ c.if-kind-eq1.false, eq-eqb _ _ c.if-kind-eq2.true) in
    record { result = p.ensures.result ∙ ap (λ (z : List ℕ). behind xs a.at z) (sym e); out_left = p.ensures.out_left ∙ ap (λ (z : List ℕ). laid_at xs a.at z) (sym e) }

pub returns : goal.returns
unfolding why_text
returns c =
    let a = c.args in
    let xs = a.out.now in
    let p = c.put_seen in
    let e : why_text a.heard a.w ≡ seen_text a.heard a.w.kind a.w.value = simp (ne_eqb _ _ c.if-kind-eq1.false, ne_eqb _ _ c.if-kind-eq2.false) in
    record { result = p.ensures.result ∙ ap (λ (z : List ℕ). behind xs a.at z) (sym e); out_left = p.ensures.out_left ∙ ap (λ (z : List ℕ). laid_at xs a.at z) (sym e) }
