-- `verify_answer::put_end` meets its contract.
use mathlib.Core.Path.{◌≡◌, sym, ap, ◌∙◌}
use mathlib.Core.List.{List}
use Prim.Native.Nat.{ℕ}
use borrow.Author.Tests.{eq-eqb, ne_eqb}
use Rattle.text.specs.Writing.{bytes, laid_at, behind}
use Rattle.verify_answer.specs.Answers.{refused_line, differs_text, end_text}
use Rattle.verify_answer.proofs.put_end.Goals as goal

pub returns-then-end-eq0 : goal.returns-then-end-eq0
unfolding end_text
returns-then-end-eq0 c =
    let a = c.args in
    let p = c.put_text in
    let e : end_text a.end a.address ≡ bytes "the block holds the file\n" = simp (eq-eqb _ _ c.if-end-eq0.true) in
    record { result = p.ensures.result ∙ ap (λ (z : List ℕ). behind a.out.now 0 z) (sym e); out_left = p.ensures.out_left ∙ ap (λ (z : List ℕ). laid_at a.out.now 0 z) (sym e) }

pub returns-then-end-eq25 : goal.returns-then-end-eq25
unfolding end_text
returns-then-end-eq25 c =
    let a = c.args in
    let p = c.put_differs in
    let e : end_text a.end a.address ≡ differs_text a.address = simp (eq-eqb _ _ c.if-end-eq25.true, ne_eqb _ _ c.if-end-eq0.false) in
    record { result = p.ensures.result ∙ ap (λ (z : List ℕ). behind a.out.now 0 z) (sym e); out_left = p.ensures.out_left ∙ ap (λ (z : List ℕ). laid_at a.out.now 0 z) (sym e) }

pub returns : goal.returns
unfolding end_text
returns c =
    let a = c.args in
    let p = c.put_refusal in
    let e : end_text a.end a.address ≡ refused_line a.end = simp (ne_eqb _ _ c.if-end-eq25.false, ne_eqb _ _ c.if-end-eq0.false) in
    record { result = p.ensures.result ∙ ap (λ (z : List ℕ). behind a.out.now 0 z) (sym e); out_left = p.ensures.out_left ∙ ap (λ (z : List ℕ). laid_at a.out.now 0 z) (sym e) }
