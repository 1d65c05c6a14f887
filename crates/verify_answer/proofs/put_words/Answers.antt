-- `verify_answer::put_words` meets its contract.
use mathlib.Core.Path.{◌≡◌, sym, ap, ◌∙◌}
use mathlib.Core.List.{List}
use Prim.Native.Nat.{ℕ}
use borrow.Author.Tests.{eq-eqb, ne_eqb}
use Rattle.text.specs.Writing.{bytes, laid_at, behind}
use Rattle.refusal_words.specs.Words.{file_words}
use Rattle.verify_answer.specs.Answers.{verify_words}
use Rattle.verify_answer.proofs.put_words.Goals as goal

pub returns-then-n-eq1 : goal.returns-then-n-eq1
unfolding verify_words
returns-then-n-eq1 c =
    let a = c.args in
    let p = c.put_text in
    let e : verify_words a.n ≡ bytes "there is no such device, or it has no word mode\n" = simp (eq-eqb _ _ c.if-n-eq1.true) in
    record { result = p.ensures.result ∙ ap (λ (z : List ℕ). behind a.out.now a.at z) (sym e); out_left = p.ensures.out_left ∙ ap (λ (z : List ℕ). laid_at a.out.now a.at z) (sym e) }

pub returns-then-n-eq2 : goal.returns-then-n-eq2
unfolding verify_words
returns-then-n-eq2 c =
    let a = c.args in
    let p = c.put_text-then-n-eq2 in
    let e : verify_words a.n ≡ bytes "the image is not as long as the part\n" = simp (eq-eqb _ _ c.if-n-eq2.true, ne_eqb _ _ c.if-n-eq1.false) in
    record { result = p.ensures.result ∙ ap (λ (z : List ℕ). behind a.out.now a.at z) (sym e); out_left = p.ensures.out_left ∙ ap (λ (z : List ℕ). laid_at a.out.now a.at z) (sym e) }

pub returns-then-n-eq10 : goal.returns-then-n-eq10
unfolding verify_words
returns-then-n-eq10 c =
    let a = c.args in
    let p = c.put_text-then-n-eq10 in
    let e : verify_words a.n ≡ bytes "there is no such block\n" = simp (eq-eqb _ _ c.if-n-eq10.true, ne_eqb _ _ c.if-n-eq2.false, ne_eqb _ _ c.if-n-eq1.false) in
    record { result = p.ensures.result ∙ ap (λ (z : List ℕ). behind a.out.now a.at z) (sym e); out_left = p.ensures.out_left ∙ ap (λ (z : List ℕ). laid_at a.out.now a.at z) (sym e) }

pub returns-then-n-eq30 : goal.returns-then-n-eq30
unfolding verify_words
returns-then-n-eq30 c =
    let a = c.args in
    let p = c.put_text-then-n-eq30 in
    let e : verify_words a.n ≡ bytes "the file's length is wrong, or it is longer than the block\n" = simp (eq-eqb _ _ c.if-n-eq30.true, ne_eqb _ _ c.if-n-eq10.false, ne_eqb _ _ c.if-n-eq2.false, ne_eqb _ _ c.if-n-eq1.false) in
    record { result = p.ensures.result ∙ ap (λ (z : List ℕ). behind a.out.now a.at z) (sym e); out_left = p.ensures.out_left ∙ ap (λ (z : List ℕ). laid_at a.out.now a.at z) (sym e) }

pub returns : goal.returns
unfolding verify_words
returns c =
    let a = c.args in
    let p = c.put_file_words in
    let e : verify_words a.n ≡ file_words a.n = simp (ne_eqb _ _ c.if-n-eq30.false, ne_eqb _ _ c.if-n-eq10.false, ne_eqb _ _ c.if-n-eq2.false, ne_eqb _ _ c.if-n-eq1.false) in
    record { result = p.ensures.result ∙ ap (λ (z : List ℕ). behind a.out.now a.at z) (sym e); out_left = p.ensures.out_left ∙ ap (λ (z : List ℕ). laid_at a.out.now a.at z) (sym e) }
