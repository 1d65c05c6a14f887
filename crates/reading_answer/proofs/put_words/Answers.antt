-- `reading_answer::put_words` meets its contract.
use mathlib.Core.Path.{◌≡◌, sym, ap, ◌∙◌}
use mathlib.Core.List.{List}
use Prim.Native.Nat.{ℕ}
use borrow.Author.Tests.{eq-eqb, ne_eqb}
use Rattle.text.specs.Writing.{bytes, laid_at, behind}
use Rattle.refusal_words.specs.Words.{file_words}
use Rattle.reading_answer.specs.Lines.{read_words}
use Rattle.reading_answer.proofs.put_words.Goals as goal

pub returns-then-n-eq30 : goal.returns-then-n-eq30
unfolding read_words
returns-then-n-eq30 c =
    let a = c.args in
    let p = c.put_text in
    let e : read_words a.n ≡ bytes "the file's length is wrong\n" = simp (eq-eqb _ _ c.if-n-eq30.true) in
    record { result = p.ensures.result ∙ ap (λ (z : List ℕ). behind a.out.now a.at z) (sym e); out_left = p.ensures.out_left ∙ ap (λ (z : List ℕ). laid_at a.out.now a.at z) (sym e) }

pub returns-then-n-eq37 : goal.returns-then-n-eq37
unfolding read_words
returns-then-n-eq37 c =
    let a = c.args in
    let p = c.put_text-then-n-eq37 in
    let e : read_words a.n ≡ bytes "there is no room for the payload\n" = simp (eq-eqb _ _ c.if-n-eq37.true, ne_eqb _ _ c.if-n-eq30.false) in
    record { result = p.ensures.result ∙ ap (λ (z : List ℕ). behind a.out.now a.at z) (sym e); out_left = p.ensures.out_left ∙ ap (λ (z : List ℕ). laid_at a.out.now a.at z) (sym e) }

pub returns-then-n-eq40 : goal.returns-then-n-eq40
unfolding read_words
returns-then-n-eq40 c =
    let a = c.args in
    let p = c.put_text-then-n-eq40 in
    let e : read_words a.n ≡ bytes "the payload is no whole number of knots, or too few\n" = simp (eq-eqb _ _ c.if-n-eq40.true, ne_eqb _ _ c.if-n-eq37.false, ne_eqb _ _ c.if-n-eq30.false) in
    record { result = p.ensures.result ∙ ap (λ (z : List ℕ). behind a.out.now a.at z) (sym e); out_left = p.ensures.out_left ∙ ap (λ (z : List ℕ). laid_at a.out.now a.at z) (sym e) }

pub returns-then-n-eq41 : goal.returns-then-n-eq41
unfolding read_words
returns-then-n-eq41 c =
    let a = c.args in
    let p = c.put_text-then-n-eq41 in
    let e : read_words a.n ≡ bytes "the microvolts are out of range or do not rise\n" = simp (eq-eqb _ _ c.if-n-eq41.true, ne_eqb _ _ c.if-n-eq40.false, ne_eqb _ _ c.if-n-eq37.false, ne_eqb _ _ c.if-n-eq30.false) in
    record { result = p.ensures.result ∙ ap (λ (z : List ℕ). behind a.out.now a.at z) (sym e); out_left = p.ensures.out_left ∙ ap (λ (z : List ℕ). laid_at a.out.now a.at z) (sym e) }

pub returns : goal.returns
unfolding read_words
returns c =
    let a = c.args in
    let p = c.put_file_words in
    let e : read_words a.n ≡ file_words a.n = simp (ne_eqb _ _ c.if-n-eq41.false, ne_eqb _ _ c.if-n-eq40.false, ne_eqb _ _ c.if-n-eq37.false, ne_eqb _ _ c.if-n-eq30.false) in
    record { result = p.ensures.result ∙ ap (λ (z : List ℕ). behind a.out.now a.at z) (sym e); out_left = p.ensures.out_left ∙ ap (λ (z : List ℕ). laid_at a.out.now a.at z) (sym e) }
