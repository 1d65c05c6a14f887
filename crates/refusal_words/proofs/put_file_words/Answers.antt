-- `refusal_words::put_file_words` meets its contract.
use mathlib.Core.Path.{◌≡◌, sym, ap, ◌∙◌}
use mathlib.Core.List.{List}
use Prim.Native.Nat.{ℕ}
use borrow.Author.Tests.{eq-eqb, ne_eqb}
use Rattle.text.specs.Writing.{bytes, laid_at, behind}
use Rattle.refusal_words.specs.Words.{file_words}
use Rattle.refusal_words.proofs.put_file_words.Goals as goal

pub returns-then-n-eq31 : goal.returns-then-n-eq31
unfolding file_words
returns-then-n-eq31 c =
    let a = c.args in
    let p = c.put_text in
    let e : file_words a.n ≡ bytes "a block's check is wrong\n" = simp (eq-eqb _ _ c.if-n-eq31.true) in
    record { result = p.ensures.result ∙ ap (λ (z : List ℕ). behind a.out.now a.at z) (sym e); out_left = p.ensures.out_left ∙ ap (λ (z : List ℕ). laid_at a.out.now a.at z) (sym e) }

pub returns-then-n-eq32 : goal.returns-then-n-eq32
unfolding file_words
returns-then-n-eq32 c =
    let a = c.args in
    let p = c.put_text-then-n-eq32 in
    let e : file_words a.n ≡ bytes "a block's letter is none, or not the first block's\n" = simp (eq-eqb _ _ c.if-n-eq32.true, ne_eqb _ _ c.if-n-eq31.false) in
    record { result = p.ensures.result ∙ ap (λ (z : List ℕ). behind a.out.now a.at z) (sym e); out_left = p.ensures.out_left ∙ ap (λ (z : List ℕ). laid_at a.out.now a.at z) (sym e) }

pub returns-then-n-eq33 : goal.returns-then-n-eq33
unfolding file_words
returns-then-n-eq33 c =
    let a = c.args in
    let p = c.put_text-then-n-eq33 in
    let e : file_words a.n ≡ bytes "a block's number or count is wrong\n" = simp (eq-eqb _ _ c.if-n-eq33.true, ne_eqb _ _ c.if-n-eq32.false, ne_eqb _ _ c.if-n-eq31.false) in
    record { result = p.ensures.result ∙ ap (λ (z : List ℕ). behind a.out.now a.at z) (sym e); out_left = p.ensures.out_left ∙ ap (λ (z : List ℕ). laid_at a.out.now a.at z) (sym e) }

pub returns-then-n-eq34 : goal.returns-then-n-eq34
unfolding file_words
returns-then-n-eq34 c =
    let a = c.args in
    let p = c.put_text-then-n-eq34 in
    let e : file_words a.n ≡ bytes "a block's used count or padding is wrong\n" = simp (eq-eqb _ _ c.if-n-eq34.true, ne_eqb _ _ c.if-n-eq33.false, ne_eqb _ _ c.if-n-eq32.false, ne_eqb _ _ c.if-n-eq31.false) in
    record { result = p.ensures.result ∙ ap (λ (z : List ℕ). behind a.out.now a.at z) (sym e); out_left = p.ensures.out_left ∙ ap (λ (z : List ℕ). laid_at a.out.now a.at z) (sym e) }

pub returns-then-n-eq35 : goal.returns-then-n-eq35
unfolding file_words
returns-then-n-eq35 c =
    let a = c.args in
    let p = c.put_text-then-n-eq35 in
    let e : file_words a.n ≡ bytes "the file's letter is not the one asked for\n" = simp (eq-eqb _ _ c.if-n-eq35.true, ne_eqb _ _ c.if-n-eq34.false, ne_eqb _ _ c.if-n-eq33.false, ne_eqb _ _ c.if-n-eq32.false, ne_eqb _ _ c.if-n-eq31.false) in
    record { result = p.ensures.result ∙ ap (λ (z : List ℕ). behind a.out.now a.at z) (sym e); out_left = p.ensures.out_left ∙ ap (λ (z : List ℕ). laid_at a.out.now a.at z) (sym e) }

pub returns-then-n-eq38 : goal.returns-then-n-eq38
unfolding file_words
returns-then-n-eq38 c =
    let a = c.args in
    let p = c.put_text-then-n-eq38 in
    let e : file_words a.n ≡ bytes "a block of the file is blank, not damaged: it was never loaded\n" = simp (eq-eqb _ _ c.if-n-eq38.true, ne_eqb _ _ c.if-n-eq35.false, ne_eqb _ _ c.if-n-eq34.false, ne_eqb _ _ c.if-n-eq33.false, ne_eqb _ _ c.if-n-eq32.false, ne_eqb _ _ c.if-n-eq31.false) in
    record { result = p.ensures.result ∙ ap (λ (z : List ℕ). behind a.out.now a.at z) (sym e); out_left = p.ensures.out_left ∙ ap (λ (z : List ℕ). laid_at a.out.now a.at z) (sym e) }

pub returns : goal.returns
unfolding file_words
returns c =
    let a = c.args in
    let p = c.put_text-2 in
    let e : file_words a.n ≡ bytes "as the list of numbers says\n" = simp (ne_eqb _ _ c.if-n-eq38.false, ne_eqb _ _ c.if-n-eq35.false, ne_eqb _ _ c.if-n-eq34.false, ne_eqb _ _ c.if-n-eq33.false, ne_eqb _ _ c.if-n-eq32.false, ne_eqb _ _ c.if-n-eq31.false) in
    record { result = p.ensures.result ∙ ap (λ (z : List ℕ). behind a.out.now a.at z) (sym e); out_left = p.ensures.out_left ∙ ap (λ (z : List ℕ). laid_at a.out.now a.at z) (sym e) }
