-- `recording_told::put_words` meets its contract.
use mathlib.Core.Path.{◌≡◌, sym, ap, ◌∙◌}
use mathlib.Core.List.{List}
use Prim.Native.Nat.{ℕ}
use borrow.Author.Tests.{eq-eqb, ne_eqb}
use Rattle.text.specs.Writing.{bytes, laid_at, behind}
use Rattle.recording_told.specs.Tellings.{start_words}
use Rattle.recording_told.proofs.put_words.Goals as goal

pub returns-then-n-eq2 : goal.returns-then-n-eq2
unfolding start_words
returns-then-n-eq2 c =
    let a = c.args in
    let xs = a.out.now in
    let p = c.put_text in
    let e : start_words a.n ≡ bytes ": the array at the start is not as long as the part\n" = simp (eq-eqb _ _ c.if-n-eq2.true) in
    record { result = p.ensures.result ∙ ap (λ (z : List ℕ). behind xs a.at z) (sym e); out_left = p.ensures.out_left ∙ ap (λ (z : List ℕ). laid_at xs a.at z) (sym e) }

pub returns : goal.returns
unfolding start_words
returns c =
    let a = c.args in
    let xs = a.out.now in
    let p = c.put_text-2 in
    let e : start_words a.n ≡ bytes ": as the list of numbers says\n" = simp (ne_eqb _ _ c.if-n-eq2.false) in
    record { result = p.ensures.result ∙ ap (λ (z : List ℕ). behind xs a.at z) (sym e); out_left = p.ensures.out_left ∙ ap (λ (z : List ℕ). laid_at xs a.at z) (sym e) }
