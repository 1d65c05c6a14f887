-- `recording_answer::put_array` meets its contract.
use mathlib.Core.Path.{◌≡◌, sym, ap, ◌∙◌}
use mathlib.Core.List.{List}
use Prim.Native.Nat.{ℕ}
use lib.ListN.{length}
use borrow.Author.Tests.{eq-eqb, ne_eqb}
use Rattle.text.specs.Writing.{laid_at, behind}
use Rattle.recording_answer.specs.Lines.{place_text, lengths_text, array_text}
use Rattle.recording_answer.proofs.put_array.Goals as goal

pub returns-then-n-m : goal.returns-then-n-m
unfolding array_text
returns-then-n-m c =
    let a = c.args in
    let xs = a.out.now in
    let P = a.promised.now in
    let A = a.array.now in
    let p = c.put_place in
    let e : place_text c.apart_at-v.result (length A) ≡ array_text P A =
    ap (λ (v : ℕ). place_text v (length A)) c.apart_at-v.ensures ∙ sym (simp (eq-eqb _ _ c.if-n-m.true)) in
    record { result = p.ensures.result ∙ ap (λ (z : List ℕ). behind xs a.at z) e; out_left = p.ensures.out_left ∙ ap (λ (z : List ℕ). laid_at xs a.at z) e }

pub returns : goal.returns
unfolding array_text
returns c =
    let a = c.args in
    let xs = a.out.now in
    let p = c.put_lengths in
    let e : array_text a.promised.now a.array.now ≡ lengths_text (length a.promised.now) (length a.array.now) = simp (ne_eqb _ _ c.if-n-m.false) in
    record { result = p.ensures.result ∙ ap (λ (z : List ℕ). behind xs a.at z) (sym e); out_left = p.ensures.out_left ∙ ap (λ (z : List ℕ). laid_at xs a.at z) (sym e) }
