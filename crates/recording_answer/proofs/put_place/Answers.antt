-- `recording_answer::put_place` meets its contract.
use mathlib.Core.Path.{◌≡◌, sym, ap, ◌∙◌}
use mathlib.Core.List.{List}
use Prim.Native.Nat.{ℕ}
use borrow.Author.Tests.{lt-ltb, le-ltb}
use Rattle.text.specs.Writing.{bytes, laid_at, behind}
use Rattle.recording_answer.specs.Lines.{differs_text, place_text}
use Rattle.recording_answer.proofs.put_place.Goals as goal

pub returns-then-v-m : goal.returns-then-v-m
unfolding place_text
returns-then-v-m c =
    let a = c.args in
    let xs = a.out.now in
    let p = c.put_differs in
    let e : place_text a.v a.m ≡ differs_text a.v = simp (lt-ltb _ _ c.if-v-m.true) in
    record { result = p.ensures.result ∙ ap (λ (z : List ℕ). behind xs a.at z) (sym e); out_left = p.ensures.out_left ∙ ap (λ (z : List ℕ). laid_at xs a.at z) (sym e) }

pub returns : goal.returns
unfolding place_text
returns c =
    let a = c.args in
    let xs = a.out.now in
    let p = c.put_text in
    let e : place_text a.v a.m ≡ bytes "the end is as it must be\n" = simp (le-ltb _ _ c.if-v-m.false) in
    record { result = p.ensures.result ∙ ap (λ (z : List ℕ). behind xs a.at z) (sym e); out_left = p.ensures.out_left ∙ ap (λ (z : List ℕ). laid_at xs a.at z) (sym e) }
