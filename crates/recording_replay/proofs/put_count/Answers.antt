-- `recording_replay::put_count` meets its contract.
use mathlib.Core.Path.{◌≡◌, sym, ap, ◌∙◌}
use mathlib.Core.List.{List, [], ◌∷◌}
use Prim.Native.Nat.{ℕ}
use borrow.Author.Tests.{eq-eqb, ne_eqb}
use Rattle.text.specs.Writing.{bytes, laid_at, behind}
use Rattle.recording_replay.specs.Recorded.{count_for}
use Rattle.recording_replay.proofs.put_count.Goals as goal

pub returns-then-n-eq0 : goal.returns-then-n-eq0
returns-then-n-eq0 c =
    let a = c.args in
    let xs = a.out.now in
    let p = c.put_text in
    let e : count_for a.n ≡ bytes " -----\n" = simp (eq-eqb _ _ c.if-n-eq0.true) in
    record { result = p.ensures.result ∙ ap (λ (z : List ℕ). behind xs a.at z) (sym e); out_left = p.ensures.out_left ∙ ap (λ (z : List ℕ). laid_at xs a.at z) (sym e) }

pub returns : goal.returns
returns c =
    let a = c.args in
    let xs = a.out.now in
    let p = c.put_text-2 in
    let d1 = c.digit in
    let d2 = c.digit-2 in
    let d3 = c.digit-3 in
    let d4 = c.digit-4 in
    let d5 = c.digit-5 in
    let e : count_for a.n ≡ 32 ∷ d1.result ∷ d2.result ∷ d3.result ∷ d4.result ∷ d5.result ∷ 10 ∷ [] = simp (ne_eqb _ _ c.if-n-eq0.false, d1.ensures, d2.ensures, d3.ensures, d4.ensures, d5.ensures) in
    record { result = p.ensures.result ∙ ap (λ (z : List ℕ). behind xs a.at z) (sym e); out_left = p.ensures.out_left ∙ ap (λ (z : List ℕ). laid_at xs a.at z) (sym e) }
