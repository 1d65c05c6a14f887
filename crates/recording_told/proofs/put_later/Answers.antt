-- `recording_told::put_later` meets its contract.
use mathlib.Core.Path.{◌≡◌, sym, ap, ◌∙◌}
use mathlib.Core.List.{List}
use Prim.Native.Nat.{ℕ}
use borrow.Author.Tests.{eq-eqb, ne_eqb}
use Rattle.text.specs.Writing.{laid_at, behind}
use Rattle.recording_answer.specs.Lines.{bad_line, accepted_line, end_text}
use Rattle.recording_told.specs.Tellings.{later_text}
use Rattle.recording_told.proofs.put_later.Goals as goal

pub returns-then-bad-ne0 : goal.returns-then-bad-ne0
unfolding later_text
returns-then-bad-ne0 c =
    let a = c.args in
    let xs = a.out.now in
    let p = c.put_bad in
    let e : later_text a.bad a.n a.well a.ph a.promised.now a.array.now ≡ bad_line a.bad = simp (ne_eqb _ _ c.if-bad-ne0.true) in
    record { result = p.ensures.result ∙ ap (λ (z : List ℕ). behind xs 0 z) (sym e); out_left = p.ensures.out_left ∙ ap (λ (z : List ℕ). laid_at xs 0 z) (sym e) }

pub returns-then-well : goal.returns-then-well
unfolding later_text
returns-then-well c =
    let a = c.args in
    let xs = a.out.now in
    let p = c.put_accepted in
    let e : later_text a.bad a.n a.well a.ph a.promised.now a.array.now ≡ accepted_line a.n = simp (c.if-well.true, eq-eqb _ _ c.if-bad-ne0.false) in
    record { result = p.ensures.result ∙ ap (λ (z : List ℕ). behind xs 0 z) (sym e); out_left = p.ensures.out_left ∙ ap (λ (z : List ℕ). laid_at xs 0 z) (sym e) }

pub returns : goal.returns
unfolding later_text
returns c =
    let a = c.args in
    let xs = a.out.now in
    let p = c.put_end in
    let e : later_text a.bad a.n a.well a.ph a.promised.now a.array.now ≡ end_text a.ph a.promised.now a.array.now = simp (c.if-well.false, eq-eqb _ _ c.if-bad-ne0.false) in
    record { result = p.ensures.result ∙ ap (λ (z : List ℕ). behind xs 0 z) (sym e); out_left = p.ensures.out_left ∙ ap (λ (z : List ℕ). laid_at xs 0 z) (sym e) }
