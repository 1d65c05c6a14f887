-- `load_told::put_end` meets its contract.
use mathlib.Core.Path.{◌≡◌, sym, ap, ◌∙◌}
use mathlib.Core.List.{List}
use Prim.Native.Nat.{ℕ}
use borrow.Author.Tests.{eq-eqb, ne_eqb}
use Rattle.text.specs.Writing.{laid_at, behind}
use Rattle.verify_answer.specs.Answers.{refused_line}
use Rattle.load_told.specs.Tellings.{programs_of, done_text, ran_text, end_text}
use Rattle.load_told.proofs.put_end.Goals as goal

pub returns-then-r-eq0 : goal.returns-then-r-eq0
unfolding end_text
returns-then-r-eq0 c =
    let a = c.args in
    let out = a.out.now in
    let p = c.put_done in
    let e = c.erases_of-e in
    let l = c.length in
    let g = c.programs_of-p in
    let t : end_text a.d a.block a.r ≡ ran_text a.d a.block a.r = simp (eq-eqb _ _ c.if-r-eq0.true) in
    let G = g.ensures ∙ (λ i. programs_of a.d (l.ensures i) (e.ensures i) a.r.count) in
    let h : done_text a.d.part.word a.r.count e.result g.result ≡ ran_text a.d a.block a.r = λ i. done_text a.d.part.word a.r.count (e.ensures i) (G i) in
    record { result = p.ensures.result ∙ ap (λ (z : List ℕ). behind out 0 z) (h ∙ sym t); out_left = p.ensures.out_left ∙ ap (λ (z : List ℕ). laid_at out 0 z) (h ∙ sym t) }

pub returns : goal.returns
unfolding end_text
returns c =
    let a = c.args in
    let out = a.out.now in
    let p = c.put_refusal in
    let t : end_text a.d a.block a.r ≡ refused_line a.r.end = simp (ne_eqb _ _ c.if-r-eq0.false) in
    record { result = p.ensures.result ∙ ap (λ (z : List ℕ). behind out 0 z) (sym t); out_left = p.ensures.out_left ∙ ap (λ (z : List ℕ). laid_at out 0 z) (sym t) }
