-- `load_told::put_unit` meets its contract.
use mathlib.Core.Path.{◌≡◌, sym, ap, ◌∙◌}
use mathlib.Core.List.{List}
use Prim.Native.Nat.{ℕ}
use Rattle.text.specs.Writing.{bytes, laid_at, behind}
use Rattle.load_told.specs.Tellings.{unit_text}
use Rattle.load_told.proofs.put_unit.Goals as goal

pub returns-then-word : goal.returns-then-word
unfolding unit_text
returns-then-word c =
    let a = c.args in
    let p = c.put_text in
    let e : unit_text a.word ≡ bytes ", words programmed " = simp c.if-word.true in
    record { result = p.ensures.result ∙ ap (λ (z : List ℕ). behind a.out.now a.at z) (sym e); out_left = p.ensures.out_left ∙ ap (λ (z : List ℕ). laid_at a.out.now a.at z) (sym e) }

pub returns : goal.returns
unfolding unit_text
returns c =
    let a = c.args in
    let p = c.put_text-2 in
    let e : unit_text a.word ≡ bytes ", bytes programmed " = simp c.if-word.false in
    record { result = p.ensures.result ∙ ap (λ (z : List ℕ). behind a.out.now a.at z) (sym e); out_left = p.ensures.out_left ∙ ap (λ (z : List ℕ). laid_at a.out.now a.at z) (sym e) }
