-- `table_file::put_table_line` meets its contract.
use mathlib.Core.Path.{◌≡◌, sym, ap, ◌∙◌}
use mathlib.Core.List.{List}
use Prim.Native.Nat.{ℕ}
use borrow.Author.Tests.{eq-eqb, ne_eqb}
use Rattle.text.specs.Writing.{laid_at, behind}
use Rattle.table_file.specs.Files.{refused_line, fault_line, table_line}
use Rattle.table_file.proofs.put_table_line.Goals as goal

pub returns-then-n-eq41 : goal.returns-then-n-eq41
unfolding table_line
returns-then-n-eq41 c =
    let a = c.args in
    let p = c.put_fault in
    let e : table_line a.n a.payload.now ≡ fault_line a.payload.now = simp (eq-eqb _ _ c.if-n-eq41.true) in
    record { result = p.ensures.result ∙ ap (λ (z : List ℕ). behind a.out.now 0 z) (sym e); out_left = p.ensures.out_left ∙ ap (λ (z : List ℕ). laid_at a.out.now 0 z) (sym e) }

pub returns : goal.returns
unfolding table_line
returns c =
    let a = c.args in
    let p = c.put_refusal in
    let e : table_line a.n a.payload.now ≡ refused_line a.n = simp (ne_eqb _ _ c.if-n-eq41.false) in
    record { result = p.ensures.result ∙ ap (λ (z : List ℕ). behind a.out.now 0 z) (sym e); out_left = p.ensures.out_left ∙ ap (λ (z : List ℕ). laid_at a.out.now 0 z) (sym e) }
