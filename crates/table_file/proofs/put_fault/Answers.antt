-- `table_file::put_fault` meets its contract.
use mathlib.Core.Path.{sym, ap, ◌∙◌, subst}
use mathlib.Core.List.{List, ◌++◌}
use Prim.Native.Nat.{ℕ, ◌+◌, ◌/◌, ◌≤◌}
use native.Mathlib.Omega.{arith}
use lib.ListN.{length}
use Rattle.text.specs.Digits.{decimal_of}
use Rattle.text.specs.Writing.{bytes}
use Rattle.text.proofs.Laying.{laid_first, laid_more}
use Rattle.text.specs.Writing.{laid_at, behind}
use Rattle.reading_table.proofs.Faulty.{fault_most}
use Rattle.table_file.proofs.put_fault.Goals as goal

pub overflow_add-i : goal.overflow_add-i
overflow_add-i c = let P = c.args.payload.now in let h : c.first_fault-i.result ≤ length P / 6 = subst (λ (z : ℕ). z ≤ length P / 6) (sym c.first_fault-i.ensures) (fault_most P) in omega (arith, h, c.requires)

pub overflow_cast-i : goal.overflow_cast-i
overflow_cast-i c = let P = c.args.payload.now in let h : c.first_fault-i.result ≤ length P / 6 = subst (λ (z : ℕ). z ≤ length P / 6) (sym c.first_fault-i.ensures) (fault_most P) in omega (arith, h, c.requires)

pub returns : goal.returns
returns c =
    let a = c.args in
    let out = a.out.now in
    let p = c.put_text-a in
    let q = c.put_decimal-b in
    let r = c.put_text in
    let f0 = laid_first out (bytes "refused 41 in line ") p.new.out 0 p.result p.ensures.result p.ensures.out_left in
    let f1 = laid_more out (bytes "refused 41 in line ") (decimal_of (c.first_fault-i.result + 1)) p.new.out q.new.out 0 p.result q.result f0 q.ensures.result q.ensures.out_left in
    let f2 = laid_more out (bytes "refused 41 in line " ++ decimal_of (c.first_fault-i.result + 1)) (bytes "\n") q.new.out r.new.out 0 q.result r.result f1 r.ensures.result r.ensures.out_left in
    let e = ap (λ (z : ℕ). (bytes "refused 41 in line " ++ decimal_of (z + 1)) ++ bytes "\n") c.first_fault-i.ensures in
    record { result = f2.place ∙ ap (λ (z : List ℕ). behind out 0 z) e; out_left = f2.bytes ∙ ap (λ (z : List ℕ). laid_at out 0 z) e }
