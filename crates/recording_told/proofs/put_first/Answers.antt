-- `recording_told::put_first` meets its contract.
use mathlib.Core.Path.{◌≡◌, ap, ◌∙◌}
use mathlib.Core.List.{List}
use Prim.Native.Nat.{ℕ, ◌+◌, ◌-◌, ◌*◌}
use native.Mathlib.Omega.{arith}
use Rattle.text.specs.Writing.{laid_at, behind}
use Rattle.recording_told.proofs.Said.{first_by}
use Rattle.recording_told.proofs.put_first.Goals as goal

pub returns : goal.returns
returns c =
    let a = c.args in
    let xs = a.out.now in
    let p = c.put_fault in
    let y = c.reason-w in
    let d = c.bench-d in
    let r = c.record_in-r in
    let n : ℕ = 31 * a.i + 31 - 31 * a.i in
    let h : n ≡ 31 = omega arith in
    let e = first_by a.text.now a.i a.s a.array.now n r.result d.result y.result h r.ensures d.ensures y.ensures in
    record { result = p.ensures.result ∙ ap (λ (z : List ℕ). behind xs 0 z) e; out_left = p.ensures.out_left ∙ ap (λ (z : List ℕ). laid_at xs 0 z) e }
