-- `c_operations::suspend_write` meets its contract.
use mathlib.Core.Path.{◌∙◌}
use native.Mathlib.Omega.{arith}
use Rattle.c_operations.proofs.Running.{suspends}
use borrow.Author.Rules.{rules}
use Rattle.c_operations.proofs.suspend_write.Goals as goal

pub overflow_sub-n : goal.overflow_sub-n
overflow_sub-n c = let h = (c.is_running.ensures c.if-is_running.true c.requires.1).more in search rules

pub returns-then-is_running : goal.returns-then-is_running
returns-then-is_running c = let a = c.args in
    let p = c.requires in
    let xs = a.array.now in
    let rs = a.residue.now in
    let t = (let run = c.is_running.ensures c.if-is_running.true p.1 in let last = c.if-n-ne1.true in let m = run.more in suspends a.d a.n a.b xs rs p.0.ordinary run p.0.supplied (omega (arith, m, last)) p.2 p.3 c.if-b-eq176.true) in
    record { result = c.written.ensures ∙ t.0; array_left = t.1 (λ i. (c.slice_known-1.given i).fits) }
