-- `c_operations::poll_cycle` meets its contract.
use mathlib.Core.Path.{◌∙◌}
use native.Mathlib.Omega.{arith}
use Rattle.units.specs.Units.{units}
use Rattle.c_cycle.specs.Values.{device_in}
use Rattle.c_operations.proofs.Running.{polled}
use Rattle.c_operations.proofs.Holding.{held_last, held_more}
use Rattle.c_operations.proofs.Ending.{ends, counted}
use borrow.Author.Rules.{rules}
use Rattle.c_operations.proofs.poll_cycle.Goals as goal

pub end_cycle-requires : goal.end_cycle-requires
end_cycle-requires c = (c.is_running.ensures c.if-is_running.true c.requires.1, counted c.args.d c.args.array.now c.requires.0.ordinary.fair.sized)

pub returns-then-n-eq1 : goal.returns-then-n-eq1
returns-then-n-eq1 c = let a = c.args in
    let p = c.requires in
    let xs = a.array.now in
    let rs = a.residue.now in
    let t = ends a.d a.n a.b xs rs p.0 (record { running = c.is_running.ensures c.if-is_running.true p.1; last = c.if-n-eq1.true; unwritten = p.2 }) in
    let q = c.end_cycle in
    record { result = q.ensures.result ∙ t.0; array_left = t.1 _ (λ i. (c.slice_known-1.given i).fits) (λ i. (c.slice_known-then-n-eq1-1.given i).fits) (q.ensures.array_left (units (device_in a.d).part.word rs)) q.ensures.array_spare q.auto.array }

pub overflow_sub-n : goal.overflow_sub-n
overflow_sub-n c = let h = (c.is_running.ensures c.if-is_running.true c.requires.1).more in search rules

pub returns-then-is_running : goal.returns-then-is_running
returns-then-is_running c = let a = c.args in
    let p = c.requires in
    let xs = a.array.now in
    let rs = a.residue.now in
    let t = (let run = c.is_running.ensures c.if-is_running.true p.1 in let last = c.if-n-eq1.false in let m = run.more in polled a.d a.n a.b xs rs p.0.ordinary run p.0.supplied (omega (arith, m, last)) p.2) in
    record { result = c.polled.ensures ∙ t.0; array_left = t.1 (λ i. (c.slice_known-1.given i).fits) }

pub returns-then-n-eq1-2 : goal.returns-then-n-eq1-2
returns-then-n-eq1-2 c = let a = c.args in
    let p = c.requires in
    let xs = a.array.now in
    let rs = a.residue.now in
    let t = held_last a.d a.n a.b xs rs p.0 (c.is_suspending.ensures c.if-is_suspending.true p.1) c.if-n-eq1-2.true p.2 in
    record { result = c.polled-then-n-eq1-2.ensures ∙ t.0; array_left = t.1 (λ i. (c.slice_known-1.given i).fits) }

pub overflow_sub-n-then-is_suspending : goal.overflow_sub-n-then-is_suspending
overflow_sub-n-then-is_suspending c = let h = (c.is_suspending.ensures c.if-is_suspending.true c.requires.1).some in search rules

pub returns-then-is_suspending : goal.returns-then-is_suspending
returns-then-is_suspending c = let a = c.args in
    let p = c.requires in
    let xs = a.array.now in
    let rs = a.residue.now in
    let t = held_more a.d a.n a.b xs rs p.0 (c.is_suspending.ensures c.if-is_suspending.true p.1) c.if-n-eq1-2.false p.2 in
    record { result = c.polled-then-is_suspending.ensures ∙ t.0; array_left = t.1 (λ i. (c.slice_known-1.given i).fits) }

pub held_read-requires : goal.held_read-requires
held_read-requires c = (c.requires.0, c.requires.1, c.if-b-eq0.true)
