-- `c_operations::held_read` meets its contract.
use mathlib.Core.Path.{sym, ◌∙◌}
use lib.Dec.{eqb}
use mathlib.Core.Bool.{true, false}
use borrow.Author.Tests.{not-true, not-false}
use Rattle.device.specs.Parts.{block_of}
use Rattle.c_cycle.specs.Values.{device_in}
use Rattle.c_ordinary.proofs.Sufficient.{resting_is}
use Rattle.c_operations.proofs.Holding.{held_gives_status, held_gives_unit, held_refused_lem}
use Rattle.c_operations.proofs.Coding.{codes}
use Rattle.c_operations.proofs.held_read.Goals as goal

pub returns-then-n-eq1 : goal.returns-then-n-eq1
returns-then-n-eq1 c = let a = c.args in
    let p = c.requires in
    let t = held_gives_status a.d a.n a.b a.array.now a.residue.now p.0 (c.is_suspended.ensures c.if-is_suspended.true p.1) p.2 c.if-n-eq1.true _ c.wide.ensures.0 in
    record { result = c.given.ensures ∙ t.0; array_left = t.1 (λ i. (c.slice_known-1.given i).fits) }

pub returns-then-is_elsewhere : goal.returns-then-is_elsewhere
returns-then-is_elsewhere c = let a = c.args in
    let p = c.requires in
    let away = not-true (eqb (block_of (device_in a.d).part a.b.address) (block_of (device_in a.d).part a.n.address)) (sym c.is_elsewhere.ensures ∙ c.if-is_elsewhere.true) in
    let t = held_gives_unit a.d a.n a.b a.array.now a.residue.now p.0 (c.is_suspended.ensures c.if-is_suspended.true p.1) p.2 c.if-n-eq1.false away _ c.get_unit.ensures.0 in
    record { result = c.given-then-is_elsewhere.ensures ∙ t.0; array_left = t.1 (λ i. (c.slice_known-1.given i).fits) }

pub returns-then-is_suspended : goal.returns-then-is_suspended
returns-then-is_suspended c = let a = c.args in
    let p = c.requires in
    let there = not-false (eqb (block_of (device_in a.d).part a.b.address) (block_of (device_in a.d).part a.n.address)) (sym c.is_elsewhere.ensures ∙ c.if-is_elsewhere.false) in
    let t = held_refused_lem a.d a.n a.b a.array.now a.residue.now p.0 (c.is_suspended.ensures c.if-is_suspended.true p.1) p.2 c.if-n-eq1.false there in
    record { result = c.refused.ensures ∙ t.0; array_left = t.1 (λ i. (c.slice_known-1.given i).fits) }

pub returns-then-n-eq2 : goal.returns-then-n-eq2
returns-then-n-eq2 c = let a = c.args in
    let p = c.requires in
    let r = resting_is a.n (sym c.is_resting.ensures ∙ c.if-is_resting.true) in
    let t = codes a.d a.n a.b a.array.now a.residue.now p.0.ordinary r p.2 c.if-n-eq2.true in
    record { result = c.code_read.ensures ∙ t.0; array_left = t.1 (λ i. (c.slice_known-1.given i).fits) }
