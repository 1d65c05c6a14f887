-- `c_operations::suspended_write` meets its contract.
use borrow.Author.Tests.{not-true}
use mathlib.Core.Path.{sym, ◌∙◌}
use Rattle.c_ordinary.proofs.Rest as rests
use Rattle.c_ordinary.proofs.Sufficient.{resting_is}
use Rattle.c_operations.proofs.Holding.{held_array, held_status, resumes}
use Rattle.c_operations.proofs.suspended_write.Goals as goal

pub returns-then-byte-eq255 : goal.returns-then-byte-eq255
returns-then-byte-eq255 c = let a = c.args in
    let p = c.requires in
    let t = held_array a.d a.n a.b a.array.now a.residue.now p.0 (c.is_suspended.ensures c.if-is_suspended.true p.1) p.2 c.if-byte-eq255.true in
    record { result = c.written.ensures ∙ t.0; array_left = t.1 (λ i. (c.slice_known-1.given i).fits) }

pub returns-then-byte-eq112 : goal.returns-then-byte-eq112
returns-then-byte-eq112 c = let a = c.args in
    let p = c.requires in
    let t = held_status a.d a.n a.b a.array.now a.residue.now p.0 (c.is_suspended.ensures c.if-is_suspended.true p.1) p.2 c.if-byte-eq112.true in
    record { result = c.written-then-byte-eq112.ensures ∙ t.0; array_left = t.1 (λ i. (c.slice_known-1.given i).fits) }

pub returns-then-byte-eq208 : goal.returns-then-byte-eq208
returns-then-byte-eq208 c = let a = c.args in
    let p = c.requires in
    let t = resumes a.d a.n a.b a.array.now a.residue.now p.0 (c.is_suspended.ensures c.if-is_suspended.true p.1) p.2 c.if-byte-eq208.true in
    record { result = c.written-then-byte-eq208.ensures ∙ t.0; array_left = t.1 (λ i. (c.slice_known-1.given i).fits) }

pub returns-then-not-set : goal.returns-then-not-set
returns-then-not-set c = let a = c.args in
    let p = c.requires in
    let r = resting_is a.n (sym c.is_resting.ensures ∙ c.if-is_resting.true) in
    let t = rests.no_command a.d a.n a.b a.array.now a.residue.now p.0.ordinary r p.2 c.command_by-set.result c.command_by-set.ensures (not-true _ c.if-not-set.true) in
    record { result = c.refused.ensures ∙ t.0; array_left = t.1 (λ i. (c.slice_known-1.given i).fits) }
