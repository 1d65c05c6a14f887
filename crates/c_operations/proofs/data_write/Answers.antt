-- `c_operations::data_write` meets its contract.
use mathlib.Core.Path.{◌∙◌}
use native.Mathlib.Omega.{arith}
use Rattle.c_operations.proofs.Starting.{started, data_barred}
use Rattle.c_operations.proofs.data_write.Goals as goal

pub starting_block-k-requires : goal.starting_block-k-requires
starting_block-k-requires c = (omega arith, c.requires.2)

pub returns-then-k : goal.returns-then-k
returns-then-k c = let a = c.args in
    let p = c.requires in
    let t = data_barred a.d a.n a.b a.array.now a.residue.now p.0 (c.starting_block-k.ensures.barred c.if-k.true) p.2 in
    record { result = c.written.ensures ∙ t.0; array_left = t.1 (λ i. (c.slice_known-1.given i).fits) }

pub returns-then-k-lt254 : goal.returns-then-k-lt254
returns-then-k-lt254 c = let a = c.args in
    let p = c.requires in
    let t = started a.d a.n a.b a.array.now a.residue.now p.0 (c.starting_block-k.ensures.starts c.if-k-lt254.true).0 p.2 _ c.carry-unit.ensures in
    record { result = c.written-then-k-lt254.ensures ∙ t.0; array_left = t.1 (λ i. (c.slice_known-1.given i).fits) }
