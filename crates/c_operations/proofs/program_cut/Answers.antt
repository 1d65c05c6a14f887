-- `c_operations::program_cut` meets its contract.
use mathlib.Core.Path.{ap, ◌∙◌}
use native.Mathlib.Omega.{arith}
use Prim.Native.Nat.{ℕ}
use lib.ListN.{get_or, set}
use lib.Bits.{bit_and, bit_or}
use Rattle.units.specs.Units.{units}
use Rattle.units.proofs.Widths.{units_length}
use Rattle.c_cycle.specs.Values.{device_in}
use Rattle.c_operations.proofs.Ending.{counted}
use Rattle.c_operations.proofs.Cutting.{program_left, program_takes, program_bits, cuts}
use Rattle.c_operations.proofs.program_cut.Goals as goal

pub returns-then-units_in-ge1 : goal.returns-then-units_in-ge1
returns-then-units_in-ge1 c = let a = c.args in
    let p = c.requires in
    let xs = a.array.now in
    let rs = a.residue.now in
    let part = (device_in a.d).part in
    let us = units part.word xs in
    let ts = units part.word rs in
    let whole = counted a.d xs p.0.sized in
    let long = units_length part.word rs in
    let some = c.if-units_in-ge1.true in
    let k = c.units_in.ensures in
    let t = cuts a.d a.n a.b xs rs p.0 p.1 p.2 (program_takes part a.n _ p.3 (omega (arith, some, k))) 0x98 (program_bits a.n p.3) in
    let q = c.program_unit in
    let e = q.ensures.s_left ∙ ap (λ (x : ℕ). set us a.n.address (bit_and (get_or us a.n.address 0) (bit_or a.n.data x))) c.get_unit-r.ensures.0 in
    let left = program_left part a.n us ts p.3 (let i = p.1.inside in omega (arith, i, whole)) (omega (arith, some, k, long)) _ e in
    record { result = c.cut.ensures ∙ t.0; array_left = t.1 _ (λ i. (c.slice_known-1.given i).fits) (λ i. (c.slice_known-then-units_in-ge1-1.given i).fits) left q.ensures.s_spare q.auto.s }
