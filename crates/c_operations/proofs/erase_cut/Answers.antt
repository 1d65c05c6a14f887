-- `c_operations::erase_cut` meets its contract.
use mathlib.Core.Path.{◌≡◌, ap, ◌∙◌}
use mathlib.Core.Path.{subst}
use native.Mathlib.Omega.{arith}
use Prim.Native.Nat.{ℕ}
use Rattle.device.specs.declared.Part.{Part}
use Rattle.device.specs.Parts.{block_of}
use Rattle.device.specs.Inner.{span_of}
use Rattle.units.specs.Units.{units}
use Rattle.units.proofs.Widths.{units_length}
use Rattle.c_cycle.specs.Values.{device_in}
use Rattle.c_operations.proofs.Ending.{counted}
use Rattle.c_operations.proofs.Cutting.{block_left, block_takes, erase_bits, cuts}
use Rattle.c_operations.proofs.erase_cut.Goals as goal

pub returns-then-span-units_in : goal.returns-then-span-units_in
returns-then-span-units_in c = let a = c.args in
    let p = c.requires in
    let xs = a.array.now in
    let rs = a.residue.now in
    let part = (device_in a.d).part in
    let us = units part.word xs in
    let ts = units part.word rs in
    let whole = counted a.d xs p.0.sized in
    let long = units_length part.word rs in
    let some = c.if-span-units_in.true in
    let k = c.units_in.ensures in
    let x = c.part_in-part.result in
    let s = c.block_span-span.ensures ∙ ap (λ (j : ℕ). span_of x j) c.block_of.ensures in
    let sp = subst (λ (y : Part). c.block_span-span.result ≡ span_of y (block_of y a.n.address)) c.part_in-part.ensures s in
    let t = cuts a.d a.n a.b xs rs p.0 p.1 p.2 (block_takes part a.n _ p.3 c.block_span-span.result sp (omega (arith, some, k))) 0xA8 (erase_bits a.n p.3) in
    let q = c.leave_units in
    let left = block_left part a.n us ts p.3 whole c.block_span-span.result sp (omega (arith, some, k, long)) _ q.ensures.s_left in
    record { result = c.cut.ensures ∙ t.0; array_left = t.1 _ (λ i. (c.slice_known-1.given i).fits) (λ i. (c.slice_known-then-span-units_in-1.given i).fits) left q.ensures.s_spare q.auto.s }
