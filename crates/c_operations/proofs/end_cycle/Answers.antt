-- `c_operations::end_cycle` meets its contract.
use mathlib.Core.Path.{◌≡◌, ap, ◌∙◌}
use mathlib.Core.Path.{subst}
use Rattle.units.specs.Units.{units}
use Rattle.device.specs.declared.Part.{Part}
use Rattle.device.specs.Parts.{block_of}
use Rattle.device.specs.Inner.{span_of}
use Rattle.c_cycle.specs.Values.{device_in}
use Rattle.c_operations.proofs.Ending.{programmed, erased_whole}
use native.Mathlib.Omega.{arith}
use Prim.Native.Nat.{ℕ}
use Rattle.c_operations.proofs.end_cycle.Goals as goal

pub returns-then-n-eq3 : goal.returns-then-n-eq3
returns-then-n-eq3 c = let a = c.args in
    let p = c.requires in
    let us = units (device_in a.d).part.word a.array.now in
    let q = c.program_unit in
    record { result = c.ended.ensures; array_left = (λ rs. programmed (device_in a.d).part a.n us rs c.if-n-eq3.true (omega (arith, p.0.inside, p.1)) _ q.ensures.s_left); array_spare = q.ensures.s_spare }

pub returns : goal.returns
returns c = let a = c.args in
    let p = c.requires in
    let us = units (device_in a.d).part.word a.array.now in
    let q = c.erase_units in
    let x = c.part_in-part.result in
    let s = c.block_span-span.ensures ∙ ap (λ (k : ℕ). span_of x k) c.block_of.ensures in
    let t = subst (λ (z : Part). c.block_span-span.result ≡ span_of z (block_of z a.n.address)) c.part_in-part.ensures s in
    record { result = c.ended-2.ensures; array_left = (λ rs. erased_whole (device_in a.d).part a.n us rs (p.0.erases c.if-n-eq3.false) p.1 c.block_span-span.result t _ q.ensures.s_left); array_spare = q.ensures.s_spare }
