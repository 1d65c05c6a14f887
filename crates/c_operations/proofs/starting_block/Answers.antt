-- `c_operations::starting_block` meets its contract.
use mathlib.Core.Path.{sym, ap, ◌∙◌}
use native.Mathlib.Omega.{arith}
use Rattle.device.specs.declared.Part.{Part}
use Rattle.device.specs.Parts.{block_of}
use Rattle.model_levels.specs.Levels.{unlocked}
use Rattle.c_cycle.specs.Values.{device_in, cycle_in}
use Rattle.c_operations.proofs.Starting.{block_open, level_open, level_shut, block_most}
use Rattle.c_operations.proofs.starting_block.Goals as goal

pub is_awaiting-requires : goal.is_awaiting-requires
is_awaiting-requires c = c.requires.0

pub returns-then-k-ne0 : goal.returns-then-k-ne0
returns-then-k-ne0 c = let a = c.args in
    let kk = c.block_of-k.ensures ∙ ap (λ (x : Part). block_of x a.b.address) c.part_in-part.ensures in
    let m = block_most (device_in a.d).part a.b.address in
    record { starts = (λ f. (record { awaiting = c.is_awaiting.ensures c.if-is_awaiting.true; clear = c.if-n-eq0.true; unlocked = block_open (device_in a.d).part (cycle_in a.b) c.block_of-k.result kk c.if-k-ne0.true }, kk)); barred = (λ f. absurd (omega (arith, f, kk, m))) }

pub returns-then-unlocked : goal.returns-then-unlocked
returns-then-unlocked c = let a = c.args in
    let kk = c.block_of-k.ensures ∙ ap (λ (x : Part). block_of x a.b.address) c.part_in-part.ensures in
    let free = sym (c.unlocked.ensures ∙ (λ i. unlocked (c.part_in-part.ensures i) (c.pins_in.ensures i) a.b.oe)) ∙ c.if-unlocked.true in
    record { starts = (λ f. (record { awaiting = c.is_awaiting.ensures c.if-is_awaiting.true; clear = c.if-n-eq0.true; unlocked = level_open (device_in a.d).part a.b c.requires.1 free }, sym c.if-k-ne0.false ∙ kk)); barred = (λ f. absurd (omega (arith, f))) }

pub returns-then-n-eq0 : goal.returns-then-n-eq0
returns-then-n-eq0 c = let a = c.args in
    let kk = c.block_of-k.ensures ∙ ap (λ (x : Part). block_of x a.b.address) c.part_in-part.ensures in
    let shut = sym (c.unlocked.ensures ∙ (λ i. unlocked (c.part_in-part.ensures i) (c.pins_in.ensures i) a.b.oe)) ∙ c.if-unlocked.false in
    record { starts = (λ f. absurd (omega (arith, f))); barred = (λ f. record { awaiting = c.is_awaiting.ensures c.if-is_awaiting.true; clear = c.if-n-eq0.true; locked = level_shut (device_in a.d).part a.b c.requires.1 shut (sym c.if-k-ne0.false ∙ kk) }) }

pub returns-else-n-eq0 : goal.returns-else-n-eq0
returns-else-n-eq0 c = record { starts = (λ f. absurd (omega (arith, f))); barred = (λ f. absurd (omega (arith, f))) }

pub returns-else-is_awaiting : goal.returns-else-is_awaiting
returns-else-is_awaiting c = record { starts = (λ f. absurd (omega (arith, f))); barred = (λ f. absurd (omega (arith, f))) }
