-- `c_operations::code_read` meets its contract.
use mathlib.Core.Path.{sym, ap, ◌∙◌}
use Prim.Native.Nat.{ℕ}
use lib.Dec.{ltb}
use borrow.Author.Tests.{lt-ltb, le-ltb}
use Rattle.device.specs.declared.Part.{Part}
use Rattle.model_rules.specs.Cycles.{code_place, identifier_of}
use Rattle.c_cycle.specs.Values.{device_in}
use Rattle.c_answers.specs.Answers.{refused_as, given_as}
use Rattle.common.proofs.Choice.{if_true, if_false}
use Rattle.c_operations.specs.Operations.{coded_as}
use Rattle.c_operations.proofs.code_read.Goals as goal

pub returns-then-code_place-gt1 : goal.returns-then-code_place-gt1
unfolding coded_as
returns-then-code_place-gt1 c = let a = c.args in
    let q = c.code_place.ensures ∙ ap (λ (z : Part). code_place z a.address) c.part_in-part.ensures in
    let far = ap (λ (x : ℕ). ltb 1 x) (sym q) ∙ lt-ltb 1 c.code_place.result c.if-code_place-gt1.true in
    c.refused.ensures ∙ sym (if_true (ltb 1 (code_place (device_in a.d).part a.address)) (refused_as a.n 9) (given_as a.n (identifier_of (device_in a.d).part a.address)) far)

pub returns : goal.returns
unfolding coded_as
returns c = let a = c.args in
    let q = c.code_place.ensures ∙ ap (λ (z : Part). code_place z a.address) c.part_in-part.ensures in
    let near = ap (λ (x : ℕ). ltb 1 x) (sym q) ∙ le-ltb 1 c.code_place.result c.if-code_place-gt1.false in
    let v = c.identifier.ensures ∙ ap (λ (z : Part). identifier_of z a.address) c.part_in-part.ensures in
    c.given.ensures ∙ ap (λ (x : ℕ). given_as a.n x) v ∙ sym (if_false (ltb 1 (code_place (device_in a.d).part a.address)) (refused_as a.n 9) (given_as a.n (identifier_of (device_in a.d).part a.address)) near)
