-- `loader_quick::are_placed` meets its contract.
use mathlib.Core.Path.{sym, ◌∙◌}
use mathlib.Core.Bool.{false, not, ◌&&◌}
use native.Mathlib.Omega.{arith}
use Prim.Native.Nat.{◌+◌}
use lib.Dec.{eqb, ltb, leb}
use borrow.Author.Tests.{lt-ltb, le-ltb}
use Rattle.common.proofs.Choice.{if_true, if_false}
use Rattle.device.specs.Parts.{start_of}
use Rattle.loader_steps.proofs.SmallAddresses.{start_small}
use Rattle.loader_quick.specs.Quick.{is_placed}
use Rattle.loader_quick.proofs.Places.{byte_of_most}
use Rattle.loader_quick.proofs.are_placed.Goals as goal

pub returns-then-wanted-gt1048576 : goal.returns-then-wanted-gt1048576
unfolding is_placed
returns-then-wanted-gt1048576 c = sym (if_true (ltb 1048576 c.args.wanted) false _ (lt-ltb 1048576 c.args.wanted c.if-wanted-gt1048576.true))

pub overflow_add-e : goal.overflow_add-e
overflow_add-e c =
    let a = c.args in
    record { fits = omega (arith, c.first_byte.ensures, byte_of_most a.part.word (start_of a.part a.block), start_small a.part a.block, c.if-wanted-gt1048576.false) }

pub returns : goal.returns
unfolding is_placed
returns c =
    let a = c.args in
    (λ i. eqb a.scratch a.wanted && leb (c.first_byte.ensures i + a.wanted) a.array && not (c.is_uneven.ensures i) && not (c.is_uneven-2.ensures i))
    ∙ sym (if_false (ltb 1048576 a.wanted) false _ (le-ltb 1048576 a.wanted c.if-wanted-gt1048576.false))
