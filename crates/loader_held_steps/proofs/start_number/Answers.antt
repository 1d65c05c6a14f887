use borrow.Author.Tests.{eq-eqb, ne_eqb}
use mathlib.Core.Path.{sym, ◌∙◌}
use lib.Dec.{eqb}
use Rattle.common.proofs.Choice.{if_true, if_false}
use Rattle.loader_held_lists.specs.Listings.{held_number}
use Rattle.loader_held_steps.specs.HeldFront.{start_held_number}
use Rattle.loader_held_steps.proofs.Numbering.{start_below}
use Rattle.loader_held_steps.proofs.start_number.Reads as reads
use Rattle.loader_held_steps.proofs.start_number.Lts as lts
use Rattle.device.proofs.unknown_part.Reads as unknown-part-reads
use Rattle.loader_held_lists.proofs.list_number.Reads as list-number-reads
use Rattle.loader_steps.proofs.front.setup_number.Reads as setup-number-reads
use Rattle.loader_held_steps.proofs.start_number.Goals as goal

-- src/lib.rt:156:9
pub returns-then-unknown_part : goal.returns-then-unknown_part
unfolding start_held_number
returns-then-unknown_part c = simp (sym c.unknown_part.ensures ∙ c.if-unknown_part.true)

-- src/lib.rt:160:9
pub returns-then-n-eq0 : goal.returns-then-n-eq0
returns-then-n-eq0 c =
    let n = c.setup_number-n in
    let a = c.args in
    let known = sym c.unknown_part.ensures ∙ c.if-unknown_part.false in
    let room = a.room in
    let bs = a.addresses.now in
    c.list_number.ensures
    ∙ sym
    (start_below a.part a.p a.block a.wanted a.scratch bs room n.result known n.ensures
    ∙ if_true (eqb n.result 0) (held_number a.part a.block bs room) n.result (eq-eqb n.result 0 c.if-n-eq0.true))

-- src/lib.rt:144:1
pub returns : goal.returns
returns c =
    let n = c.setup_number-n in
    let a = c.args in
    let known = sym c.unknown_part.ensures ∙ c.if-unknown_part.false in
    let room = a.room in
    let bs = a.addresses.now in
    sym
    (start_below a.part a.p a.block a.wanted a.scratch bs room n.result known n.ensures
    ∙ if_false (eqb n.result 0) (held_number a.part a.block bs room) n.result (ne_eqb n.result 0 c.if-n-eq0.false))
