use borrow.Author.Tests.{eq-eqb, ne_eqb}
use mathlib.Core.Path.{sym, ap, ◌∙◌}
use Prim.Native.Nat.{ℕ}
use lib.ListN.{length}
use lib.Dec.{eqb}
use Rattle.common.proofs.Choice.{if_true, if_false}
use Rattle.loader_held_steps.specs.HeldFront.{place_next, used_number, step_held_number}
use Rattle.loader_held_steps.proofs.Numbering.{step_below}
use Rattle.loader_held_steps.proofs.step_number.Reads as reads
use Rattle.loader_held_steps.proofs.step_number.Lts as lts
use Rattle.device.proofs.unknown_part.Reads as unknown-part-reads
use Rattle.loader_held_steps.proofs.bad_pair.Reads as bad-pair-reads
use Rattle.loader_held_steps.proofs.place_next.Reads as place-next-reads
use Rattle.loader_held_steps.proofs.used_number.Reads as used-number-reads
use Rattle.loader_steps.proofs.front.setup_number.Reads as setup-number-reads
use Rattle.loader_held_steps.proofs.step_number.Goals as goal

-- src/lib.rt:179:9
pub returns-then-unknown_part : goal.returns-then-unknown_part
unfolding step_held_number
returns-then-unknown_part c = simp (sym c.unknown_part.ensures ∙ c.if-unknown_part.true)

-- src/lib.rt:182:9
pub returns-then-bad_pair : goal.returns-then-bad_pair
unfolding step_held_number
returns-then-bad_pair c = simp (sym c.bad_pair.ensures ∙ c.if-bad_pair.true, sym c.unknown_part.ensures ∙ c.if-unknown_part.false)

-- src/lib.rt:187:9
pub returns-then-n-eq0 : goal.returns-then-n-eq0
returns-then-n-eq0 c =
    let n = c.setup_number-n in
    let a = c.args in
    let known = sym c.unknown_part.ensures ∙ c.if-unknown_part.false in
    let fit = sym c.bad_pair.ensures ∙ c.if-bad_pair.false in
    let room = a.room in
    let bs = a.addresses.now in
    let l = a.l in
    let h = a.h in
    c.used_number.ensures ∙ ap (λ (i : ℕ). used_number l.part l.block i bs room) c.place_next.ensures
    ∙ sym
    (step_below l h a.wanted a.scratch bs room n.result known fit n.ensures
    ∙ if_true (eqb n.result 0) (used_number l.part l.block (place_next h.step h.place (length bs)) bs room) n.result (eq-eqb n.result 0 c.if-n-eq0.true))

-- src/lib.rt:165:1
pub returns : goal.returns
returns c =
    let n = c.setup_number-n in
    let a = c.args in
    let known = sym c.unknown_part.ensures ∙ c.if-unknown_part.false in
    let fit = sym c.bad_pair.ensures ∙ c.if-bad_pair.false in
    let room = a.room in
    let bs = a.addresses.now in
    let l = a.l in
    let h = a.h in
    sym
    (step_below l h a.wanted a.scratch bs room n.result known fit n.ensures
    ∙ if_false (eqb n.result 0) (used_number l.part l.block (place_next h.step h.place (length bs)) bs room) n.result (ne_eqb n.result 0 c.if-n-eq0.false))
