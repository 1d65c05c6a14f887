-- `loader_held_steps::step_held` meets its contract, by the laws of lent bytes.
use mathlib.Core.Path.{sym, ◌∙◌}
use lib.ListN.{length}
use Rattle.units.specs.Units.{lent}
use Rattle.loader_held_steps.proofs.HeldLending.{step_lent, step_gives, step_leaves, step_bars, step_keeps, room_leaves, room_keeps}
use Rattle.loader_held_steps.proofs.HeldTold.{step_too}
use Rattle.loader_held_steps.proofs.step_held.Goals as goal

pub returns-then-n-eq0 : goal.returns-then-n-eq0
returns-then-n-eq0 c =
    let m = c.take-next in
    let a = c.args in
    let l = a.pair.loader in
    let h = a.pair.hold in
    let w = l.part.word in
    let xs = a.wanted.now in
    let ys = a.scratch.now in
    let ps = a.polls.now in
    let bs = a.addresses.now in
    let rs = a.room.now in
    let n = step_lent l h a.v xs ys ps bs (length rs) _ _ _ c.step_number-n.ensures c.lent_in.ensures c.lent_in-2.ensures in
    let z = sym n ∙ c.if-n-eq0.true in
    let both = step_too l h a.v (lent w xs) (lent w ys) ps bs (length rs) (step_gives l h a.v xs ys ps bs (length rs) _ _ z m.ensures.result c.response_at.ensures)
    (step_leaves l h a.v xs ys ps bs (length rs) m.new.scratch z m.auto.scratch (λ k. (c.slice_known-then-n-eq0-1.given k).fits) m.ensures.scratch_left) in
    let rest = room_leaves l h a.v xs ys bs rs m.new.room z (λ k. (c.slice_known-then-n-eq0-2-1.given k).fits) m.ensures.room_left m.ensures.room_spare in
    record { result = both.0; told = both.1.0; scratch_left = both.1.1; room_left = rest }

pub returns : goal.returns
returns c =
    let a = c.args in
    let l = a.pair.loader in
    let h = a.pair.hold in
    let w = l.part.word in
    let xs = a.wanted.now in
    let ys = a.scratch.now in
    let ps = a.polls.now in
    let bs = a.addresses.now in
    let rs = a.room.now in
    let z = c.if-n-eq0.false in
    let n = step_lent l h a.v xs ys ps bs (length rs) _ _ _ c.step_number-n.ensures c.lent_in.ensures c.lent_in-2.ensures in
    let both = step_too l h a.v (lent w xs) (lent w ys) ps bs (length rs) (step_bars l h a.v xs ys ps bs (length rs) _ _ n z c.refused_by.ensures)
    (step_keeps l h a.v xs ys ps bs (length rs) _ n z) in record { result = both.0; told = both.1.0; scratch_left = both.1.1; room_left = room_keeps l h a.v xs ys bs rs _ n z }
