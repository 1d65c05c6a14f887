-- `loader_steps::front::step` meets its contract, by the laws of lent bytes.
use mathlib.Core.Path.{sym, ◌∙◌}
use Rattle.units.specs.Units.{lent}
use Rattle.loader_steps.proofs.Told.{step_too}
use Rattle.loader_steps.proofs.Lending.{step_lent, step_gives, step_leaves, step_bars, step_keeps}
use Rattle.loader_steps.proofs.front.step.Goals as goal

pub returns-then-n-eq0 : goal.returns-then-n-eq0
returns-then-n-eq0 c =
    let m = c.advance-moved in
    let a = c.args in
    let n = step_lent a.l a.wanted.now a.scratch.now _ _ _ c.step_number-n.ensures c.lent_in.ensures c.lent_in-2.ensures in
    let z = sym n ∙ c.if-n-eq0.true in
    let both = step_too a.l a.v (lent a.l.part.word a.wanted.now) (lent a.l.part.word a.scratch.now)
    (step_gives a.l a.wanted.now a.scratch.now a.v _ _ z m.ensures.result c.response_at.ensures)
    (step_leaves a.l a.wanted.now a.scratch.now a.v m.new.scratch z m.auto.scratch (λ i. (c.slice_known-then-n-eq0-1.given i).fits) m.ensures.scratch_left) in record { result = both.0; told = both.1.0; scratch_left = both.1.1 }

pub returns : goal.returns
returns c =
    let a = c.args in
    let n = step_lent a.l a.wanted.now a.scratch.now _ _ _ c.step_number-n.ensures c.lent_in.ensures c.lent_in-2.ensures in
    let both = step_too a.l a.v (lent a.l.part.word a.wanted.now) (lent a.l.part.word a.scratch.now)
    (step_bars a.l a.wanted.now a.scratch.now a.v _ _ n c.if-n-eq0.false c.refused_by.ensures)
    (step_keeps a.l a.wanted.now a.scratch.now a.v _ n c.if-n-eq0.false) in record { result = both.0; told = both.1.0; scratch_left = both.1.1 }
