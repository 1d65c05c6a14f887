-- `loader_held_steps::start_held` meets its contract, by the laws of lent bytes.
use mathlib.Core.Path.{sym, ◌∙◌}
use lib.ListN.{length}
use Rattle.units.specs.Units.{lent}
use Rattle.loader_held_steps.proofs.HeldLending.{start_lent, start_gives, start_bars}
use Rattle.loader_held_steps.proofs.HeldTold.{start_too}
use Rattle.loader_held_steps.proofs.start_held.Goals as goal

pub returns-then-n-eq0 : goal.returns-then-n-eq0
returns-then-n-eq0 c =
    let a = c.args in
    let u = a.part.word in
    let xs = a.wanted.now in
    let ys = a.scratch.now in
    let bs = a.addresses.now in
    let rs = length a.room.now in
    let n = start_lent a.verify a.part a.p a.block xs ys bs rs _ _ _ c.start_number-n.ensures c.lent_in.ensures c.lent_in-2.ensures in
    let z = sym n ∙ c.if-n-eq0.true in
    let both = start_too a.verify a.part a.p a.block (lent u xs) (lent u ys) bs rs
    (start_gives a.verify a.part a.p a.block xs ys bs rs _ _ z c.begin.ensures c.response_at.ensures) in record { result = both.0; told = both.1 }

pub returns : goal.returns
returns c =
    let a = c.args in
    let u = a.part.word in
    let xs = a.wanted.now in
    let ys = a.scratch.now in
    let bs = a.addresses.now in
    let rs = length a.room.now in
    let n = start_lent a.verify a.part a.p a.block xs ys bs rs _ _ _ c.start_number-n.ensures c.lent_in.ensures c.lent_in-2.ensures in
    let both = start_too a.verify a.part a.p a.block (lent u xs) (lent u ys) bs rs
    (start_bars a.verify a.part a.p a.block xs ys bs rs _ _ _ n c.if-n-eq0.false c.begin-2.ensures c.refused_by.ensures) in record { result = both.0; told = both.1 }
