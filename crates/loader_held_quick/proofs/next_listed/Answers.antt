-- `loader_held_quick::next_listed` meets its contract: the lowest of those that were looked at, and what is left to look at.
use Rattle.loader_held_quick.proofs.Listing.{looked_none, looked_on, looked_all}
use Rattle.loader_held_quick.proofs.next_listed.Goals as goal

pub loop-p-init : goal.loop-p-init
loop-p-init c = let a = c.args in looked_none a.from a.past a.polls.now c.requires

pub loop-p-preserved : goal.loop-p-preserved
loop-p-preserved c =
    let a = c.args in
    let l = c.loop-p in
    looked_on a.from a.past a.polls.now l.p-index l.r c.lower-r.result l.invariant c.loop-p-test.true c.lower-r.ensures

pub returns : goal.returns
returns c =
    let a = c.args in
    let l = c.loop-p in
    looked_all a.from a.past a.polls.now l.p-index l.r l.invariant c.loop-p-test.false
