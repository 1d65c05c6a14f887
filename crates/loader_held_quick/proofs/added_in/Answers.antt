-- `loader_held_quick::added_in` meets its contract.
use Rattle.loader_held_quick.proofs.added_in.Goals as goal

pub returns-then-c-le9000000000 : goal.returns-then-c-le9000000000
returns-then-c-le9000000000 c = let h = c.if-c-le9000000000.true in (c.added_rising-c.ensures h, h)

pub returns : goal.returns
returns c = c.added_searched.ensures
