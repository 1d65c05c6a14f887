use Rattle.units.proofs.Spread.{filled}
use Rattle.units.proofs.erase_part.Goals as goal

pub returns : goal.returns
returns c =
    filled c.args.s.now c.args.a c.args.n c.requires c.fill.new.s c.fill.ensures
