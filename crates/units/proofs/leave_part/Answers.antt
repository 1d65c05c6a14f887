use Rattle.units.proofs.Spread.{laid_over}
use Rattle.units.proofs.leave_part.Goals as goal

pub returns : goal.returns
returns c =
    laid_over c.args.s.now c.args.a c.args.n c.requires.0 c.args.residue.now c.copy.new.dst c.requires.1 c.copy.ensures
