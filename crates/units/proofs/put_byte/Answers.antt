use lib.Seq.{set_out}
use mathlib.Core.Path.{sym}
use Rattle.units.proofs.put_byte.Goals as goal

pub returns : goal.returns
returns c = sym (set_out c.args.s.now c.args.at c.args.b c.if-at-s.false)
