use Rattle.units.proofs.Words.{get_law, get_past}
use native.Mathlib.Omega.{arith}
use mathlib.Core.Path.{sym}
use Rattle.units.proofs.get_word.Goals as goal

pub returns-then-w-s : goal.returns-then-w-s
returns-then-w-s c =
    let f = c.first_byte-a.ensures in
    let h = c.if-w-s.true in
    get_law c.args.s.now c.args.w.word _ _ _ f (omega arith) c.wide-lo.ensures.0 c.wide-hi.ensures.0

pub returns : goal.returns
returns c = sym (get_past c.args.s.now c.args.w.word c.if-w-s.false)
