-- `wear_print::width` meets its contract.
use mathlib.Core.Path.{sym}
use native.Mathlib.Omega.{arith}
use Rattle.wear_print.proofs.Laying.{width_one, width_is}
use Rattle.wear_print.proofs.width.Goals as goal

pub returns-in-Some : goal.returns-in-Some
returns-in-Some c =
    let e = c.in-Some.ensures in
    (sym (width_is 19 c.args.n c.in-Some.k (omega (arith, e.bound)) e.power_le e.next_power_gt), omega (arith, e.bound))

pub returns-in-None : goal.returns-in-None
returns-in-None c = (sym (width_one 18 c.args.n (omega (arith, c.in-None.ensures.none))), omega arith)
