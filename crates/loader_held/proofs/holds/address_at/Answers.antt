use lib.ListN.{get_or-eq_default}
use mathlib.Core.Path.{sym}
use Rattle.loader_held.proofs.holds.address_at.Reads as reads
use Rattle.loader_held.proofs.holds.address_at.Lts as lts
use Rattle.loader_held.proofs.holds.address_at.Goals as goal

-- src/holds.rt:232:1
pub returns : goal.returns
returns c = let a = c.args in sym (get_or-eq_default a.addresses.now 0 {n = a.i} c.if-i-addresses.false)
