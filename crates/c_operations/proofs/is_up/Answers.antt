-- `c_operations::is_up` meets its contract.
use borrow.Author.Tests.{eq-eqb, ne_eqb, le-leb, lt-leb}
use Rattle.c_operations.specs.Operations.{up_in}
use Rattle.c_operations.proofs.is_up.Goals as goal

pub returns-then-rp-eq0 : goal.returns-then-rp-eq0
unfolding up_in
returns-then-rp-eq0 c = simp (eq-eqb c.args.rp 0 c.if-rp-eq0.true)

pub returns-then-vpp-ge11400 : goal.returns-then-vpp-ge11400
unfolding up_in
returns-then-vpp-ge11400 c = simp (ne_eqb c.args.rp 0 c.if-rp-eq0.false, le-leb 11400 c.args.vpp c.if-vpp-ge11400.true)

pub returns : goal.returns
unfolding up_in
returns c = simp (ne_eqb c.args.rp 0 c.if-rp-eq0.false, lt-leb 11400 c.args.vpp c.if-vpp-ge11400.false)
