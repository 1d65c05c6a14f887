-- `c_ordinary::is_level` meets its contract.
use native.Mathlib.Omega.{arith}
use borrow.Author.Tests.{eq-eqb, ne_eqb, lt-ltb, le-ltb, le-leb, lt-leb}
use Rattle.c_ordinary.specs.Ordinary.{level_in}
use Rattle.c_ordinary.proofs.is_level.Goals as goal

pub returns-then-oe-ne0 : goal.returns-then-oe-ne0
unfolding level_in
returns-then-oe-ne0 c = simp (ne_eqb c.args.oe 0 c.if-oe-ne0.true)

pub returns-then-wp-gt1 : goal.returns-then-wp-gt1
unfolding level_in
returns-then-wp-gt1 c = simp (eq-eqb c.args.oe 0 c.if-oe-ne0.false, lt-ltb 1 c.args.wp c.if-wp-gt1.true)

pub returns-then-rp-eq0 : goal.returns-then-rp-eq0
unfolding level_in
returns-then-rp-eq0 c = simp (eq-eqb c.args.oe 0 c.if-oe-ne0.false, le-ltb 1 c.args.wp c.if-wp-gt1.false, eq-eqb c.args.rp 0 (let l = c.if-rp-eq0.true in omega (arith, l)))

pub returns-then-rp-gt2 : goal.returns-then-rp-gt2
unfolding level_in
returns-then-rp-gt2 c = simp (eq-eqb c.args.oe 0 c.if-oe-ne0.false, le-ltb 1 c.args.wp c.if-wp-gt1.false, ne_eqb c.args.rp 0 c.if-rp-eq0.false, lt-ltb 2 c.args.rp c.if-rp-gt2.true)

pub returns-then-vpp-ge11400 : goal.returns-then-vpp-ge11400
unfolding level_in
returns-then-vpp-ge11400 c = simp (eq-eqb c.args.oe 0 c.if-oe-ne0.false, le-ltb 1 c.args.wp c.if-wp-gt1.false, ne_eqb c.args.rp 0 c.if-rp-eq0.false, le-ltb 2 c.args.rp c.if-rp-gt2.false, le-leb 11400 c.args.vpp c.if-vpp-ge11400.true)

pub returns-then-vpp-ge4500 : goal.returns-then-vpp-ge4500
unfolding level_in
returns-then-vpp-ge4500 c = simp (eq-eqb c.args.oe 0 c.if-oe-ne0.false, le-ltb 1 c.args.wp c.if-wp-gt1.false, ne_eqb c.args.rp 0 c.if-rp-eq0.false, le-ltb 2 c.args.rp c.if-rp-gt2.false, lt-leb 11400 c.args.vpp c.if-vpp-ge11400.false, le-leb 4500 c.args.vpp c.if-vpp-ge4500.true)

pub returns : goal.returns
unfolding level_in
returns c = simp (eq-eqb c.args.oe 0 c.if-oe-ne0.false, le-ltb 1 c.args.wp c.if-wp-gt1.false, ne_eqb c.args.rp 0 c.if-rp-eq0.false, le-ltb 2 c.args.rp c.if-rp-gt2.false, lt-leb 11400 c.args.vpp c.if-vpp-ge11400.false, lt-leb 4500 c.args.vpp c.if-vpp-ge4500.false)
