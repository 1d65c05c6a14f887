-- `c_ordinary::is_resting` meets its contract.
use mathlib.Core.Path.{ap, ◌∙◌}
use mathlib.Core.Bool.{◌&&◌}
use Prim.Native.Nat.{ℕ, ◌+◌, ◌*◌, ◌/◌, ◌%◌}
use lib.Dec.{eqb}
use borrow.Author.Tests.{eq-eqb, ne_eqb, lt-ltb, le-ltb}
use Rattle.c_ordinary.specs.Ordinary.{resting_in}
use Rattle.c_ordinary.proofs.is_resting.Goals as goal

pub returns-then-n-ne0 : goal.returns-then-n-ne0
unfolding resting_in
returns-then-n-ne0 c = simp (ne_eqb (c.args.n.left + 65536 * c.args.n.data + 4294967296 * c.args.n.address) 0 c.if-n-ne0.true)

pub returns-then-n-gt2 : goal.returns-then-n-gt2
unfolding resting_in
returns-then-n-gt2 c = simp (eq-eqb (c.args.n.left + 65536 * c.args.n.data + 4294967296 * c.args.n.address) 0 c.if-n-ne0.false, lt-ltb 2 c.args.n.mode c.if-n-gt2.true)

pub returns : goal.returns
unfolding resting_in
returns c = ap (λ (x : ℕ). eqb (x / 256 % 8) 0 && eqb (x / 16384) 2) c.key_of-key.ensures.0 ∙ simp (eq-eqb (c.args.n.left + 65536 * c.args.n.data + 4294967296 * c.args.n.address) 0 c.if-n-ne0.false, le-ltb 2 c.args.n.mode c.if-n-gt2.false)
