-- `c_ordinary::is_ordinary` meets its contract.
use mathlib.Core.Path.{sym, ap, ◌∙◌}
use Prim.Native.Nat.{ℕ}
use lib.Dec.{ltb}
use Rattle.c_ordinary.specs.Ordinary.{ordinary_in}
use Rattle.c_ordinary.proofs.is_ordinary.Goals as goal

pub returns-then-not-is_timed : goal.returns-then-not-is_timed
unfolding ordinary_in
returns-then-not-is_timed c = simp (sym c.is_timed.ensures ∙ c.if-not-is_timed.true)

pub returns-then-is_level : goal.returns-then-is_level
unfolding ordinary_in
returns-then-is_level c = ap (λ (x : ℕ). ltb c.args.b.address x) c.units_of.ensures ∙ simp ((sym c.is_timed.ensures ∙ c.if-not-is_timed.false), sym c.is_level.ensures ∙ c.if-is_level.true)

pub returns : goal.returns
unfolding ordinary_in
returns c = simp ((sym c.is_timed.ensures ∙ c.if-not-is_timed.false), sym c.is_level.ensures ∙ c.if-is_level.false)
