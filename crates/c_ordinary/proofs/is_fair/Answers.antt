-- `c_ordinary::is_fair` meets its contract.
use mathlib.Core.Path.{sym, ap, ◌∙◌}
use Prim.Native.Nat.{ℕ}
use lib.Dec.{ltb}
use Rattle.c_ordinary.specs.Ordinary.{fair_in}
use Rattle.c_ordinary.proofs.is_fair.Goals as goal

pub returns-then-not-is_timed : goal.returns-then-not-is_timed
unfolding fair_in
returns-then-not-is_timed c = simp (sym c.is_timed.ensures ∙ c.if-not-is_timed.true)

pub returns-then-is_fair_level : goal.returns-then-is_fair_level
unfolding fair_in
returns-then-is_fair_level c = ap (λ (x : ℕ). ltb c.args.b.address x) c.units_of.ensures ∙ simp ((sym c.is_timed.ensures ∙ c.if-not-is_timed.false), sym c.is_fair_level.ensures ∙ c.if-is_fair_level.true)

pub returns : goal.returns
unfolding fair_in
returns c = simp ((sym c.is_timed.ensures ∙ c.if-not-is_timed.false), sym c.is_fair_level.ensures ∙ c.if-is_fair_level.false)
