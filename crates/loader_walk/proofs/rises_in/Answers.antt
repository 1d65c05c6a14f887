-- `loader::walk::rises_in` meets its contract.
use Rattle.std.proofs.Common.{refl, arith, rules, tests, ◌∙◌}
use Rattle.std.proofs.lemmas.Iterator.{YieldsList-from_range}
use Rattle.std.proofs.lemmas.Iterator.Search.{any_from_yields_List}
use Rattle.std.specs.Prelude.{ℕ, get_or}
use Rattle.units.specs.Units.{units}
use Rattle.loader_walk.specs.Walks.{must_rise, rises_in}
use Rattle.loader_walk.proofs.Walking.{rises_any}
use Rattle.loader_walk.proofs.rises_in.Goals as goal

pub returns : goal.returns
unfolding rises_in
returns c =
    let w = units c.args.word c.args.wanted.now in
    let s = units c.args.word c.args.scratch.now in
    any_from_yields_List (λ (j : ℕ). must_rise (get_or s j 0) (get_or w j 0)) _ _ _ c.any.ensures.ran (YieldsList-from_range 0 c.units_of.result _ refl (omega (arith, c.units_of.ensures))) (λ x b q k. search (rules, tests))
    ∙ rises_any _ 0 w s
