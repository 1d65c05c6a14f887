-- `loader_held_lists::some_lies` meets its contract.
use Rattle.std.proofs.Common.{rules, tests, ◌∙◌}
use Rattle.std.proofs.lemmas.Iterator.{YieldsList-from_slice}
use Rattle.std.proofs.lemmas.Iterator.Search.{any_from_yields_List}
use Rattle.std.specs.Prelude.{Bool, ◌&&◌, ◌||◌, ℕ, ltb, leb}
use Rattle.loader_held_lists.proofs.Looking.{some_any}
use Rattle.loader_held_lists.proofs.some_lies.Goals as goal

pub returns : goal.returns
returns c =
    let a = c.args in
    let f : ℕ → Bool = λ x. (a.endless || ltb x a.to) && leb a.from x in
    any_from_yields_List f _ _ _ c.any.ensures.ran (YieldsList-from_slice a.addresses.now cc) (λ x b q k. search (rules, tests)) ∙ some_any f a.addresses.now
