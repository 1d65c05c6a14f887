-- `loader_blocks::unlike_piece` meets its contract: one for each pair that differs, added up.
use Rattle.std.proofs.Common.{◌≡◌, arith, rules, tests}
use Rattle.std.proofs.lemmas.Iterator.{YieldsList-from_slice, YieldsList-from_zip, YieldsList-from_map}
use Rattle.std.proofs.lemmas.Iterator.Consumers.{YieldsList-at, sum_by_from_yields_List}
use Rattle.std.specs.List.{zip, sum_by}
use Rattle.loader_blocks.proofs.Laws.{one, costs_pairs}
use Rattle.loader_blocks.proofs.unlike_piece.Goals as goal

pub returns : goal.returns
returns c =
    let w = c.args.wanted.now in
    let s = c.args.scratch.now in
    let sum : c.sum.result ≡ sum_by one (zip w s) = sum_by_from_yields_List one (zip w s) c.map.result c.sum.result c.sum.ensures.ran (YieldsList-from_map _ one (YieldsList-at c.map.ensures.source (YieldsList-from_zip (YieldsList-from_slice w cc) (YieldsList-from_slice s cc))) c.map.ensures.closure (λ x r q k. search (rules, tests))) in
    omega (arith, sum, costs_pairs 0 w s c.requires.0)
