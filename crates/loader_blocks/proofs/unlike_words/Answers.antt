-- `loader_blocks::unlike_words` meets its contract: one for each place where the two differ, added up.
use Rattle.std.proofs.Common.{refl, ap, List, take, arith, rules, tests}
use Rattle.std.proofs.lemmas.Iterator.{YieldsList-from_range, YieldsList-from_map}
use Rattle.std.proofs.lemmas.Iterator.Consumers.{YieldsList-at, sum_by_from_yields_List, fits_by_from_yields_list}
use Rattle.std.specs.Prelude.{◌≡◌, true, ℕ, eqb, get_or, length, if◌then◌else◌}
use Rattle.std.specs.List.{range_with_len, sum_by}
use lib.Seq.{take_all}
use Rattle.units.specs.Units.{pairs}
use Rattle.units.proofs.Widths.{units_length}
use Rattle.loader_blocks.specs.Blocks.{costs}
use Rattle.loader_blocks.proofs.Laws.{costs_places, costs_few}
use Rattle.loader_blocks.proofs.Lent.{units_few}
use Rattle.loader_blocks.proofs.unlike_words.Goals as goal

pub sum-requires-clause-fits : goal.sum-requires-clause-fits
sum-requires-clause-fits c =
    let w = pairs c.args.wanted.now in
    let s = pairs (take (length c.args.wanted.now) c.args.scratch.now) in
    let n : ℕ = length w in
    let h = λ (j : ℕ). if eqb (get_or s j 0) (get_or w j 0) then 0 else 1 in
    let sum : sum_by h (range_with_len 0 n) ≡ costs n 1 0 w s = omega (arith, costs_places 0 n 0 w s) in
    fits_by_from_yields_list h (range_with_len 0 n) c.map.result _ (YieldsList-from_map _ h (YieldsList-at c.map.ensures.source (YieldsList-from_range 0 c.units_in.result n refl (omega (arith, c.units_in.ensures, units_length true c.args.wanted.now)))) c.map.ensures.closure (λ x r q k. search (rules, tests))) (omega (arith, sum, costs_few n 0 w s, c.requires.1, units_few true c.args.wanted.now))

pub returns : goal.returns
returns c =
    let w = pairs c.args.wanted.now in
    let s = pairs (take (length c.args.wanted.now) c.args.scratch.now) in
    let n : ℕ = length w in
    let h = λ (j : ℕ). if eqb (get_or s j 0) (get_or w j 0) then 0 else 1 in
    let sum : c.sum.result ≡ sum_by h (range_with_len 0 n) = sum_by_from_yields_List h (range_with_len 0 n) c.map.result c.sum.result c.sum.ensures.ran (YieldsList-from_map _ h (YieldsList-at c.map.ensures.source (YieldsList-from_range 0 c.units_in.result n refl (omega (arith, c.units_in.ensures, units_length true c.args.wanted.now)))) c.map.ensures.closure (λ x r q k. search (rules, tests))) in
    let z : costs n 1 0 w s ≡ costs n 1 0 w (pairs c.args.scratch.now) = ap (λ (x : List ℕ). costs n 1 0 w (pairs x)) (take_all (length c.args.wanted.now) c.args.scratch.now (omega (arith, c.requires.0))) in
    omega (arith, sum, costs_places 0 n 0 w s, z)
