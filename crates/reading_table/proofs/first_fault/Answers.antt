-- `reading_table::first_fault` meets its contract.
use mathlib.Core.Path.{◌≡◌, ◌∙◌}
use mathlib.Core.Bool.{true, false}
use Rattle.std.proofs.Common.{rules, tests}
use Rattle.std.proofs.lemmas.Iterator.{first_from_Range}
use Rattle.reading_table.specs.Table.{good_at}
use Rattle.reading_table.proofs.Faulty.{fault_found}
use Rattle.reading_table.proofs.first_fault.Goals as goal

pub returns : goal.returns
returns c =
    let p = c.args.s.now in
    c.unwrap_or.ensures
    ∙ fault_found p c.find.result
    (first_from_Range _ _ _ _ (λ i. good_at p i ≡ false) (λ i. good_at p i ≡ true) c.find.ensures.ran (λ x q k. search (rules, tests)) (λ x q k. search (rules, tests)))
