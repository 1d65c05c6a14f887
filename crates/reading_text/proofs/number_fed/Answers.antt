-- `reading_text::number_fed` meets its contract.
use mathlib.Core.Path.{ap, ◌∙◌}
use Rattle.std.proofs.Common.{rules, tests}
use Rattle.std.proofs.lemmas.Iterator.{YieldsList-from_slice}
use Rattle.std.proofs.lemmas.Iterator.Consumers.{fold_from_yields_List}
use Rattle.reading_text.specs.Numbers.{number_fed, fed, fed_all}
use Rattle.reading_text.proofs.Walks.{fed_fold}
use Rattle.reading_text.proofs.number_fed.Goals as goal

pub returns : goal.returns
unfolding number_fed
returns c =
    let text = c.args.text.now in
    fold_from_yields_List _ fed _ _ c.fold.ensures.ran (YieldsList-from_slice text (cc)) (λ a x b q k. search (rules, tests))
    ∙ fed_fold _ text
    ∙ ap (λ n. fed_all n text) c.number_start.ensures
