-- `left_over` meets its contract: two folds and one subtraction.
use Rattle.file_check.proofs.Sums.{folds, folds_small}
use Rattle.file_check.proofs.left_over.Goals as goal

pub lowered-requires : goal.lowered-requires
lowered-requires c = folds_small c.args.x _ _ c.ranges.x.fits c.folded.ensures c.folded-2.ensures

pub returns : goal.returns
returns c =
    folds c.args.x _ _ _ c.folded.ensures c.folded-2.ensures c.lowered.ensures
