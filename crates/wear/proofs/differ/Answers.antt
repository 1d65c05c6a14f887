-- `wear::differ` meets its contract.
use mathlib.Core.Path.{◌∙◌}
use mathlib.Core.Bool.{Bool, false, not, ◌||◌}
use Prim.Native.Nat.{ℕ}
use lib.Dec.{eqb}
use Rattle.std.proofs.Common.{rules, tests}
use Rattle.std.proofs.lemmas.Iterator.{YieldsList-from_slice}
use Rattle.std.proofs.lemmas.Iterator.Consumers.{fold_from_yields_List}
use Rattle.wear.proofs.Walks.{differ_fold}
use Rattle.wear.proofs.differ.Goals as goal

pub returns : goal.returns
returns c =
    let n = c.args.number in
    let s = c.args.s.now in
    fold_from_yields_List _ (λ (b : Bool) (x : ℕ). b || not (eqb x n)) _ _ c.fold.ensures.ran (YieldsList-from_slice s (cc)) (λ a x b q k. search (rules, tests))
    ∙ differ_fold n s false
