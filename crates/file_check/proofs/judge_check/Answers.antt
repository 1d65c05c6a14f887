-- `file_check::judge_check` meets its contract.
use mathlib.Core.Path.{◌≡◌, sym, ◌∙◌}
use mathlib.Core.List.{List}
use Prim.Native.Nat.{ℕ}
use lib.ListN.{take, get_or}
use Rattle.file_check.specs.Check.{check_of, stored_of, pair}
use Rattle.file_check.proofs.Verdicts.{check_right, check_blank, check_not_right}
use Rattle.file_check.proofs.judge_check.Goals as goal

-- what the two reads and their joining gave is the check that the block carries
carried : (block : List ℕ) (r high low : ℕ) → r ≡ pair high low → high ≡ get_or block 510 0 → low ≡ get_or block 511 0 → r ≡ stored_of block
carried block r high low j h l = j ∙ (λ i. pair (h i) (l i))

pub returns-then-right-stored : goal.returns-then-right-stored
returns-then-right-stored c = sym (check_right _ (sym c.check-right.ensures ∙ c.if-right-stored.true ∙ carried c.args.block.now c.joined-stored.result _ _ c.joined-stored.ensures.0 c.nth.ensures c.nth-2.ensures))

pub returns-then-is_blank : goal.returns-then-is_blank
returns-then-is_blank c = sym (check_blank _ (sym c.is_blank.ensures ∙ c.if-is_blank.true))

pub returns : goal.returns
returns c =
    let b = c.args.block.now in
    sym
    (check_not_right b (λ (e : check_of (take 510 b) ≡ stored_of b). c.if-right-stored.false (c.check-right.ensures ∙ e ∙ sym (carried b c.joined-stored.result _ _ c.joined-stored.ensures.0 c.nth.ensures c.nth-2.ensures)))
    (sym c.is_blank.ensures ∙ c.if-is_blank.false))
