-- `file_block::judge_block` meets its contract.
use borrow.Author.Tests.{eq-eqb, ne_eqb}
use mathlib.Core.Path.{sym, ◌∙◌}
use Rattle.std.proofs.lemmas.Result.{err_from_is_err_and}
use Rattle.file_block.specs.Block.{unsound_number}
use Rattle.file_block.proofs.Tables.{fault_given, place_byte}
use Rattle.file_block.proofs.Verdicts.{check_first, check_passed}
use Rattle.file_block.proofs.judge_block.Goals as goal

pub returns-then-block-ne512 : goal.returns-then-block-ne512
unfolding unsound_number
returns-then-block-ne512 c = simp (ne_eqb _ _ c.if-block-ne512.true)

pub returns-in_err-judge_check : goal.returns-in_err-judge_check
returns-in_err-judge_check c =
    let a = c.args in
    let p = err_from_is_err_and c.from_residual.result c.from_residual.ensures.1 in
    rw (p.1, p.2) (check_first a.first a.i a.n a.block.now c.in_err-judge_check.field-0.0 c.in_err-judge_check.ensures ∙ sym (fault_given a.first a.i a.n a.block.now c.if-block-ne512.false))

pub returns-then-letter_wrong : goal.returns-then-letter_wrong
unfolding unsound_number
returns-then-letter_wrong c = let k = check_passed c.args.block.now (sym c.in_ok-judge_check.ensures) in simp (sym c.letter_wrong.ensures ∙ c.if-letter_wrong.true, k.0, k.1, eq-eqb _ _ c.if-block-ne512.false)

pub returns-then-place_wrong : goal.returns-then-place_wrong
unfolding unsound_number
returns-then-place_wrong c = let k = check_passed c.args.block.now (sym c.in_ok-judge_check.ensures) in simp (sym c.place_wrong.ensures ∙ c.if-place_wrong.true, sym c.letter_wrong.ensures ∙ c.if-letter_wrong.false, k.0, k.1, eq-eqb _ _ c.if-block-ne512.false)

pub used_wrong-requires : goal.used_wrong-requires
used_wrong-requires c =
    let a = c.args in
    place_byte a.i a.n a.block.now (c.shared_slice_known-1.given 1).fits (sym c.place_wrong.ensures ∙ c.if-place_wrong.false)

pub returns-then-used_wrong : goal.returns-then-used_wrong
unfolding unsound_number
returns-then-used_wrong c = let k = check_passed c.args.block.now (sym c.in_ok-judge_check.ensures) in simp (sym c.used_wrong.ensures ∙ c.if-used_wrong.true, sym c.place_wrong.ensures ∙ c.if-place_wrong.false, sym c.letter_wrong.ensures ∙ c.if-letter_wrong.false, k.0, k.1, eq-eqb _ _ c.if-block-ne512.false)

pub returns-then-padding_wrong : goal.returns-then-padding_wrong
unfolding unsound_number
returns-then-padding_wrong c = let k = check_passed c.args.block.now (sym c.in_ok-judge_check.ensures) in simp (sym c.padding_wrong.ensures ∙ c.if-padding_wrong.true, sym c.used_wrong.ensures ∙ c.if-used_wrong.false, sym c.place_wrong.ensures ∙ c.if-place_wrong.false, sym c.letter_wrong.ensures ∙ c.if-letter_wrong.false, k.0, k.1, eq-eqb _ _ c.if-block-ne512.false)

pub returns : goal.returns
unfolding unsound_number
returns c = let k = check_passed c.args.block.now (sym c.in_ok-judge_check.ensures) in simp (sym c.padding_wrong.ensures ∙ c.if-padding_wrong.false, sym c.used_wrong.ensures ∙ c.if-used_wrong.false, sym c.place_wrong.ensures ∙ c.if-place_wrong.false, sym c.letter_wrong.ensures ∙ c.if-letter_wrong.false, k.0, k.1, eq-eqb _ _ c.if-block-ne512.false)
