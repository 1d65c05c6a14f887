-- `file_check::is_blank` meets its contract.
use mathlib.Core.Path.{◌∙◌}
use Rattle.file_check.proofs.Verdicts.{blank_short, blank_whole}
use Rattle.file_check.proofs.is_blank.Goals as goal

pub returns-then-block-ne512 : goal.returns-then-block-ne512
returns-then-block-ne512 c = blank_short c.args.block.now c.if-block-ne512.true

pub returns : goal.returns
returns c = c.all_ff.ensures ∙ blank_whole c.args.block.now c.if-block-ne512.false
