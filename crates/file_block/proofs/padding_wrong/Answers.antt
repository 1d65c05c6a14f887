-- `file_block::padding_wrong` meets its contract.
use native.Mathlib.Omega.{arith}
use mathlib.Core.Path.{◌≡◌, sym, ap, ◌∙◌}
use mathlib.Core.Bool.{not}
use Rattle.file_block.specs.Block.{used_of}
use Rattle.file_block.proofs.Verdicts.{no_padding, padding_is}
use Rattle.file_block.proofs.padding_wrong.Goals as goal

pub returns-then-u-gt505 : goal.returns-then-u-gt505
returns-then-u-gt505 c =
    let b = c.args.block.now in
    let u : c.used-u.result ≡ used_of b = c.used-u.ensures.0 in
    sym (no_padding b (omega arith))

pub returns : goal.returns
returns c =
    let b = c.args.block.now in
    ap not c.all_ff-clean.ensures ∙ padding_is b c.used-u.result c.used-u.ensures.0
