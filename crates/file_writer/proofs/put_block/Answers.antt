-- `file_writer::put_block` meets its contract.
use Rattle.file_writer.proofs.SliceParts.{block_put}
use native.Mathlib.Omega.{arith}
use mathlib.Core.Path.{◌∙◌}
use Rattle.file_writer.proofs.put_block.Goals as goal

pub returns : goal.returns
returns c =
    let a = c.args in
    c.put_check.ensures
    ∙ block_put a.letter a.i a.n a.chunk.now a.out.now _ _ _ (omega arith) (omega arith) c.put_head.ensures c.copy.ensures c.fill.ensures
