-- `check` meets its contract: the part that is handed over is the first 510 bytes.
use mathlib.Core.Path.{◌∙◌, ap}
use Rattle.file_check.specs.Check.{check_of}
use Rattle.file_check.proofs.Sums.{part_first}
use Rattle.file_check.proofs.check.Goals as goal

pub returns : goal.returns
returns c = c.check_all.ensures ∙ ap check_of (part_first c.args.block.now c.least-n.result c.least-n.ensures)
