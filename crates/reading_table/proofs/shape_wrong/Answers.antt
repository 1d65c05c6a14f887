use mathlib.Core.Path.{refl}
use Rattle.reading_table.specs.Table.{shape_wrong}
use Rattle.reading_table.proofs.shape_wrong.Goals as goal

pub returns : goal.returns
unfolding shape_wrong
returns c = refl
