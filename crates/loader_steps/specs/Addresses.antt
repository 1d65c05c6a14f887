-- Where the cycles of a load go that are about the block as a whole.
use Rattle.std.specs.Prelude.{ℕ}
use Rattle.device.specs.Parts.{start_of}
use Rattle.loader.specs.declared.Loader.{Loader}

-- the block's first address
unfoldable pub first_address : Loader → ℕ
first_address l = start_of l.part l.block
