-- Where a part's blocks lie, as numbers.
use Rattle.std.specs.Prelude.{false, ℕ, if◌then◌else◌}
use Rattle.device.specs.declared.Part.{Part}
use Rattle.device.specs.Parts.{unknown_part, size_of, start_of, length_of}
use Rattle.loader_steps.specs.Front.{no_block}
use Rattle.c_records.specs.declared.BlockNumbers.{BlockNumbers}

-- the part of a number, in byte mode: lengths and addresses in bytes are the same in either mode
abbrev pub part_by : ℕ → Part
part_by n = record { number = n; word = false }

-- the bytes of a part's array; 0 for a number that is no part's
unfoldable pub size_returned : ℕ → ℕ
size_returned n = if unknown_part (part_by n) then 0 else size_of (part_by n)

-- the first byte address and the bytes of a block; both 0 where there is none
unfoldable pub block_returned : ℕ → ℕ → BlockNumbers
block_returned n k =
    if unknown_part (part_by n) then record { first = 0; length = 0 }
    else if no_block (part_by n) k then record { first = 0; length = 0 }
    else record { first = start_of (part_by n) k; length = length_of (part_by n) k }
