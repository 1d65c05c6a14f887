-- Where the blocks of the parts lie, as a table. None of this is part of what a buyer must believe: that the parts' descriptions give the
-- same is proved (`blocks_are`).
use Rattle.std.specs.Prelude.{ℕ, eqb, if◌then◌else◌}
use Rattle.device.specs.declared.Span.{Span}

-- a block by its first address and length
abbrev pub lying : ℕ → ℕ → Span
lying first len = record { first = first; length = len }

-- a block of a part that has four
unfoldable pub four_at : ℕ → ℕ → ℕ → ℕ → ℕ → ℕ → ℕ → ℕ → Span
four_at k a b c d boot parameter main =
    if eqb k 0 then lying a boot
    else if eqb k 1 then lying b parameter
    else if eqb k 2 then lying c parameter
    else if eqb k 3 then lying d main
    else lying 0 0

-- a block of a 28F200BR
unfoldable pub five_at : ℕ → ℕ → ℕ → ℕ → ℕ → ℕ → Span
five_at k a b c d e =
    if eqb k 0 then lying a 16384
    else if eqb k 1 then lying b 8192
    else if eqb k 2 then lying c 8192
    else if eqb k 3 then lying d 98304
    else if eqb k 4 then lying e 131072
    else lying 0 0

-- a block of a 28F400BR
unfoldable pub seven_at : ℕ → ℕ → ℕ → ℕ → ℕ → ℕ → ℕ → ℕ → Span
seven_at k a b c d e f g =
    if eqb k 0 then lying a 16384
    else if eqb k 1 then lying b 8192
    else if eqb k 2 then lying c 8192
    else if eqb k 3 then lying d 98304
    else if eqb k 4 then lying e 131072
    else if eqb k 5 then lying f 131072
    else if eqb k 6 then lying g 131072
    else lying 0 0

-- a block by the part's number
unfoldable pub block_at : ℕ → ℕ → Span
block_at n k =
    if eqb n 1 then four_at k 122880 118784 114688 0 8192 4096 114688
    else if eqb n 2 then four_at k 0 8192 12288 16384 8192 4096 114688
    else if eqb n 3 then four_at k 15360 14848 14336 0 1024 512 14336
    else if eqb n 4 then four_at k 0 1024 1536 2048 1024 512 14336
    else if eqb n 5 then five_at k 245760 237568 229376 131072 0
    else if eqb n 6 then five_at k 0 16384 24576 32768 131072
    else if eqb n 7 then seven_at k 507904 499712 491520 393216 262144 131072 0
    else if eqb n 8 then seven_at k 0 16384 24576 32768 131072 262144 393216
    else lying 0 0
