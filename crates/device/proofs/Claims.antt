-- What is claimed of the parts, in one place.
use mathlib.Core.Path.{◌≡◌, refl, sym}
use mathlib.Core.Bool.{true, false}
use mathlib.Core.List.{List, [], ◌∷◌}
use Prim.Native.Nat.{ℕ, ◌+◌, ◌*◌, ◌≤◌, ◌<◌}
use Rattle.common.proofs.Choice.{only}
use Rattle.device.specs.Blocks.{units_of_all, length_at, offset_at, holder, Lies}
use Rattle.device.specs.Parts.{row_of, in_words, shape_of, size_in, length_in, offset_in, start_in, Holds, size_of, length_of, start_of, block_of, code_of, table_row, large_row}
use Rattle.device.specs.declared.Part.{Part}
use Rattle.device.proofs.Cover.{covered, alone, ends_inside}
use Rattle.device.proofs.BlockAddresses.{named, sole, fits, size_some}
use Rattle.device.proofs.TwoWidths.{in_bytes, word_wide, size_twice, block_length_twice}

-- For any list of lengths: every place is in the block named for it, in no other, and every block ends inside.
pub lists_cover : (ls : List ℕ) (p : ℕ) → p < units_of_all ls → Lies ls (holder ls p) p
lists_cover = covered

pub lists_apart : (ls : List ℕ) (j k p : ℕ) → Lies ls j p → Lies ls k p → j ≡ k
lists_apart ls j k p x y = only (holder ls p) j k (sym (alone ls j p x)) (sym (alone ls k p y))

pub lists_end_inside : (ls : List ℕ) (k : ℕ) → offset_at ls k + length_at ls k ≤ units_of_all ls
lists_end_inside = ends_inside

-- The same of every part's addresses, whichever end the boot block is at.
pub blocks_cover : (p : Part) (a : ℕ) → a < size_of p → Holds (shape_of p) (block_of p a) a
unfolding size_of block_of
blocks_cover p a h = named (shape_of p) a h

pub blocks_apart : (p : Part) (k a : ℕ) → Holds (shape_of p) k a → block_of p a ≡ k
unfolding block_of
blocks_apart p k a h = sole (shape_of p) k a h

pub blocks_end_inside : (p : Part) (k : ℕ) → start_of p k + length_of p k ≤ size_of p
unfolding start_of length_of size_of
blocks_end_inside p k = fits (shape_of p) k

-- The table of the four devices: each block's first and last address, outward from the boot block, then the size and the
-- identifier code.
pub four_devices :
    (table_row 1 ≡ 0x1E000 ∷ 0x1FFFF ∷ 0x1D000 ∷ 0x1DFFF ∷ 0x1C000 ∷ 0x1CFFF ∷ 0x00000 ∷ 0x1BFFF ∷ 131072 ∷ 0x94 ∷ [])
    × (table_row 2 ≡ 0x00000 ∷ 0x01FFF ∷ 0x02000 ∷ 0x02FFF ∷ 0x03000 ∷ 0x03FFF ∷ 0x04000 ∷ 0x1FFFF ∷ 131072 ∷ 0x95 ∷ [])
    × (table_row 3 ≡ 0x3C00 ∷ 0x3FFF ∷ 0x3A00 ∷ 0x3BFF ∷ 0x3800 ∷ 0x39FF ∷ 0x0000 ∷ 0x37FF ∷ 16384 ∷ 0x94 ∷ [])
    × (table_row 4 ≡ 0x0000 ∷ 0x03FF ∷ 0x0400 ∷ 0x05FF ∷ 0x0600 ∷ 0x07FF ∷ 0x0800 ∷ 0x3FFF ∷ 16384 ∷ 0x95 ∷ [])
unfolding row_of shape_of size_of length_of start_of code_of size_in length_in offset_in start_in
four_devices = (refl, refl, refl, refl)

-- Devices 5 to 8, lengths and addresses in bytes in byte mode and in words in word mode.
pub large_devices :
    (large_row 5 false
    ≡ 0x3C000 ∷ 16384 ∷ 0x3A000 ∷ 8192 ∷ 0x38000 ∷ 8192 ∷ 0x20000 ∷ 98304 ∷ 0x00000 ∷ 131072 ∷ 0 ∷ 0 ∷ 0 ∷ 0 ∷ 262144 ∷ 0x74 ∷ [])
    × (large_row 6 false
    ≡ 0x00000 ∷ 16384 ∷ 0x04000 ∷ 8192 ∷ 0x06000 ∷ 8192 ∷ 0x08000 ∷ 98304 ∷ 0x20000 ∷ 131072 ∷ 0 ∷ 0 ∷ 0 ∷ 0 ∷ 262144 ∷ 0x75 ∷ [])
    × (large_row 7 false
    ≡ 0x7C000 ∷ 16384 ∷ 0x7A000 ∷ 8192 ∷ 0x78000 ∷ 8192 ∷ 0x60000 ∷ 98304 ∷ 0x40000 ∷ 131072 ∷ 0x20000 ∷ 131072 ∷ 0x00000 ∷ 131072 ∷ 524288 ∷ 0x70 ∷ [])
    × (large_row 8 false
    ≡ 0x00000 ∷ 16384 ∷ 0x04000 ∷ 8192 ∷ 0x06000 ∷ 8192 ∷ 0x08000 ∷ 98304 ∷ 0x20000 ∷ 131072 ∷ 0x40000 ∷ 131072 ∷ 0x60000 ∷ 131072 ∷ 524288 ∷ 0x71 ∷ [])
    × (large_row 5 true
    ≡ 0x1E000 ∷ 8192 ∷ 0x1D000 ∷ 4096 ∷ 0x1C000 ∷ 4096 ∷ 0x10000 ∷ 49152 ∷ 0x00000 ∷ 65536 ∷ 0 ∷ 0 ∷ 0 ∷ 0 ∷ 131072 ∷ 0x2274 ∷ [])
    × (large_row 6 true
    ≡ 0x00000 ∷ 8192 ∷ 0x02000 ∷ 4096 ∷ 0x03000 ∷ 4096 ∷ 0x04000 ∷ 49152 ∷ 0x10000 ∷ 65536 ∷ 0 ∷ 0 ∷ 0 ∷ 0 ∷ 131072 ∷ 0x2275 ∷ [])
    × (large_row 7 true
    ≡ 0x3E000 ∷ 8192 ∷ 0x3D000 ∷ 4096 ∷ 0x3C000 ∷ 4096 ∷ 0x30000 ∷ 49152 ∷ 0x20000 ∷ 65536 ∷ 0x10000 ∷ 65536 ∷ 0x00000 ∷ 65536 ∷ 262144 ∷ 0x4470 ∷ [])
    × (large_row 8 true
    ≡ 0x00000 ∷ 8192 ∷ 0x02000 ∷ 4096 ∷ 0x03000 ∷ 4096 ∷ 0x04000 ∷ 49152 ∷ 0x10000 ∷ 65536 ∷ 0x20000 ∷ 65536 ∷ 0x30000 ∷ 65536 ∷ 262144 ∷ 0x4471 ∷ [])
unfolding row_of in_words shape_of size_of length_of start_of code_of size_in length_in offset_in start_in
large_devices = (refl, refl, refl, refl, refl, refl, refl, refl)

-- The same part in words: every length is half of that in bytes. Of addresses model_types speaks, by the one way between the two kinds.
pub sizes_halved : (n : ℕ) → size_of (in_bytes n) ≡ 2 * size_of (word_wide n)
sizes_halved = size_twice

pub lengths_halved : (n k : ℕ) → length_of (in_bytes n) k ≡ 2 * length_of (word_wide n) k
lengths_halved = block_length_twice

-- Every part has some units.
pub sizes_some : (p : Part) → 0 < size_of p
sizes_some = size_some
