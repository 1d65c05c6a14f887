-- The parts we load, each by a short description, and all that follows from it.
use Rattle.std.specs.Prelude.{Bool, true, false, not, ◌&&◌, ◌||◌, List, [], ◌∷◌, ℕ, ◌+◌, ◌-◌, ◌/◌, ◌%◌, ◌≤◌, ◌<◌, eqb, ltb, leb}
use Rattle.std.specs.Prelude.{if◌then◌else◌, map}
use Rattle.device.specs.Blocks.{units_of_all, length_at, offset_at, holder}
use Rattle.device.specs.declared.Part.{Part}
use Rattle.device.specs.declared.Device.{Device}
use Rattle.device.specs.declared.Shape.{Shape}

-- four blocks outward from the boot block: boot, two parameter blocks, main (R-part-2, R-part-3)
abbrev pub four_blocks : ℕ → ℕ → ℕ → Bool → ℕ → Shape
four_blocks boot parameter main top code =
    record { lengths = boot ∷ parameter ∷ parameter ∷ main ∷ 0 ∷ 0 ∷ 0 ∷ []; top = top; code = code }

-- seven blocks outward from the boot block: boot, two parameter blocks, a main block of 98,304 bytes and one of 131,072, and two
-- further ones (R-part-4)
abbrev pub more_blocks : ℕ → Bool → ℕ → Shape
more_blocks further top code =
    record { lengths = 16384 ∷ 8192 ∷ 8192 ∷ 98304 ∷ 131072 ∷ further ∷ further ∷ []; top = top; code = code }

-- the table of parts, lengths in bytes: 28F001BX-T and -B, bench T and B, 28F200BR-T and -B, 28F400BR-T and -B (R-part-1)
unfoldable pub row_of : ℕ → Shape
row_of n =
    if eqb n 1 then four_blocks 8192 4096 114688 true 0x94
    else if eqb n 2 then four_blocks 8192 4096 114688 false 0x95
    else if eqb n 3 then four_blocks 1024 512 14336 true 0x94
    else if eqb n 4 then four_blocks 1024 512 14336 false 0x95
    else if eqb n 5 then more_blocks 0 true 0x2274
    else if eqb n 6 then more_blocks 0 false 0x2275
    else if eqb n 7 then more_blocks 131072 true 0x4470
    else more_blocks 131072 false 0x4471

-- the same description in words: each length halved
unfoldable pub in_words : Shape → Shape
in_words s = record { lengths = map (λ l. l / 2) s.lengths; top = s.top; code = s.code }

-- a part in its units: what one cycle carries, a byte, or in word mode a word (R-part-6)
unfoldable pub shape_of : Part → Shape
shape_of p = if p.word then in_words (row_of p.number) else row_of p.number

-- the block lengths of a description, outward from the boot block
abbrev pub lengths_of : Shape → List ℕ
lengths_of s = s.lengths

-- the units of all blocks of a description
unfoldable pub size_in : Shape → ℕ
size_in s = units_of_all (lengths_of s)

-- the units of its block k
unfoldable pub length_in : Shape → ℕ → ℕ
length_in s k = length_at (lengths_of s) k

-- the units between the boot end and its block k
unfoldable pub offset_in : Shape → ℕ → ℕ
offset_in s k = offset_at (lengths_of s) k

-- the block at a place counted from the boot end
unfoldable pub holder_in : Shape → ℕ → ℕ
holder_in s p = holder (lengths_of s) p

-- a place counted from the boot end, as an address, and an address as such a place: at the top they run against each other
unfoldable pub mirrored : Bool → ℕ → ℕ → ℕ
mirrored top n a = if top then n - 1 - a else a

-- the first address of block k: at the top the boot block comes last
unfoldable pub start_in : Shape → ℕ → ℕ
start_in s k = if s.top then size_in s - offset_in s k - length_in s k else offset_in s k

-- the block that holds an address
unfoldable pub block_in : Shape → ℕ → ℕ
block_in s a = holder_in s (mirrored s.top (size_in s) a)

-- an address lies in block k
pub record Holds (s : Shape) (k a : ℕ) : Type 0 where
  pub from : start_in s k ≤ a
  pub to : a < start_in s k + length_in s k

-- devices 5 to 8: they have WP#, two bands of high VPP, 10H and a word mode
unfoldable pub is_large : Part → Bool
is_large p = leb 5 p.number

-- refusal 1 of a part: its number is not 1 to 8, or it is one of 1 to 4 in word mode (R-number-1)
unfoldable pub unknown_part : Part → Bool
unknown_part p = (eqb p.number 0 || ltb 8 p.number) || (p.word && not (is_large p))

-- refusal 1 of a device: the part is not known, P or E is zero, or S is not 1 to 100 (R-number-1, R-part-5)
unfoldable pub unknown_device : Device → Bool
unknown_device d = (((unknown_part d.part || eqb d.program 0) || eqb d.erase 0) || eqb d.suspend 0) || ltb 100 d.suspend

-- the same of a part: the units of its array
unfoldable pub size_of : Part → ℕ
size_of p = size_in (shape_of p)

-- the units of block k
unfoldable pub length_of : Part → ℕ → ℕ
length_of p k = length_in (shape_of p) k

-- the first address of block k
unfoldable pub start_of : Part → ℕ → ℕ
start_of p k = start_in (shape_of p) k

-- the block that holds an address
unfoldable pub block_of : Part → ℕ → ℕ
block_of p a = block_in (shape_of p) a

-- the part's own identifier code: in byte mode its low byte
unfoldable pub code_of : Part → ℕ
code_of p = if p.word then (shape_of p).code else (shape_of p).code % 256

-- the last address of block k
abbrev pub last_of : Part → ℕ → ℕ
last_of p k = start_of p k + length_of p k - 1

-- a device's row in the table of the first four: each block's first and last address, outward from the boot block, then the size and
-- the identifier code (R-part-2, R-part-3)
abbrev pub table_row : ℕ → List ℕ
table_row n =
    let p : Part = record { number = n; word = false } in
    start_of p 0 ∷ last_of p 0 ∷ start_of p 1 ∷ last_of p 1 ∷ start_of p 2 ∷ last_of p 2 ∷ start_of p 3 ∷ last_of p 3 ∷ size_of p
    ∷ code_of p ∷ []

-- where block k lies: its first address and its length; 0 and 0 where there is none
abbrev pub lies_at : Part → ℕ → List ℕ → List ℕ
lies_at p k rest = (if eqb (length_of p k) 0 then 0 else start_of p k) ∷ length_of p k ∷ rest

-- a row in the table of devices 5 to 8, in byte mode or in word mode: where each of seven blocks lies, outward from the boot block,
-- then the size and the identifier code (R-part-4)
abbrev pub large_row : ℕ → Bool → List ℕ
large_row n w =
    let p : Part = record { number = n; word = w } in
    lies_at p 0 (lies_at p 1 (lies_at p 2 (lies_at p 3 (lies_at p 4 (lies_at p 5 (lies_at p 6 (size_of p ∷ code_of p ∷ [])))))))
