-- The tests of a file in a load, with any limit of blocks.
use Rattle.std.specs.Prelude.{not, ◌||◌, List, [], ◌∷◌, ℕ, length, get_or, eqb, ltb}
use Rattle.common.specs.Numbers.{Row, row}
use Rattle.file_codec.specs.File.{length_wrong, blocks_in, blocks_rows}

-- for a block of n bytes: `file_rows` with `most` in the place of the limit
abbrev pub file_rows_at : ℕ → List ℕ → ℕ → ℕ → List Row
file_rows_at most f asked n =
    row 30 (length_wrong most (length f) || ltb n (length f))
    ∷ blocks_rows (blocks_in f) (get_or f 0 0) 0 (blocks_in f) f (row 35 (not (eqb (get_or f 0 0) asked)) ∷ [])
