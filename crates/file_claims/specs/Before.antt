-- The reader as it was while a blank block had no number of its own.
use Rattle.std.specs.Prelude.{List, [], ◌∷◌, not, ◌||◌, ℕ, zero, suc, ◌+◌, length, get_or, take, drop, eqb, if◌then◌else◌}
use Rattle.common.specs.Numbers.{Row, row, given}
use Rattle.file_check.specs.Check.{check_wrong}
use Rattle.file_block.specs.Block.{letter_wrong, place_wrong, used_wrong, padding_wrong}
use Rattle.file_codec.specs.File.{Outcome, refused, made, outcome_by, length_wrong, blocks_in, payload_of}

-- the refusals of one block: every wrong check is 31
abbrev pub block_before : ℕ → ℕ → ℕ → List ℕ → List Row → List Row
block_before first i n b after =
    row 31 (check_wrong b)
    ∷ row 32 (letter_wrong first b)
    ∷ row 33 (place_wrong i n b)
    ∷ row 34 (used_wrong i n b || padding_wrong b)
    ∷ after

-- those of the blocks from number i of n on, with `left` of them to go
abbrev pub blocks_before : ℕ → ℕ → ℕ → ℕ → List ℕ → List Row → List Row
blocks_before zero first i n f after = after
blocks_before (suc left) first i n f after = block_before first i n (take 512 f) (blocks_before left first (i + 1) n (drop 512 f) after)

-- what the reader made of a file for the letter asked, given room: 30, the blocks, 35 (R-file-4)
unfoldable pub reader_before : ℕ → List ℕ → ℕ → Outcome
reader_before most f asked =
    outcome_by
    (given
    (row 30 (length_wrong most (length f))
    ∷ blocks_before (blocks_in f) (get_or f 0 0) 0 (blocks_in f) f (row 35 (not (eqb (get_or f 0 0) asked)) ∷ [])))
    (payload_of (blocks_in f) f)

-- a number, and an outcome, with 38 told as 31
abbrev pub told : ℕ → ℕ
told n = if eqb n 38 then 31 else n

-- an outcome with 38 told as 31
abbrev pub told_before : Outcome → Outcome
told_before (refused n) = refused (told n)
told_before (made p) = made p
