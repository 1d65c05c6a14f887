-- The load file: what the writer writes, how the reader judges a file, and what each answers.
use Rattle.std.specs.Prelude.{List, [], ◌∷◌, ◌++◌, Bool, not, ◌||◌, ℕ, zero, suc, ◌+◌}
use Rattle.std.specs.Prelude.{◌*◌, ◌/◌, ◌%◌, get_or, take, drop, length, eqb, Result, Ok, Err}
use Rattle.std.specs.Prelude.{ltb, if◌then◌else◌}
use Rattle.common.specs.Numbers.{Row, row, given}
use Rattle.file_block.specs.Block.{is_letter, block_rows, used_of}
use Rattle.file_codec.specs.Layout.{block_written}
use Rattle.file_check.specs.Refusal.{number_of, refusal_of}
use Rattle.file_check.specs.declared.refusal.FileRefusal.{FileRefusal}

-- the most blocks that a file has (R-file-1)
abbrev pub limit : ℕ
limit = 224

-- the blocks that a payload of so many bytes takes, 505 to a block (R-file-1)
abbrev pub count_of : ℕ → ℕ
count_of size = (size + 504) / 505

-- the blocks from number i of n on, with `left` of them to go and their payload
abbrev pub blocks_of : ℕ → ℕ → ℕ → ℕ → List ℕ → List ℕ
blocks_of zero ℓ i n p = []
blocks_of (suc left) ℓ i n p = block_written ℓ i n (take 505 p) ++ blocks_of left ℓ (i + 1) n (drop 505 p)

-- the load file of a payload under a letter (R-file-1)
abbrev pub file_of : ℕ → List ℕ → List ℕ
file_of ℓ p = blocks_of (count_of (length p)) ℓ 0 (count_of (length p)) p

-- an outcome: refused by a number, or the bytes that come of it
pub data Outcome : Type 0 where
  refused : ℕ → Outcome
  made : List ℕ → Outcome

-- the outcome of a table: 0 lets the bytes through
abbrev pub outcome_by : ℕ → List ℕ → Outcome
outcome_by n bytes = if eqb n 0 then made bytes else refused n

-- what comes of it where there is room for so many bytes: 37 where they do not fit (R-number-37)
abbrev pub in_room : ℕ → Outcome → Outcome
in_room room (refused n) = refused n
in_room room (made bytes) = if ltb room (length bytes) then refused 37 else made bytes

-- what is left of a lent buffer: untouched by a refusal; else the bytes, and past them what was there (R-order-6)
abbrev pub left_in : List ℕ → Outcome → List ℕ
left_in out (refused n) = out
left_in out (made bytes) = bytes ++ drop (length bytes) out

-- 36: the payload is empty or takes more blocks than the limit (R-number-36)
unfoldable pub payload_wrong : ℕ → ℕ → Bool
payload_wrong most size = eqb size 0 || ltb (505 * most) size

-- the writer's refusals before room is asked for (R-order-6)
abbrev pub write_rows : ℕ → ℕ → List ℕ → List Row → List Row
write_rows most ℓ p after = row 32 (not (is_letter ℓ)) ∷ row 36 (payload_wrong most (length p)) ∷ after

-- what the writer makes of a payload under a letter, given room
unfoldable pub writer_of : ℕ → ℕ → List ℕ → Outcome
writer_of most ℓ p = outcome_by (given (write_rows most ℓ p [])) (file_of ℓ p)

-- 30: the file is empty, longer than the limit of blocks, or no whole number of blocks (R-number-30)
unfoldable pub length_wrong : ℕ → ℕ → Bool
length_wrong most size = (eqb size 0 || ltb (512 * most) size) || not (eqb (size % 512) 0)

-- the refusals of the blocks from number i of n on, with `left` of them to go, block by block
abbrev pub blocks_rows : ℕ → ℕ → ℕ → ℕ → List ℕ → List Row → List Row
blocks_rows zero first i n f after = after
blocks_rows (suc left) first i n f after = block_rows first i n (take 512 f) (blocks_rows left first (i + 1) n (drop 512 f) after)

-- the payload of so many blocks: the used bytes of each
abbrev pub payload_of : ℕ → List ℕ → List ℕ
payload_of zero f = []
payload_of (suc left) f = take (used_of (take 512 f)) (drop 5 (take 512 f)) ++ payload_of left (drop 512 f)

-- the payload places of so many blocks, used or not: bytes 5 to 509 of each
abbrev pub places_of : ℕ → List ℕ → List ℕ
places_of zero f = []
places_of (suc left) f = take 505 (drop 5 f) ++ places_of left (drop 512 f)

-- the blocks of a file, by its length
abbrev pub blocks_in : List ℕ → ℕ
blocks_in f = length f / 512

-- the reader's refusals: 30, then block by block 38 or else 31, then 32, 33, 34; then 35, then what is asked after them
-- (R-order-6, R-number-35)
abbrev pub read_rows : ℕ → List ℕ → ℕ → List Row → List Row
read_rows most f asked after =
    row 30 (length_wrong most (length f))
    ∷ blocks_rows (blocks_in f) (get_or f 0 0) 0 (blocks_in f) f (row 35 (not (eqb (get_or f 0 0) asked)) ∷ after)

-- what the reader makes of a file for the letter asked, given room
unfoldable pub reader_of : ℕ → List ℕ → ℕ → Outcome
reader_of most f asked = outcome_by (given (read_rows most f asked [])) (payload_of (blocks_in f) f)

-- the code's answer for an outcome: the refusal that has the number, or how many bytes are written, held, given back
abbrev pub answered_as : Outcome → Result ℕ FileRefusal
answered_as (refused n) = Err (refusal_of n)
answered_as (made bytes) = Ok (length bytes)

-- the same answer by its cases: the refusal's number, 0 where there is none, and the values given (R-promise-2)
abbrev pub answered_told : Result ℕ FileRefusal → ℕ × List ℕ
answered_told (Ok size) = (0, size ∷ [])
answered_told (Err refusal) = (number_of refusal, [])

-- what an outcome tells: its refusal's number, or 0 and how many bytes come of it
abbrev pub told_by : Outcome → ℕ × List ℕ
told_by (refused n) = (n, [])
told_by (made bytes) = (0, length bytes ∷ [])
