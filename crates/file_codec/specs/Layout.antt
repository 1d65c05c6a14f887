-- One block of a load file: how it is written.
use Rattle.std.specs.Prelude.{List, [], ◌∷◌, ◌++◌, ℕ, ◌-◌, ◌/◌, ◌%◌, length, replicate}
use Rattle.file_check.specs.Check.{check_of}

-- the first five bytes: letter, block number, count of blocks, bytes used (high byte first) (R-file-1)
abbrev pub head_of : ℕ → ℕ → ℕ → ℕ → List ℕ
head_of ℓ i n u = ℓ ∷ i ∷ n ∷ u / 256 ∷ u % 256 ∷ []

-- the first 510 bytes: the head, the payload of this block, FFH up to byte 509 (R-file-1)
abbrev pub front_of : ℕ → ℕ → ℕ → List ℕ → List ℕ
front_of ℓ i n chunk = head_of ℓ i n (length chunk) ++ (chunk ++ replicate (505 - length chunk) 255)

-- bytes with their check behind them, high byte first (R-file-1)
abbrev pub sealed : List ℕ → List ℕ
sealed bs = bs ++ (check_of bs / 256 ∷ check_of bs % 256 ∷ [])

-- block i of n, with its part of the payload (R-file-1)
unfoldable pub block_written : ℕ → ℕ → ℕ → List ℕ → List ℕ
block_written ℓ i n chunk = sealed (front_of ℓ i n chunk)
