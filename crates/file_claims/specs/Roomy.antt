-- The reader and the writer by their own answers and by what they leave in the buffer that is lent.
use Rattle.std.specs.Prelude.{◌≡◌, List, ◌++◌, ℕ, ◌≤◌, length, drop, Ok}
use Rattle.file_codec.specs.File.{limit, in_room, left_in, reader_of, writer_of, answered_as}

-- the reader, asked for a letter and lent `out`, answers p's length and leaves p at the front, with what was behind it (R-file-3)
abbrev pub ReadsInto : List ℕ → ℕ → List ℕ → List ℕ → Type 0
ReadsInto f asked out p =
    (answered_as (in_room (length out) (reader_of limit f asked)) ≡ Ok (length p))
    × (left_in out (in_room (length out) (reader_of limit f asked)) ≡ p ++ drop (length p) out)

-- the writer, lent `out`, answers f's length and leaves f at the front, with what was behind it
abbrev pub WritesInto : ℕ → List ℕ → List ℕ → List ℕ → Type 0
WritesInto ℓ p out f =
    (answered_as (in_room (length out) (writer_of limit ℓ p)) ≡ Ok (length f))
    × (left_in out (in_room (length out) (writer_of limit ℓ p)) ≡ f ++ drop (length f) out)

-- our writer, given room: it writes f into any buffer that is no shorter than f (R-file-3)
abbrev pub WritesGivenRoom : ℕ → List ℕ → List ℕ → Type 0
WritesGivenRoom ℓ p f = (out : List ℕ) → length f ≤ length out → WritesInto ℓ p out f
