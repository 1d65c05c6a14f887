-- Digests of bytes and patterns of bytes.
use Rattle.std.specs.Prelude.{List, [], ◌∷◌, ◌++◌, ℕ, zero, suc, ◌+◌, ◌*◌, ◌-◌, ◌%◌, drop, fold, length, min, replicate, take}
use Rattle.vectors_text.specs.Text.{number_read, field_of}

-- one byte more of a digest
abbrev pub digest_more : ℕ → ℕ → ℕ
digest_more h x = (31 * h + x) % 65521

-- a number for a whole list
unfoldable pub digest_of : List ℕ → ℕ
digest_of xs = fold digest_more 0 xs

-- n bytes of a pattern that stands at v: each number is d more than the one before, modulo m
abbrev pub pattern_from : ℕ → ℕ → ℕ → ℕ → List ℕ
pattern_from m d zero v = []
pattern_from m d (suc n) v = v % 256 ∷ pattern_from m d n ((v + d) % m)

-- a pattern of numbers from 0 to top
unfoldable pub pattern_of : ℕ → ℕ → ℕ → ℕ → List ℕ
pattern_of top first step n = pattern_from (top + 1) (step % (top + 1)) n (first % (top + 1))

-- xs with a pattern over as much of its front as is asked for: a row has the first number at a place and the step four letters on
unfoldable pub sown : List ℕ → ℕ → List ℕ → ℕ → List ℕ
sown xs asked row at =
    pattern_of 256 (number_read 10 (field_of row at 3)) (number_read 10 (field_of row (at + 4) 3)) (min asked (length xs))
    ++ drop (min asked (length xs)) xs

-- xs with n times the byte v from a place on, as far as it goes
unfoldable pub stretched : List ℕ → ℕ → ℕ → ℕ → List ℕ
stretched xs at n v = take at xs ++ (replicate (min n (length xs - at)) v ++ drop (at + n) xs)
