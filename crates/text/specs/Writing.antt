-- Text written into lent bytes, piece behind piece.
use Rattle.std.specs.Prelude.{◌≡◌, List, [], ◌∷◌, ◌++◌, ℕ, zero, suc, ◌+◌, ◌≤◌, min, length, take, drop}
use Prim.Native.Char.{code}
use Prim.Native.String.{String, len, char_at}
use Rattle.common.specs.Lists.{copied}
use Rattle.text.specs.declared.Told.{Told}

-- the bytes of a quoted text in plain letters
abbrev pub bytes_from : ℕ → ℕ → String → List ℕ
bytes_from zero i s = []
bytes_from (suc k) i s = code (char_at s i) ∷ bytes_from k (i + 1) s

-- the bytes of a quoted text, whole
abbrev pub bytes : String → List ℕ
bytes s = bytes_from (len s) 0 s

-- a text laid over xs from place a on, as far as xs goes
abbrev pub laid_at : List ℕ → ℕ → List ℕ → List ℕ
laid_at xs a text = take a xs ++ copied (drop a xs) text

-- the place behind it: the end of xs at most
abbrev pub behind : List ℕ → ℕ → List ℕ → ℕ
behind xs a text = min (a + length text) (length xs)

-- so many bytes in front of xs. The second part follows from the first; stated, it lets a program lend those bytes on
abbrev pub Used : ℕ → List ℕ → Type 0
Used n xs = (n ≤ length xs) × (n ≡ length (take n xs))

-- a text in front of a lent slice, said on a stream
abbrev pub told_on : ℕ → List ℕ → List ℕ → Told
told_on stream out text = record { used = behind out 0 text; stream = stream }
