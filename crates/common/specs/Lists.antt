-- Lists of bytes: a copy, a part that is overwritten, and lists whose elements are bytes.
use Rattle.std.specs.Prelude.{List, ◌++◌, ℕ, ◌<◌, length, get_or, take, drop}

-- what is left of dst after src is copied over its front, as far as both go
abbrev pub copied : List ℕ → List ℕ → List ℕ
copied dst src = take (length dst) src ++ drop (length src) dst

-- xs with ys laid over it from place a on
abbrev pub overlaid : List ℕ → ℕ → List ℕ → List ℕ
overlaid xs a ys = take a xs ++ (ys ++ drop (length ys) (drop a xs))

-- the first i of zs, then what xs has from place i on: a loop that lays zs over xs, after i turns
abbrev pub overwritten : ℕ → List ℕ → List ℕ → List ℕ
overwritten i zs xs = take i zs ++ drop i xs

-- every element is below 256
abbrev pub Bytes : List ℕ → Type 0
Bytes xs = (i : ℕ) → get_or xs i 0 < 256
