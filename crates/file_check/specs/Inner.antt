-- What only the code's shape asks for: the check's sums are kept in four columns.
use Rattle.std.specs.Prelude.{◌≡◌, List, [], ◌∷◌, ℕ, ◌+◌, ◌*◌, ◌≤◌, length, drop}
use Rattle.file_check.specs.Check.{wsum}
use Rattle.file_check.specs.declared.Columns.{Columns}

-- the numbers of a list added up
abbrev pub sum_of : List ℕ → ℕ
sum_of [] = 0
sum_of (x ∷ xs) = x + sum_of xs

-- one byte more in each column
abbrev pub next_of : Columns → ℕ → ℕ → ℕ → ℕ → Columns
next_of s a b c d =
    let e : ℕ = s.s0 + a in
    let f : ℕ = s.s1 + b in
    let g : ℕ = s.s2 + c in
    let h : ℕ = s.s3 + d in
    record { s0 = e; s1 = f; s2 = g; s3 = h; t0 = s.t0 + e; t1 = s.t1 + f; t2 = s.t2 + g; t3 = s.t3 + h }

-- four times the sums of sums counts the last column right, and the others three times, twice and once too often
abbrev pub over_of : Columns → ℕ
over_of s = 3 * s.s0 + 2 * s.s1 + s.s2

-- the sums are those of at most 510 bytes, so they stay far below 32 bits
pub record Small (s : Columns) : Type 0 where
  pub few : s.s0 + s.s1 + s.s2 + s.s3 ≤ 130050
  pub many : s.t0 + s.t1 + s.t2 + s.t3 ≤ 66325500

-- the columns hold the sums of these bytes
pub record Held (s : Columns) (xs : List ℕ) : Type 0 where
  pub sum : s.s0 + s.s1 + s.s2 + s.s3 ≡ sum_of xs
  pub weight : 4 * (s.t0 + s.t1 + s.t2 + s.t3) ≡ wsum 1 xs + over_of s
  pub few : s.s0 + s.s1 + s.s2 + s.s3 ≤ 255 * length xs
  pub many : s.t0 + s.t1 + s.t2 + s.t3 ≤ 130050 * length xs

-- those of the bytes from a place on
pub record From (s : Columns) (place : ℕ) (xs : List ℕ) : Type 0 where
  pub held : Held s (drop place xs)
