-- A table of refusals: rows in the order in which they are tested, each a number with its own condition.
use Rattle.std.specs.Prelude.{◌≡◌, Bool, true, false, List, [], ◌∷◌, ℕ, eqb, if◌then◌else◌}

-- a number, and whether its condition, taken alone, holds
pub record Row : Type 0 where
  pub number : ℕ
  pub holds : Bool

-- one row of a table: a number and its condition
abbrev pub row : ℕ → Bool → Row
row n b = record { number = n; holds = b }

-- the number of the first row that holds; 0 where none does (R-number-0)
abbrev pub given : List Row → ℕ
given [] = 0
given (r ∷ rs) = if r.holds then r.number else given rs

-- n is the number of a row that holds, and no row above it holds (R-number-0)
pub data Foremost : List Row → ℕ → Type 0 where
  here : {r : Row} {rs : List Row} → r.holds ≡ true → Foremost (r ∷ rs) r.number
  below : {r : Row} {rs : List Row} {n : ℕ} → r.holds ≡ false → Foremost rs n → Foremost (r ∷ rs) n

-- no row holds
pub data NoRow : List Row → Type 0 where
  end : NoRow []
  past : {r : Row} {rs : List Row} → r.holds ≡ false → NoRow rs → NoRow (r ∷ rs)

-- no row has the number 0, which means that nothing is refused
abbrev pub numbered : List Row → Bool
numbered [] = true
numbered (r ∷ rs) = if eqb r.number 0 then false else numbered rs
