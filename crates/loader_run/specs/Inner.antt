-- How many turns the definition of a run makes at most. Not part of what a buyer must believe.
use Rattle.std.specs.Prelude.{ℕ, ◌+◌, ◌*◌}

-- the turns that the definition makes: no load of n units takes more (`always_ends`)
abbrev pub bound : ℕ → ℕ
bound n = n * 65539 + 196622
