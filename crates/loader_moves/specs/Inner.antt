-- What only the code's shape asks for. No record that a start or a step takes meets it: there the place after p is p + 1 (`past_is` of
-- loader_steps).
use Rattle.std.specs.Prelude.{ℕ, ◌+◌, ltb, if◌then◌else◌}

-- the place after p, no further than the end
unfoldable pub past : ℕ → ℕ → ℕ
past p n = if ltb p n then p + 1 else p
