-- How the code tests a line: the length first, then its places in four runs. Not part of what a buyer must believe: that these tests
-- together are `is_line` is proved (`line_runs`).
use Rattle.std.specs.Prelude.{Bool, ◌&&◌, List, [], ◌∷◌, ℕ, suc, get_or}
use Rattle.trace_lines.specs.Lines.{Place, a_kind, a_digit, a_hex, is_at, space, newline}

-- a test, and then each place of a form against the list from place i on
abbrev pub met_from : Bool → List Place → ℕ → List ℕ → Bool
met_from t [] i xs = t
met_from t (p ∷ ps) i xs = met_from (t && is_at p (get_or xs i 0)) ps (suc i) xs

-- kind, RP# and OE#
abbrev pub front_run : List Place
front_run = a_kind ∷ space ∷ a_digit ∷ space ∷ a_digit ∷ space ∷ []

-- VPP
abbrev pub supply_run : List Place
supply_run = a_digit ∷ a_digit ∷ a_digit ∷ a_digit ∷ a_digit ∷ space ∷ []

-- the address
abbrev pub address_run : List Place
address_run = a_hex ∷ a_hex ∷ a_hex ∷ a_hex ∷ space ∷ []

-- data
abbrev pub back_run : List Place
back_run = a_hex ∷ a_hex ∷ newline ∷ []
