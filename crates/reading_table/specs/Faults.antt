-- The knot at fault in a table.
use Rattle.std.specs.Prelude.{List, ℕ, zero, suc, ◌+◌, if◌then◌else◌}
use Rattle.reading_table.specs.Table.{knots, good_at}

-- from knot i on, with k to go: the first that is not good; where there is none, the one behind the last
unfoldable pub fault_from : ℕ → ℕ → List ℕ → ℕ
fault_from zero i p = i
fault_from (suc k) i p = if good_at p i then fault_from k (i + 1) p else i

-- .. of all knots
unfoldable pub fault_of : List ℕ → ℕ
unfolding fault_from
fault_of p = fault_from (knots p) 0 p
