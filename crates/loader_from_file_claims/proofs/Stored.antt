-- Stored files in a load: the tests are the same with eight blocks and with the limit.
use mathlib.Core.Path.{◌≡◌, ap}
use mathlib.Core.Bool.{Bool, not, ◌||◌}
use mathlib.Core.List.{List, [], ◌∷◌}
use Prim.Native.Nat.{ℕ, ◌≤◌, ◌<◌}
use native.Mathlib.Omega.{arith}
use lib.ListN.{length, get_or}
use lib.Dec.{eqb, ltb}
use Rattle.common.specs.Numbers.{Row, row, given}
use Rattle.file_codec.specs.File.{limit, blocks_in, blocks_rows}
use Rattle.file_claims.proofs.Claims.{raised_length}
use Rattle.loader_from_file.specs.Loads.{file_rows}
use Rattle.loader_from_file_claims.specs.Stored.{file_rows_at}

module _ (f : List ℕ) (asked n : ℕ) where
  abbrev rest : List Row
  rest = blocks_rows (blocks_in f) (get_or f 0 0) 0 (blocks_in f) f (row 35 (not (eqb (get_or f 0 0) asked)) ∷ [])

  pub tests_alike : length f ≤ 4096 → file_rows_at 8 f asked n ≡ file_rows f asked n
  tests_alike h = ap (λ (b : Bool). row 30 (b || ltb n (length f)) ∷ rest) ((raised_length 8 limit (length f) (omega arith)).0 h)

  pub longer_30 : 4096 < length f → given (file_rows_at 8 f asked n) ≡ 30
  longer_30 h = ap (λ (b : Bool). given (row 30 (b || ltb n (length f)) ∷ rest)) ((raised_length 8 limit (length f) (omega arith)).1 h)
