-- What an answer tells by its cases is what the text tells.
use mathlib.Core.Path.{◌≡◌, refl, ap, ◌∙◌}
use mathlib.Core.Bool.{Bool, true, false, ◌||◌}
use mathlib.Core.List.{[], ◌∷◌}
use Prim.Native.Nat.{ℕ, ◌+◌}
use Rattle.std.specs.Prelude.{Result, Ok, Err, if◌then◌else◌}
use Rattle.reading_text.specs.declared.Scan.{Scan}
use Rattle.reading_text.specs.declared.WrongLine.{WrongLine}
use Rattle.reading_text.specs.Tables.{is_begun, table_read, table_told, scan_told}

-- the two tests of a scan's end, one after the other and as one
ends_once : (a b : Bool) (n : ℕ) → table_told (if a then Err (record { line = n + 1 }) else if b then Err (record { line = n + 1 }) else Ok n) ≡ (if a || b then (n + 1, []) else (0, n ∷ []))
ends_once true b n = refl
ends_once false true n = refl
ends_once false false n = refl

-- a table with what it tells
pub end_told : {r : Result ℕ WrongLine} (s : Scan) → r ≡ table_read s → table_told r ≡ scan_told s
unfolding table_read scan_told
end_told s e = ap table_told e ∙ ends_once s.wrong (is_begun s) s.knots
