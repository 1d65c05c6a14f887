-- The cycle of a record line laid over newlines is a trace line.
use mathlib.Core.Path.{◌≡◌, ◌∙◌}
use mathlib.Core.List.{List, [], ◌∷◌, ◌++◌}
use Prim.Native.Nat.{ℕ, min}
use native.Mathlib.Omega.{arith}
use lib.ListN.{length, take, drop, length-take}
use lib.Seq.{take_all}
use Rattle.common.specs.Lists.{copied}
use Rattle.recording_lines.specs.Inner.{trace_line}

-- 20 newlines
abbrev pub newlines : List ℕ
newlines = 10 ∷ 10 ∷ 10 ∷ 10 ∷ 10 ∷ 10 ∷ 10 ∷ 10 ∷ 10 ∷ 10 ∷ 10 ∷ 10 ∷ 10 ∷ 10 ∷ 10 ∷ 10 ∷ 10 ∷ 10 ∷ 10 ∷ 10 ∷ []

-- 19 bytes laid over them
pub laid : (xs : List ℕ) → length xs ≡ 31 → copied newlines (take 19 xs) ≡ trace_line xs
laid xs e =
    let l : length (take 19 xs) ≡ 19 = length-take 19 xs ∙ (let z : min 19 (length xs) ≡ 19 = omega (arith, e) in z) in
    (λ j. take_all 20 (take 19 xs) (omega (arith, l)) j ++ drop (l j) newlines)
