-- What an answer tells by its cases is what the payload, or the file, tells.
use mathlib.Core.Path.{◌≡◌, refl, ap, ◌∙◌}
use mathlib.Core.Bool.{Bool, true, false}
use mathlib.Core.List.{List, [], ◌∷◌}
use Prim.Native.Nat.{ℕ, ◌-◌}
use lib.Dec.{eqb}
use lib.IntN.{ℤ}
use lib.Signed.{lt_z}
use lib.Ieee.{Float, binary64, of_int}
use Rattle.std.specs.Prelude.{if◌then◌else◌}
use Rattle.common.proofs.Choice.{if_ap}
use Rattle.file_codec.specs.File.{Outcome, refused, made}
use Rattle.reading_pair.specs.Pairs.{interpolated}
use Rattle.reading_table.specs.Table.{volts_of, knots, table_number}
use Rattle.reading_table.specs.Search.{seek_of}
use Rattle.reading.specs.declared.Reading.TheVariants.{Temperature, Below, Above}
use Rattle.reading.specs.declared.ReadingAnswer.{ReadingAnswer}
use Rattle.reading.specs.declared.ReadingAnswer.TheVariants.{Read, Refused}
use Rattle.reading.specs.Readings.{heat_of, pair_at, reading_of, reading_number, reading_answer, table_answer, answer_by, answer_as, reading_told, answer_told, side_of, heat_at, told_at, told_as}

-- the two tests of a reading
sides : (under over : Bool) (low high inside : Float)
    → reading_told (if under then Below low else if over then Above high else Temperature inside)
    ≡ (if under then 1 else if over then 2 else 0, if under then low else if over then high else inside)
sides true over low high inside = refl
sides false true low high inside = refl
sides false false low high inside = refl

reading_told_lem : (p : List ℕ) (x : ℤ) → reading_told (reading_of p x) ≡ (side_of p x, heat_at p x)
unfolding reading_of side_of heat_at
reading_told_lem p x =
    sides (lt_z x (volts_of p 0)) (lt_z (volts_of p (knots p - 1)) x) (heat_of p 0) (heat_of p (knots p - 1)) (interpolated (pair_at p (seek_of p x)) (of_int binary64 x))

-- by the number that lets it through or not
by_number : (n : ℕ) (p : List ℕ) (x : ℤ) → answer_told (answer_by n (reading_of p x)) ≡ told_at n p x
unfolding told_at
by_number n p x =
    if_ap answer_told (eqb n 0) (Read (reading_of p x)) (Refused n)
    ∙ ap (λ (z : ℕ × Float). if eqb n 0 then (0, z ∷ []) else (n, [])) (reading_told_lem p x)

answer_told_lem : (p : List ℕ) (x : ℤ) → answer_told (reading_answer p x) ≡ told_at (reading_number p x) p x
unfolding reading_answer
answer_told_lem p x = by_number (reading_number p x) p x

file_told : (x : ℤ) (o : Outcome) → answer_told (answer_as x o) ≡ told_as x o
unfolding table_answer
file_told x (refused n) = refl
file_told x (made p) = by_number (table_number p) p x

-- an answer's equation with what it tells, and with what is left
pub told_too : {r : ReadingAnswer} (p : List ℕ) (x : ℤ) → r ≡ reading_answer p x → (r ≡ reading_answer p x) × (answer_told r ≡ told_at (reading_number p x) p x)
told_too p x e = (e, ap answer_told e ∙ answer_told_lem p x)

pub file_too : {r : ReadingAnswer} {Left : Type 0} (x : ℤ) (o : Outcome) → r ≡ answer_as x o → Left → (r ≡ answer_as x o) × ((answer_told r ≡ told_as x o) × Left)
file_too x o e left = (e, (ap answer_told e ∙ file_told x o, left))
