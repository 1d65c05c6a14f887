-- What is claimed of readings, in one place.
use mathlib.Core.Path.{◌≡◌, refl}
use mathlib.Core.List.{List, [], ◌++◌}
use mathlib.Core.Logic.{◌↔◌}
use Prim.Native.Nat.{ℕ, ◌+◌, ◌*◌, ◌-◌, ◌≤◌, ◌<◌, ◌^◌}
use native.Mathlib.Nat.{le_trans}
use native.Mathlib.Omega.{arith}
use lib.Dec.{T, lit≤}
use lib.IntN.{ℤ, nat_abs, ◌-ℤ◌, ◌*ℤ◌}
use lib.ListN.{length, get_or, drop, replicate}
use lib.Signed.{le_z, lt_z}
use lib.Ieee.{Float, binary64, of_int, le}
use lib.Ieee.Scale.{finite}
use Rattle.common.specs.Numbers.{Foremost, NoRow}
use Rattle.file_codec.specs.File.{limit, made, file_of, reader_of, writer_of, in_room, left_in}
use Rattle.reading_pair.specs.Pairs.{interpolated}
use Rattle.reading_pair.specs.Order.{LiesBetween, not_minus_zero}
use Rattle.reading_table.specs.Table.{knots, most_knots, volts_of, tenths_of, table_number}
use Rattle.reading_table.specs.Search.{halving, seek_of, rounds_left}
use Rattle.reading_table.proofs.Seeking.{seek_few}
use Rattle.reading_table.proofs.Rounds.{rounds_few}
use Rattle.reading.specs.declared.Reading.{Reading}
use Rattle.reading.specs.declared.Reading.TheVariants.{Temperature, Below, Above}
use Rattle.reading.specs.declared.ReadingAnswer.TheVariants.{Read, Refused}
use Rattle.reading.specs.Readings.{heat_of, pair_at, reading_of, reading_rows, reading_answer, table_answer, answer_as}
use Rattle.reading_claims.specs.Tables.{Table, PairHolds, Told, Inside, Warming}
use Rattle.reading_claims.specs.Longest.{knots_from}
use Rattle.reading_claims.specs.Answers.{degrees, payload_in, answer_from, room_left, reader_rows, answer_rows}
use Rattle.reading_claims.proofs.Judged as judged
use Rattle.reading_claims.proofs.PairFound as found
use Rattle.reading_claims.proofs.Exact as exact
use Rattle.reading_claims.proofs.Sides as sides
use Rattle.reading_claims.proofs.Bounds as bounds
use Rattle.reading_claims.proofs.Paired as paired
use Rattle.reading_claims.proofs.Unjudged as unjudged
use Rattle.reading_claims.proofs.Rising as rising
use Rattle.reading_claims.proofs.Products as products
use Rattle.reading_claims.proofs.Files as files
use Rattle.reading_claims.proofs.Longest as longest

-- A payload is let through exactly where it is a table: whole knots, two or more, in range and strictly rising.
pub judged_exactly : (p : List ℕ) → table_number p ≡ 0 ↔ Table p
judged_exactly = judged.judged_exactly

-- Between the first and the last knot the pair that is used holds the voltage, and no other pair does.
pub pair_holds : (p : List ℕ) (x : ℤ) → Table p → Inside p x → PairHolds p (seek_of p x) x
pair_holds = found.found_holds

pub one_pair : (p : List ℕ) (x : ℤ) (i j : ℕ) → Table p → PairHolds p i x → PairHolds p j x → i ≡ j
one_pair = found.one_holds

-- A reading is below exactly where the voltage is under the first knot, above exactly where it is over the last, each with that
-- knot's temperature; else it is the temperature by the pair.
pub below_exactly : (p : List ℕ) (x : ℤ) → Table p → (r : Float) → reading_of p x ≡ Below r ↔ (T (lt_z x (volts_of p 0)) × (r ≡ heat_of p 0))
below_exactly = sides.below_exactly

pub above_exactly : (p : List ℕ) (x : ℤ) → Table p → (r : Float) → reading_of p x ≡ Above r ↔ (T (lt_z (volts_of p (knots p - 1)) x) × (r ≡ heat_of p (knots p - 1)))
above_exactly = sides.above_exactly

pub temperature_exactly : (p : List ℕ) (x : ℤ) → Table p → (r : Float)
    → reading_of p x ≡ Temperature r ↔ (Inside p x × (r ≡ interpolated (pair_at p (seek_of p x)) (of_int binary64 x)))
temperature_exactly = sides.temperature_exactly

-- Told without the search: a reading is the temperature r exactly where some pair of neighbouring knots holds the voltage and r is its
-- interpolation.
pub told_by_pair : (p : List ℕ) (x : ℤ) → Table p → (r : Float)
    → reading_of p x ≡ Temperature r ↔ ((i : ℕ) × PairHolds p i x × (r ≡ interpolated (pair_at p i) (of_int binary64 x)))
told_by_pair = paired.paired

-- Every pair is exact at both its knots, and every knot is read as its own temperature: the f64 of its whole tenths.
pub lower_exact : (p : List ℕ) → Table p → (i : ℕ) → i + 1 < knots p → interpolated (pair_at p i) (of_int binary64 (volts_of p i)) ≡ heat_of p i
lower_exact = exact.lower_exact

pub upper_exact : (p : List ℕ) → Table p → (i : ℕ) → i + 1 < knots p → interpolated (pair_at p i) (of_int binary64 (volts_of p (i + 1))) ≡ heat_of p (i + 1)
upper_exact = exact.upper_exact

pub knot_exact : (p : List ℕ) → Table p → (j : ℕ) → j < knots p → reading_of p (volts_of p j) ≡ Temperature (heat_of p j)
knot_exact = exact.knot_exact

-- What is multiplied is whole, and the product is below 2 to the 53: f64 holds it without rounding.
pub few_bits : (p : List ℕ) → Table p → (i : ℕ) → i + 1 < knots p → (x : ℤ) → T (le_z (volts_of p i) x) → T (le_z x (volts_of p (i + 1)))
    → nat_abs ((tenths_of p (i + 1) -ℤ tenths_of p i) *ℤ (x -ℤ volts_of p i)) < 2 ^ 53
few_bits = products.few_bits

-- A reading lies between the temperatures of its pair, whichever way they go, in f64's own order.
pub lies_between : (p : List ℕ) (x : ℤ) → Table p → Inside p x → let i = seek_of p x in let r = interpolated (pair_at p i) (of_int binary64 x) in
    (T (le_z (tenths_of p i) (tenths_of p (i + 1))) → LiesBetween (tenths_of p i) r (tenths_of p (i + 1))) × (T (lt_z (tenths_of p (i + 1)) (tenths_of p i)) → LiesBetween (tenths_of p (i + 1)) r (tenths_of p i))
lies_between = bounds.lies_inside

-- Of a table every reading is finite and never the zero with a minus sign, below and above too. Of any payload and of any file the same
-- holds of every reading that is given: `at_plain` and `file_plain`.
pub plain_reading : (p : List ℕ) (x : ℤ) → Table p → T (finite (degrees (reading_of p x))) × T (not_minus_zero (degrees (reading_of p x)))
plain_reading = bounds.plain_reading

-- A payload that nobody judged. It is refused by n exactly where n's row is the first that holds: 40 by its length, 41 by the first knot
-- and the last, 41 by the pair that the search finds. It is read exactly where none of them holds.
pub at_refused : (p : List ℕ) (x : ℤ) (n : ℕ) → (n ≡ 0 → ⊥) → reading_answer p x ≡ Refused n ↔ Foremost (reading_rows p x) n
at_refused = unjudged.refused_exactly

pub at_read : (p : List ℕ) (x : ℤ) (r : Reading) → reading_answer p x ≡ Read r ↔ (NoRow (reading_rows p x) × (r ≡ reading_of p x))
at_read = unjudged.read_exactly

-- A table is never refused: for what was judged these tests change nothing. What is refused, the judgement of the whole refuses by the same
-- number.
pub at_table : (p : List ℕ) (x : ℤ) → Table p → reading_answer p x ≡ Read (reading_of p x)
at_table = unjudged.table_reads

pub at_same_number : (p : List ℕ) (x : ℤ) (n : ℕ) → (n ≡ 0 → ⊥) → reading_answer p x ≡ Refused n → table_number p ≡ n
at_same_number = unjudged.same_number

-- Whatever the payload, a temperature is the interpolation of two neighbouring knots in range, the upper above the lower, with the voltage
-- between them; and no reading is a NaN, an infinity or the zero with a minus sign.
pub at_told : (p : List ℕ) (x : ℤ) (r : Float) → reading_answer p x ≡ Read (Temperature r) → Told p x r
at_told = unjudged.told

pub at_plain : (p : List ℕ) (x : ℤ) (r : Reading) → reading_answer p x ≡ Read r → T (finite (degrees r)) × T (not_minus_zero (degrees r))
at_plain = unjudged.plain_answer

-- Inside a pair a reading rises with the voltage where the temperatures do, and falls where they fall.
pub pair_rises : (p : List ℕ) → Table p → (i : ℕ) → i + 1 < knots p → (x y : ℤ) → T (le_z (volts_of p i) x) → T (le_z x y) → T (le_z y (volts_of p (i + 1)))
    → T (le_z (tenths_of p i) (tenths_of p (i + 1))) → T (le (interpolated (pair_at p i) (of_int binary64 x)) (interpolated (pair_at p i) (of_int binary64 y)))
pair_rises = rising.pair_rises

pub pair_falls : (p : List ℕ) → Table p → (i : ℕ) → i + 1 < knots p → (x y : ℤ) → T (le_z (volts_of p i) x) → T (le_z x y) → T (le_z y (volts_of p (i + 1)))
    → T (lt_z (tenths_of p (i + 1)) (tenths_of p i)) → T (le (interpolated (pair_at p i) (of_int binary64 y)) (interpolated (pair_at p i) (of_int binary64 x)))
pair_falls = rising.pair_falls

-- A table whose temperatures never fall from knot to knot never reads lower for more voltage, below and above it too.
pub table_rises : (p : List ℕ) → Table p → Warming p → (x y : ℤ) → T (le_z x y) → T (le (degrees (reading_of p x)) (degrees (reading_of p y)))
table_rises = rising.table_rises

-- The search takes at most k halvings in a table of at most 2 to the k knots: fifteen in a file's.
pub few_halvings : (p : List ℕ) (x : ℤ) (k : ℕ) → knots p ≤ 2 ^ k → seek_of p x ≡ halving k p x 0 (knots p - 1)
few_halvings = seek_few

pub few_knots : (f : List ℕ) (letter : ℕ) (p : List ℕ) → reader_of limit f letter ≡ made p → knots p ≤ most_knots
few_knots = files.few_knots

pub most_knots_lem : most_knots ≡ 18853
most_knots_lem = refl

-- Every number of knots from 2 to 18,853 is reached: knots one microvolt apart are a table, its file is written, and gives its readings.
pub every_length : (n : ℕ) → 2 ≤ n → n ≤ most_knots → let p = knots_from n 0 in
    (knots p ≡ n) × Table p × (writer_of limit 75 p ≡ made (file_of 75 p)) × ((room : List ℕ) (x : ℤ) → 6 * n ≤ length room → answer_from (file_of 75 p) 75 room x ≡ Read (reading_of p x))
every_length n h k = (longest.count n h k, longest.is_table n h k, longest.written n h k, longest.read n h k)

pub fifteen_halvings : (f : List ℕ) (letter : ℕ) (p : List ℕ) (x : ℤ) → reader_of limit f letter ≡ made p → seek_of p x ≡ halving 15 p x 0 (knots p - 1)
fifteen_halvings f letter p x e = seek_few p x 15 (le_trans (files.few_knots f letter p e) (lit≤ tt))

-- So does the code's own loop: its measure is `rounds_left`, each turn lowers it, and it begins with at most fifteen in a file's table.
pub fifteen_rounds : (f : List ℕ) (letter : ℕ) (p : List ℕ) → reader_of limit f letter ≡ made p → rounds_left 0 (knots p - 1) ≤ 15
fifteen_rounds f letter p e = rounds_few 15 64 (knots p - 1 - 0) (let h = files.few_knots f letter p e in let k : 18853 ≤ 2 ^ 15 = lit≤ tt in omega (arith, h, k))

-- The numbers of a reading from a file: n is given exactly where its row is the first that holds (the reader's 30,
-- block by block 38 or else 31, then 32, 33, 34; 35, 37, then 40, 41), a reading exactly where no row holds.
pub refused_exactly : (f : List ℕ) (letter : ℕ) (room : List ℕ) (x : ℤ) (n : ℕ) → (n ≡ 0 → ⊥) → answer_from f letter room x ≡ Refused n ↔ Foremost (answer_rows f letter (length room)) n
refused_exactly = files.refused_exactly

pub read_exactly : (f : List ℕ) (letter : ℕ) (room : List ℕ) (x : ℤ) (r : Reading)
    → answer_from f letter room x ≡ Read r ↔ (NoRow (answer_rows f letter (length room)) × (r ≡ reading_of (payload_in f) x))
read_exactly = files.read_exactly

-- A reading from a file is finite and never the zero with a minus sign.
pub file_plain : (f : List ℕ) (letter : ℕ) (room : List ℕ) (x : ℤ) (r : Reading) → answer_from f letter room x ≡ Read r → T (finite (degrees r)) × T (not_minus_zero (degrees r))
file_plain = files.read_plain

-- A stored file, of at most 4,096 bytes, is answered as it was with a limit of eight blocks, refusals included, and leaves the same in the
-- room.
pub stored_reading : (f : List ℕ) (letter : ℕ) (room : List ℕ) (x : ℤ) → length f ≤ 4096
    → (answer_as x (in_room (length room) (reader_of 8 f letter)) ≡ answer_from f letter room x) × (left_in room (in_room (length room) (reader_of 8 f letter)) ≡ room_left f letter room)
stored_reading = files.stored_reads

-- A file of another letter never gives a reading; one that was written under a letter is refused 35 for every other.
pub letter_is : (f : List ℕ) (letter : ℕ) (room : List ℕ) (x : ℤ) (r : Reading) → answer_from f letter room x ≡ Read r → get_or f 0 0 ≡ letter
letter_is = files.letter_is

pub other_letter : (letter : ℕ) (p f room : List ℕ) (x : ℤ) → writer_of limit letter p ≡ made f → (asked : ℕ) → (letter ≡ asked → ⊥)
    → (answer_from f asked room x ≡ Refused 35) × (room_left f asked room ≡ room)
other_letter = files.written_other

-- A blank file gives no reading, whatever letter is asked: 38, and the room is left.
pub blank_file : (n asked : ℕ) (room : List ℕ) (x : ℤ) → 0 < n → n ≤ limit
    → (answer_from (replicate (512 * n) 255) asked room x ≡ Refused 38) × (room_left (replicate (512 * n) 255) asked room ≡ room)
blank_file = files.blank_read

-- Under its own letter what was written is read as the payload itself is.
pub own_letter : (letter : ℕ) (p f room : List ℕ) (x : ℤ) → writer_of limit letter p ≡ made f → length p ≤ length room → answer_from f letter room x ≡ table_answer p x
own_letter = files.written_reads

-- A refusal of the reader leaves the room as it was; where it refuses nothing, the payload is in front and what was behind it stays.
pub reader_leaves : (f : List ℕ) (letter : ℕ) (room : List ℕ) (n : ℕ) → Foremost (reader_rows f letter (length room) []) n → (x : ℤ)
    → (answer_from f letter room x ≡ Refused n) × (room_left f letter room ≡ room)
reader_leaves = files.reader_leaves

pub table_leaves : (f : List ℕ) (letter : ℕ) (room : List ℕ) → NoRow (reader_rows f letter (length room) []) → (x : ℤ)
    → (answer_from f letter room x ≡ table_answer (payload_in f) x) × (room_left f letter room ≡ payload_in f ++ drop (length (payload_in f)) room)
table_leaves = files.table_leaves
