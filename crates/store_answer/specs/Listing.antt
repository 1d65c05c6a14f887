-- What a store holds, as text: a map of the places, and a row for each file.
use Rattle.std.specs.Prelude.{Bool, true, false, List, [], ◌∷◌, ◌++◌, ℕ, zero, suc, ◌+◌, ◌-◌, ◌*◌, ◌/◌, ◌%◌, min, eqb, ltb, leb, length}
use Rattle.std.specs.Prelude.{take, drop, if◌then◌else◌}
use Rattle.std.specs.Float.{binary64}
use Rattle.std.specs.Float.Ieee.{of_int}
use Rattle.text.specs.Digits.{decimal_of}
use Rattle.text.specs.Writing.{bytes}
use Rattle.file_codec.specs.File.{Outcome, refused, made, limit, in_room, reader_of}
use Rattle.reading_table.specs.Table.{knots, tenths_of, table_number}
use Rattle.reading_print.specs.Texts.{temperature_text}
use Rattle.store_survey.specs.declared.Spot.{Spot}
use Rattle.store_survey.specs.declared.Spot.TheVariants.{Blank, Dead, File, Junk}
use Rattle.store_survey.specs.Survey.{spot_in}
use Rattle.store_answer.specs.declared.Pace.{Pace}

-- a walk over the places: so many more of them belong to what was met last, and the letter that stands for it on the map: a point for a
-- blank place, x for a dead one, its own letter for a file, a question mark for anything else
abbrev pub pace_as : ℕ → ℕ → Pace
pace_as skip mark = record { skip = skip; mark = mark }

-- .. at a place where something begins
abbrev pub pace_by : Spot → Pace
pace_by Blank = pace_as 0 46
pace_by Dead = pace_as 0 120
pace_by (File ℓ n) = pace_as (n - 1) ℓ
pace_by Junk = pace_as 0 63

-- the walk at place p, from what it was at the place before
unfoldable pub pace_on : List ℕ → ℕ → Pace → Pace
pace_on main p w = if ltb 0 w.skip then pace_as (w.skip - 1) w.mark else pace_by (spot_in main p)

-- the map's letter of place p; a line of the map has 28
unfoldable pub map_piece : ℕ → ℕ → List ℕ
map_piece p mark = if eqb ((p + 1) % 28) 0 then mark ∷ (10 ∷ []) else mark ∷ []

-- the knots of a table: how many, the first and the last temperature in degrees
abbrev pub knots_text : List ℕ → List ℕ
knots_text p =
    ((((decimal_of (knots p) ++ bytes " knots, ") ++ temperature_text (of_int binary64 (tenths_of p 0))) ++ bytes " to ")
    ++ temperature_text (of_int binary64 (tenths_of p (knots p - 1)))) ++ bytes "\n"

-- what a payload holds: a table's knots
unfoldable pub payload_text : List ℕ → List ℕ
payload_text p = if eqb (table_number p) 0 then knots_text p else bytes "no table\n"

-- what the reader makes of a file
abbrev pub file_text : Outcome → List ℕ
file_text (refused n) = bytes "no table\n"
file_text (made p) = payload_text p

-- the file of n blocks that begins at place p
abbrev pub file_at : List ℕ → ℕ → ℕ → List ℕ
file_at main p n = take (512 * n) (drop (512 * p) main)

-- a file's letter, its first place and its places
abbrev pub head_text : ℕ → ℕ → ℕ → List ℕ
head_text ℓ p n = (((((ℓ ∷ []) ++ bytes ": from place ") ++ decimal_of p) ++ bytes " on, places ") ++ decimal_of n) ++ bytes ", "

-- what stands in a file that is whole inside the block; the payload has room, the longest has 113,120 bytes
unfoldable pub body_text : List ℕ → ℕ → ℕ → ℕ → List ℕ
body_text main p ℓ n = if leb (512 * p + 512 * n) (length main) then file_text (in_room 113120 (reader_of limit (file_at main p n) ℓ))
    else bytes "cut off\n"

-- the row of a file
abbrev pub row_text : List ℕ → ℕ → ℕ → ℕ → List ℕ
row_text main p ℓ n = head_text ℓ p n ++ body_text main p ℓ n

-- the row of what begins at place p: nothing but for a file
abbrev pub row_by : List ℕ → ℕ → Spot → List ℕ
row_by main p Blank = []
row_by main p Dead = []
row_by main p (File ℓ n) = row_text main p ℓ n
row_by main p Junk = []

-- .. nothing where a file that began before goes on
unfoldable pub row_piece : List ℕ → ℕ → Pace → List ℕ
row_piece main p w = if ltb 0 w.skip then [] else row_by main p (spot_in main p)

-- at place p: of the rows, or of the map
unfoldable pub piece_of : Bool → List ℕ → ℕ → Pace → List ℕ
piece_of rows main p w = if rows then row_piece main p w else map_piece p (pace_on main p w).mark

-- .. of so many places from place p on
abbrev pub pieces_from : Bool → ℕ → List ℕ → ℕ → Pace → List ℕ
pieces_from rows zero main p w = []
pieces_from rows (suc k) main p w = piece_of rows main p w ++ pieces_from rows k main (p + 1) (pace_on main p w)

-- .. of all places of a block
abbrev pub pieces_of : Bool → List ℕ → List ℕ
pieces_of rows main = pieces_from rows (length main / 512) main 0 (pace_as 0 0)

-- the whole: the map, then the rows
abbrev pub list_text : List ℕ → List ℕ
list_text main = pieces_of false main ++ pieces_of true main

-- what a block holds: of its first 524,288 bytes, and no part has more
abbrev pub list_of : List ℕ → List ℕ
list_of main = list_text (take (min (length main) 524288) main)
