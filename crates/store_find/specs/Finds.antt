-- Where the file under a letter stands in a block, and what is found and read there.
use Rattle.std.specs.Prelude.{Bool, not, List, [], ◌∷◌, ℕ, ◌*◌, ◌%◌, length, eqb, if◌then◌else◌}
use Rattle.common.specs.Numbers.{Row, row, given}
use Rattle.file_codec.specs.File.{Outcome, refused, made, outcome_by, limit, reader_of}
use Rattle.store_places.specs.Store.{find_of, find_rows}
use Rattle.store_survey.specs.Survey.{reader_number, items_of, place_in}
use Rattle.store_find.specs.declared.Stands.{Stands}
use Rattle.store_find.specs.declared.Found.{Found}

-- the bytes are a whole number of places
unfoldable pub is_whole : List ℕ → Bool
is_whole main = eqb (length main % 512) 0

-- the refusals: 44 where they are not, or are no proper store; then 42
abbrev pub stands_rows : List ℕ → ℕ → List Row
stands_rows main ℓ = row 44 (not (is_whole main)) ∷ find_rows (reader_number limit) ℓ main []

-- the first refusal of these, 0 where nothing refuses
unfoldable pub stands_number : List ℕ → ℕ → ℕ
stands_number main ℓ = given (stands_rows main ℓ)

-- the number, and where it is 0 the first byte of the file under the letter and its length
unfoldable pub stands_of : List ℕ → ℕ → Stands
stands_of main ℓ =
    if eqb (stands_number main ℓ) 0 then record {
      number = 0;
      from = 512 * place_in ℓ 0 (items_of main);
      size = length (find_of (reader_number limit) ℓ main);
    }
    else record { number = stands_number main ℓ; from = 0; size = 0 }

-- what is found under a letter, given room: the refusal, or the file's bytes
unfoldable pub found_in : List ℕ → ℕ → Outcome
found_in main ℓ = outcome_by (stands_number main ℓ) (find_of (reader_number limit) ℓ main)

-- what a find returns of an outcome: the number and 0, or 0 and the file's length
abbrev pub found_as : Outcome → Found
found_as (refused n) = record { number = n; length = 0 }
found_as (made bytes) = record { number = 0; length = length bytes }

-- what the reader makes, for the letter, of the file found; a refusal stays
abbrev pub read_by : ℕ → Outcome → Outcome
read_by ℓ (refused n) = refused n
read_by ℓ (made bytes) = reader_of limit bytes ℓ
