-- The new contents of a block, into memory of its length: the refusals, and what is left in memory.
use Rattle.std.specs.Prelude.{Bool, not, List, [], ◌∷◌, ℕ, ◌/◌, length, eqb, if◌then◌else◌}
use Rattle.common.specs.Numbers.{Row, row, given}
use Rattle.file_codec.specs.File.{limit, read_rows}
use Rattle.store_places.specs.Store.{is_proper, no_room, places_in}
use Rattle.store_survey.specs.Survey.{reader_number, items_of}
use Rattle.store_find.specs.Finds.{is_whole, stands_rows}

-- 11: memory of so many bytes is not as long as the block
unfoldable pub unlike : List ℕ → ℕ → Bool
unlike main room = not (eqb room (length main))

-- the refusals of a drop: 11, 44, 42
abbrev pub drop_rows : List ℕ → ℕ → ℕ → List Row
drop_rows main ℓ room = row 11 (unlike main room) ∷ stands_rows main ℓ

-- 44, then 43, of the file f for the letter
abbrev pub room_rows : List ℕ → List ℕ → ℕ → List Row
room_rows main f ℓ =
    row 44 (not (is_whole main)) ∷ row 44 (not (is_proper (reader_number limit) main))
    ∷ row 43 (no_room (length main / 512) ℓ (places_in f) (items_of main)) ∷ []

-- the refusals of an add: 11, the reader's for the letter, 44, 43 (R-store-5)
abbrev pub add_rows : List ℕ → List ℕ → ℕ → ℕ → List Row
add_rows main f ℓ room = row 11 (unlike main room) ∷ read_rows limit f ℓ (room_rows main f ℓ)

-- the first refusal of a drop, 0 where nothing refuses
unfoldable pub drop_in_number : List ℕ → ℕ → ℕ → ℕ
drop_in_number main ℓ room = given (drop_rows main ℓ room)

-- the first refusal of an add, 0 where nothing refuses
unfoldable pub add_in_number : List ℕ → List ℕ → ℕ → ℕ → ℕ
add_in_number main f ℓ room = given (add_rows main f ℓ room)

-- memory by the number: the new contents where it is 0, else as it was
unfoldable pub memory_by : ℕ → List ℕ → List ℕ → List ℕ
memory_by n new was = if eqb n 0 then new else was
