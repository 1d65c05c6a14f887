-- The lists that a load with interruptions is lent, and their tests: the addresses read in each interruption, and the room for what is
-- read. Addresses are those of units; the room is counted in bytes.
use Rattle.std.specs.Prelude.{Bool, false, ◌&&◌, ◌||◌, List, [], ◌∷◌, ℕ, ◌+◌, length, ltb, leb}
use Rattle.common.specs.Numbers.{Row, row, given}
use Rattle.units.specs.Units.{bytes_in}
use Rattle.device.specs.declared.Part.{Part}
use Rattle.device.specs.Parts.{size_of, start_of, length_of}

-- some number of a list meets a test
abbrev pub some_of : (ℕ → Bool) → List ℕ → Bool
some_of test [] = false
some_of test (x ∷ xs) = test x || some_of test xs

-- refusal 5 of one address: it is past the array (R-number-5)
unfoldable pub past_array : Part → ℕ → Bool
past_array part a = leb (size_of part) a

-- refusal 45 of one address: it is in block k, the one that is loaded (R-number-45)
unfoldable pub in_loaded : Part → ℕ → ℕ → Bool
in_loaded part k a = ltb a (start_of part k + length_of part k) && leb (start_of part k) a

-- refusal 46: more addresses than 4,096 (R-number-46)
abbrev pub too_many : ℕ → Bool
too_many n = ltb 4096 n

-- refusal 37: the room is too short for a unit of each of n addresses, in word mode two bytes (R-number-37)
unfoldable pub short_room : Bool → ℕ → ℕ → Bool
short_room word n room = ltb room (bytes_in word n)

-- the two tests of n addresses and a room that need only their lengths, in their order
abbrev pub room_rows : Bool → ℕ → ℕ → List Row
room_rows word n room = row 46 (too_many n) ∷ row 37 (short_room word n room) ∷ []

-- the first refusal of these two, 0 where nothing refuses
unfoldable pub room_number : Bool → ℕ → ℕ → ℕ
room_number word n room = given (room_rows word n room)

-- the tests of the lists, in their order, each over the whole list before the next (R-held-3)
abbrev pub held_rows : Part → ℕ → List ℕ → ℕ → List Row
held_rows part k bs room =
    row 5 (some_of (past_array part) bs) ∷ row 45 (some_of (in_loaded part k) bs) ∷ room_rows part.word (length bs) room

-- the first refusal of the lists, 0 where nothing refuses
unfoldable pub held_number : Part → ℕ → List ℕ → ℕ → ℕ
held_number part k bs room = given (held_rows part k bs room)
