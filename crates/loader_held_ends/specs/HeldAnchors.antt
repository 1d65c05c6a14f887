-- Lists that there are: for every block of every device an address in another block, in byte mode and, of devices 5 to 8, in word mode; and
-- some figures.
use Rattle.std.specs.Prelude.{Bool, true, false, ◌&&◌, List, [], ◌∷◌, ℕ, zero, suc, eqb}
use Rattle.device.specs.declared.Part.{Part}
use Rattle.device.specs.Parts.{start_of}
use Rattle.loader_held_lists.specs.Listings.{held_number}
use Rattle.loader_held_claims.specs.HeldMade.{added_in}

-- the first address of block 1 beside block 0, that of block 0 beside another: no test of the lists refuses it with room for two bytes
abbrev pub lists_at : ℕ → Bool → ℕ → Bool
lists_at n word zero = let part : Part = record { number = n; word = word } in eqb (held_number part 0 (start_of part 1 ∷ []) 2) 0
lists_at n word (suc k) = let part : Part = record { number = n; word = word } in eqb (held_number part (suc k) (start_of part 0 ∷ []) 2) 0

-- blocks 0 up to k
abbrev pub lists_up_to : ℕ → Bool → ℕ → Bool
lists_up_to n word zero = lists_at n word zero
lists_up_to n word (suc k) = lists_up_to n word k && lists_at n word (suc k)

-- all blocks: four, five or seven
abbrev pub large_lists : Bool → Bool
large_lists word = ((lists_up_to 5 word 4 && lists_up_to 6 word 4) && lists_up_to 7 word 6) && lists_up_to 8 word 6

-- .. of every part, and of devices 5 to 8 in bytes and in words
abbrev pub all_lists : Bool
all_lists =
    ((((lists_up_to 1 false 3 && lists_up_to 2 false 3) && lists_up_to 3 false 3) && lists_up_to 4 false 3) && large_lists false)
    && large_lists true

-- what interruptions add on bench T with E 3, by S, the addresses and the polls told
abbrev pub figures : ℕ → List ℕ → List ℕ → ℕ
figures s bs ps = added_in (record { part = record { number = 3; word = false }; program = 2; erase = 3; suspend = s }) bs ps 0 3
