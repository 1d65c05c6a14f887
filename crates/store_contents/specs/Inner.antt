-- The new contents of a block, told by its bytes, as the code makes them. Nobody has to believe these.
use Rattle.std.specs.Prelude.{List, [], ◌∷◌, ◌++◌, ℕ, zero, suc, ◌+◌, ◌*◌, ◌-◌, Bool, ◌||◌, length, get_or, take, set, replicate, eqb}
use Rattle.std.specs.Prelude.{if◌then◌else◌}
use Rattle.store_places.specs.Store.{join, Item, blank, dead, filed, junk}

-- 00H over the first byte of k places, the first of them at byte `from`
abbrev pub zeroed_from : ℕ → ℕ → List ℕ → List ℕ
zeroed_from zero from xs = xs
zeroed_from (suc k) from xs = zeroed_from k (from + 512) (set xs from 0)

-- the bytes of the files in their order, but for the one under letter ℓ
abbrev pub live_bytes : ℕ → List Item → List ℕ
live_bytes ℓ [] = []
live_bytes ℓ (blank ∷ is) = live_bytes ℓ is
live_bytes ℓ (dead q ∷ is) = live_bytes ℓ is
live_bytes ℓ (filed m f ∷ is) = (if eqb m ℓ then [] else join f) ++ live_bytes ℓ is
live_bytes ℓ (junk q ∷ is) = live_bytes ℓ is

-- the bytes of the item that begins with these two bytes at places 0 and 2: a file has as many places as it says
unfoldable pub span_of : ℕ → ℕ → ℕ
span_of first count = if eqb first 0 then 512 else if eqb first 255 then 512 else 512 * count

-- an item that begins so is left behind in a slide: a dead place, a blank one, the file under letter ℓ
unfoldable pub goes_of : ℕ → ℕ → Bool
goes_of first ℓ = (eqb first 0 || eqb first 255) || eqb first ℓ

-- what a slide keeps of an item's bytes
unfoldable pub stay_of : ℕ → List ℕ → List ℕ
stay_of ℓ item = if goes_of (get_or item 0 0) ℓ then [] else item

-- the front of a memory, then a file, then FFH to the end
abbrev pub behind_of : List ℕ → ℕ → List ℕ → List ℕ
behind_of memory at file = take at memory ++ (file ++ replicate (length memory - (at + length file)) 255)
