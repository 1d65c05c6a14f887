-- What the stages of a load do to a block and to scratch, and what they cost in cycles. Lists are of units but where bytes are said.
use Rattle.std.specs.Prelude.{◌≡◌, Bool, false, not, ◌&&◌, List, ℕ, zero, suc, ◌+◌, ◌≤◌, ◌<◌, length, get_or, replicate, eqb, ltb}
use Rattle.std.specs.Prelude.{leb, if◌then◌else◌}
use Rattle.std.specs.Int.Bits.{bit_and}
use Rattle.common.specs.Lists.{overwritten}
use Rattle.units.specs.Units.{units, torn, top}
use Rattle.loader_walk.specs.Walks.{rises_in, diff_from}
use Rattle.loader_blocks.specs.declared.Done.{Done}
use Rattle.loader_blocks.specs.declared.Found.{Found}

-- so many bytes of the block, of what is wanted and of scratch: as many of each, a whole number of units, and no more than 2 to the 24
unfoldable pub alike : Bool → ℕ → ℕ → ℕ → Bool
alike word h w s = ((eqb h w && eqb s w) && leb w 16777216) && not (torn word w)

-- the programs of k units from place i on
abbrev pub costs : ℕ → ℕ → ℕ → List ℕ → List ℕ → ℕ
costs zero each i w s = 0
costs (suc k) each i w s = (if eqb (get_or s i 0) (get_or w i 0) then 0 else each) + costs k each (i + 1) w s

-- the block's bytes are as many as the wanted ones, and no bit must rise
pub record Falling (h w : List ℕ) : Type 0 where
  pub long : length h ≡ length w
  pub falls : (i : ℕ) → i < length w → bit_and (get_or h i 0) (get_or w i 0) ≡ get_or w i 0

-- bytes of a whole number of units, with bits that must rise perhaps
pub record Workable (word : Bool) (h w s : List ℕ) : Type 0 where
  pub read : h ≡ s
  pub long : length s ≡ length w
  pub short : length w ≤ 16777216
  pub whole : torn word (length w) ≡ false

-- the operations of a load: the erase if some bit must rise, then the programs from all ones; else the programs from what was held
unfoldable pub work_costs : Bool → ℕ → ℕ → List ℕ → List ℕ → ℕ
work_costs word once each w s =
    if rises_in w s then once + costs (length w) each 0 w (replicate (length w) (top word)) else costs (length w) each 0 w s

-- .. as the code answers: their cycles, and whether the block was erased
abbrev pub work_done : Bool → ℕ → ℕ → List ℕ → List ℕ → Done
work_done word once each w s = record { cycles = work_costs word once each w s; erased = rises_in w s }

-- the units that a verify reads: up to and with the first that differs
unfoldable pub read_to : List ℕ → List ℕ → ℕ
read_to w h = if ltb (diff_from 0 w h) (length w) then diff_from 0 w h + 1 else length w

-- the same of lent bytes; where they are not alike nothing is done

-- a load's operations in a block: what is done
unfoldable pub block_done : Bool → ℕ → ℕ → List ℕ → List ℕ → List ℕ → Done
block_done word once each h w s =
    if alike word (length h) (length w) (length s) then work_done word once each (units word w) (units word h)
    else record { cycles = 0; erased = false }

-- .. and what becomes of the block's units, and of scratch
unfoldable pub block_left : Bool → List ℕ → List ℕ → List ℕ → List ℕ
block_left word h w s = if alike word (length h) (length w) (length s) then units word w else units word h

-- .. what becomes of scratch
unfoldable pub room_left : Bool → List ℕ → List ℕ → List ℕ → List ℕ
room_left word h w s = if alike word (length h) (length w) (length s) then units word w else units word s

-- a block looked at: whether a unit differs, and whether a bit must rise
unfoldable pub block_found : Bool → List ℕ → List ℕ → List ℕ → Found
block_found word h w s =
    if alike word (length h) (length w) (length s)
    then record {
      differs = ltb (diff_from 0 (units word w) (units word h)) (length (units word w));
      rises = rises_in (units word w) (units word h);
    }
    else record { differs = false; rises = false }

-- .. it was read into scratch
unfoldable pub block_read : Bool → List ℕ → List ℕ → List ℕ → List ℕ
block_read word h w s = if alike word (length h) (length w) (length s) then h else s

-- a verify of a block: the place of the first unit that differs, or the number of units
unfoldable pub block_met : Bool → List ℕ → List ℕ → List ℕ → ℕ
block_met word h w s = if alike word (length h) (length w) (length s) then diff_from 0 (units word w) (units word h) else 0

-- .. and the units of scratch, those that were read
unfoldable pub block_seen : Bool → List ℕ → List ℕ → List ℕ → List ℕ
block_seen word h w s =
    if alike word (length h) (length w) (length s) then overwritten (read_to (units word w) (units word h)) (units word h) (units word s)
    else units word s

-- whether a bit of a block must rise, with no scratch beside it
unfoldable pub block_rises : Bool → List ℕ → List ℕ → Bool
block_rises word h w = if alike word (length h) (length w) (length w) then rises_in (units word w) (units word h) else false
