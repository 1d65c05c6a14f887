-- Lent bytes that are alike, and what is promised of them; where they are not, nothing is done.
use mathlib.Core.Path.{◌≡◌, refl, sym, ap, ◌∙◌}
use mathlib.Core.Bool.{Bool, true, false, not, ◌&&◌}
use mathlib.Core.List.{List}
use Prim.Native.Nat.{ℕ, ◌≤◌}
use native.Mathlib.Omega.{arith}
use lib.ListN.{length}
use lib.Dec.{eqb, ltb, leb}
use borrow.Author.Tests.{eqb-true, leb-true, eq-eqb, le-leb}
use Rattle.common.proofs.Choice.{if_true, if_false, and_left, and_right}
use Rattle.common.specs.Lists.{overwritten}
use Rattle.units.specs.Units.{units, spare, units_in, torn}
use Rattle.units.proofs.Widths.{units_length, few_law, no_spare}
use Rattle.loader_walk.specs.Walks.{rises_in, diff_from}
use Rattle.loader_blocks.specs.declared.Done.{Done}
use Rattle.loader_blocks.specs.declared.Found.{Found}
use Rattle.loader_blocks.specs.Blocks.{alike, work_done, read_to, block_done, block_left, room_left, block_found, block_read, block_met, block_seen, block_rises}

-- and back
pub alike_if : (word : Bool) (h w s : ℕ) → h ≡ w → s ≡ w → w ≤ 16777216 → torn word w ≡ false → alike word h w s ≡ true
unfolding alike
alike_if word h w s p q l t = rw (eq-eqb h w p, eq-eqb s w q, le-leb w 16777216 l, t) refl

pub untrue : (b : Bool) → not b ≡ true → b ≡ false
untrue true e = sym e
untrue false e = sym (ap not e)

-- as many bytes are as many units
pub units_same : (word : Bool) (xs ys : List ℕ) → length xs ≡ length ys → length (units word xs) ≡ length (units word ys)
units_same word xs ys e = units_length word xs ∙ ap (λ (n : ℕ). units_in word n) e ∙ sym (units_length word ys)

-- and no more than the bytes
pub units_few : (word : Bool) (xs : List ℕ) → length (units word xs) ≤ length xs
units_few word xs = few_law word xs (length (units word xs)) (omega arith)

-- a whole number of units keeps its byte in none, which is not there
pub spare_same : (word : Bool) (xs ys : List ℕ) → length xs ≡ length ys → torn word (length ys) ≡ false → spare word xs ≡ spare word ys
spare_same word xs ys e t = no_spare word xs (ap (λ (n : ℕ). torn word n) e ∙ t) ∙ sym (no_spare word ys t)

module _ (word : Bool) (h w s : List ℕ) where
  abbrev b : Bool
  b = alike word (length h) (length w) (length s)

  -- all four tests
  module _ (e : alike word (length h) (length w) (length s) ≡ true) where
    pub held_long : length h ≡ length w
    unfolding alike
    held_long =
        eqb-true (length h) (length w) (and_left (eqb (length h) (length w)) (eqb (length s) (length w))
        (and_left (eqb (length h) (length w) && eqb (length s) (length w)) (leb (length w) 16777216)
        (and_left ((eqb (length h) (length w) && eqb (length s) (length w)) && leb (length w) 16777216) (not (torn word (length w))) e)))

    pub room_long : length s ≡ length w
    unfolding alike
    room_long =
        eqb-true (length s) (length w) (and_right (eqb (length h) (length w)) (eqb (length s) (length w))
        (and_left (eqb (length h) (length w) && eqb (length s) (length w)) (leb (length w) 16777216)
        (and_left ((eqb (length h) (length w) && eqb (length s) (length w)) && leb (length w) 16777216) (not (torn word (length w))) e)))

    pub few : length w ≤ 16777216
    unfolding alike
    few =
        leb-true (length w) 16777216 (and_right (eqb (length h) (length w) && eqb (length s) (length w)) (leb (length w) 16777216)
        (and_left ((eqb (length h) (length w) && eqb (length s) (length w)) && leb (length w) 16777216) (not (torn word (length w))) e))

    pub whole : torn word (length w) ≡ false
    unfolding alike
    whole = untrue (torn word (length w)) (and_right ((eqb (length h) (length w) && eqb (length s) (length w)) && leb (length w) 16777216) (not (torn word (length w))) e)

    -- what is promised then
    pub done_is : (once each : ℕ) → block_done word once each h w s ≡ work_done word once each (units word w) (units word h)
    unfolding block_done
    done_is once each = if_true b _ _ e

    pub left_is : block_left word h w s ≡ units word w
    unfolding block_left
    left_is = if_true b (units word w) (units word h) e

    pub room_is : room_left word h w s ≡ units word w
    unfolding room_left
    room_is = if_true b (units word w) (units word s) e

    pub found_is : block_found word h w s ≡ record { differs = ltb (diff_from 0 (units word w) (units word h)) (length (units word w)); rises = rises_in (units word w) (units word h) }
    unfolding block_found
    found_is = if_true b _ _ e

    pub read_is : block_read word h w s ≡ h
    unfolding block_read
    read_is = if_true b h s e

    pub met_is : block_met word h w s ≡ diff_from 0 (units word w) (units word h)
    unfolding block_met
    met_is = if_true b (diff_from 0 (units word w) (units word h)) 0 e

    pub seen_is : block_seen word h w s ≡ overwritten (read_to (units word w) (units word h)) (units word h) (units word s)
    unfolding block_seen
    seen_is = if_true b (overwritten (read_to (units word w) (units word h)) (units word h) (units word s)) (units word s) e

    -- .. for code
    pub found_so : (r : Found) → r.differs ≡ ltb (diff_from 0 (units word w) (units word h)) (length (units word w)) → r.rises ≡ rises_in (units word w) (units word h) → r ≡ block_found word h w s
    found_so r p q = (λ i. record { differs = p i; rises = q i }) ∙ sym found_is

  -- and where they are not alike
  module _ (e : alike word (length h) (length w) (length s) ≡ false) where
    pub none_done : (once each : ℕ) → ◌≡◌ {A = Done} (record { cycles = 0; erased = false }) (block_done word once each h w s)
    unfolding block_done
    none_done once each = sym (if_false b _ _ e)

    pub none_left : units word h ≡ block_left word h w s
    unfolding block_left
    none_left = sym (if_false b (units word w) (units word h) e)

    pub none_room : units word s ≡ room_left word h w s
    unfolding room_left
    none_room = sym (if_false b (units word w) (units word s) e)

    pub none_found : ◌≡◌ {A = Found} (record { differs = false; rises = false }) (block_found word h w s)
    unfolding block_found
    none_found = sym (if_false b _ _ e)

    pub none_read : s ≡ block_read word h w s
    unfolding block_read
    none_read = sym (if_false b h s e)

    pub none_met : 0 ≡ block_met word h w s
    unfolding block_met
    none_met = sym (if_false b (diff_from 0 (units word w) (units word h)) 0 e)

    pub none_seen : units word s ≡ block_seen word h w s
    unfolding block_seen
    none_seen = sym (if_false b (overwritten (read_to (units word w) (units word h)) (units word h) (units word s)) (units word s) e)

-- whether a bit must rise
module _ (word : Bool) (h w : List ℕ) where
  pub rises_is : alike word (length h) (length w) (length w) ≡ true → block_rises word h w ≡ rises_in (units word w) (units word h)
  unfolding block_rises
  rises_is e = if_true (alike word (length h) (length w) (length w)) (rises_in (units word w) (units word h)) false e

  pub none_rises : alike word (length h) (length w) (length w) ≡ false → block_rises word h w ≡ false
  unfolding block_rises
  none_rises e = if_false (alike word (length h) (length w) (length w)) (rises_in (units word w) (units word h)) false e
