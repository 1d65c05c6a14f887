-- The main block of a part that has a store: it lies in the array, and is a whole number of places.
use mathlib.Core.Path.{◌≡◌, refl, sym, ◌∙◌, ap}
use mathlib.Core.Bool.{Bool, true, false, ◌||◌}
use mathlib.Core.List.{List}
use Prim.Native.Nat.{ℕ, zero, suc, ◌+◌, ◌-◌, ◌%◌, ◌≤◌}
use native.Mathlib.Omega.{arith}
use lib.ListN.{length, take, drop, length-drop}
use lib.Seq.{length-take-le}
use lib.Dec.{eqb, ltb}
use borrow.Author.Tests.{le-leb, eq-eqb}
use borrow.Rule.Slice.PartMut.{mid_of}
use Rattle.common.proofs.Choice.{or_left, or_right, unlike}
use Rattle.device.specs.declared.Part.{Part}
use Rattle.device.specs.declared.Device.{Device}
use Rattle.device.specs.Parts.{row_of, shape_of, length_in, is_large, unknown_part, unknown_device, size_of, length_of, start_of}
use Rattle.device.proofs.Claims.{blocks_end_inside}
use Rattle.store_find.specs.Finds.{is_whole}
use Rattle.store.specs.Stores.{main_of, no_store}

-- a part that is known and not one of 5 to 8: in byte mode, and its block 3 is a whole number of places
pub record Small (part : Part) : Type 0 where
  pub bytes : part.word ≡ false
  pub whole : length_of part 3 % 512 ≡ 0

small_by : (n : ℕ) (w : Bool) → unknown_part (record { number = n; word = w }) ≡ false → is_large (record { number = n; word = w }) ≡ false → Small (record { number = n; word = w })
unfolding unknown_part is_large length_of length_in shape_of row_of
small_by zero w u l = absurd (unlike u)
small_by (suc zero) true u l = absurd (unlike u)
small_by (suc zero) false u l = record { bytes = refl; whole = refl }
small_by (suc (suc zero)) true u l = absurd (unlike u)
small_by (suc (suc zero)) false u l = record { bytes = refl; whole = refl }
small_by (suc (suc (suc zero))) true u l = absurd (unlike u)
small_by (suc (suc (suc zero))) false u l = record { bytes = refl; whole = refl }
small_by (suc (suc (suc (suc zero)))) true u l = absurd (unlike u)
small_by (suc (suc (suc (suc zero)))) false u l = record { bytes = refl; whole = refl }
small_by (suc (suc (suc (suc (suc n))))) w u l = absurd (unlike (sym (le-leb 5 (suc (suc (suc (suc (suc n))))) (omega arith)) ∙ l))

pub small : (part : Part) → unknown_part part ≡ false → is_large part ≡ false → Small part
small part u l = small_by part.number part.word u l

pub known_part : (d : Device) → unknown_device d ≡ false → unknown_part d.part ≡ false
unfolding unknown_device
known_part d u =
    let a = unknown_part d.part in
    let b = eqb d.program 0 in
    let c = eqb d.erase 0 in
    let e = eqb d.suspend 0 in
    or_left a b (or_left (a || b) c (or_left ((a || b) || c) e (or_left (((a || b) || c) || e) (ltb 100 d.suspend) u)))

pub store_small : (part : Part) → no_store part ≡ false → Small part
unfolding no_store
store_small part e = small part (or_left (unknown_part part) (is_large part) e) (or_right (unknown_part part) (is_large part) e)

-- the block's bytes in an array of the part's size
module _ (part : Part) (xs : List ℕ) (l : length xs ≡ size_of part) where
  pub block_ends : start_of part 3 + length_of part 3 ≤ length xs
  block_ends = let h = blocks_end_inside part 3 in omega arith

  pub block_long : length (main_of part xs) ≡ length_of part 3
  block_long = let h = block_ends in let d = length-drop (start_of part 3) xs in length-take-le (length_of part 3) (drop (start_of part 3) xs) (omega arith)

  pub block_whole : Small part → is_whole (main_of part xs) ≡ true
  unfolding is_whole
  block_whole s = eq-eqb (length (main_of part xs) % 512) 0 (ap (λ (n : ℕ). n % 512) block_long ∙ s.whole)

-- the part of the array that the code hands on
pub handed : (part : Part) (xs : List ℕ) (a n : ℕ) → a ≡ start_of part 3 → n ≡ length_of part 3 → mid_of a (a + n - a) xs ≡ main_of part xs
handed part xs a n ea en =
    ap (λ (k : ℕ). take k (drop a xs)) (let z : a + n - a ≡ n = omega arith in z ∙ en) ∙ ap (λ (k : ℕ). take (length_of part 3) (drop k xs)) ea

pub handed_ends : (part : Part) (xs : List ℕ) (a n : ℕ) → a ≡ start_of part 3 → n ≡ length_of part 3 → length xs ≡ size_of part → a + n ≤ length xs
handed_ends part xs a n ea en l = let h = block_ends part xs l in omega arith
