-- Devices 1 to 4: byte mode, and a main block of 224 or 28 places.
use mathlib.Core.Path.{◌≡◌, refl, sym, ◌∙◌, ap}
use mathlib.Core.Bool.{Bool, true, false, not, ◌&&◌, ◌||◌}
use Prim.Native.Nat.{ℕ, zero, suc, ◌*◌, ◌<◌}
use native.Mathlib.Omega.{arith}
use lib.ListN.{get_or}
use lib.Dec.{eqb, ltb}
use borrow.Author.Tests.{eqb-false, leb-false}
use Rattle.common.proofs.Choice.{if_false, or_left, or_right}
use Rattle.device.specs.declared.Part.{Part}
use Rattle.device.specs.declared.Device.{Device}
use Rattle.device.specs.declared.Shape.{Shape}
use Rattle.device.specs.Parts.{row_of, in_words, shape_of, length_in, length_of, is_large, unknown_part, unknown_device}
use Rattle.units.specs.Units.{lent_in}
use Rattle.store_claims.specs.Calls.{places_at}

row_main : (n : ℕ) → 0 < n → n < 5 → get_or (row_of n).lengths 3 0 ≡ 512 * places_at n
unfolding row_of
row_main zero h l = absurd (omega arith)
row_main (suc zero) h l = refl
row_main (suc (suc zero)) h l = refl
row_main (suc (suc (suc zero))) h l = refl
row_main (suc (suc (suc (suc zero)))) h l = refl
row_main (suc (suc (suc (suc (suc n))))) h l = absurd (omega arith)

pub record Plain (part : Part) : Type 0 where
  pub bytes : part.word ≡ false
  pub places : length_of part 3 ≡ 512 * places_at part.number

and_true : (a : Bool) → (a && true) ≡ false → a ≡ false
and_true true h = h
and_true false h = refl

above : (part : Part) → eqb part.number 0 ≡ false → 0 < part.number
above part e = let h = eqb-false part.number 0 e in omega arith

below : (part : Part) → is_large part ≡ false → part.number < 5
unfolding is_large
below part e = leb-false 5 part.number e

main_length : (part : Part) → part.word ≡ false → 0 < part.number → part.number < 5 → length_of part 3 ≡ 512 * places_at part.number
unfolding length_of length_in shape_of
main_length part w h l = ap (λ (s : Shape). get_or s.lengths 3 0) (if_false part.word (in_words (row_of part.number)) (row_of part.number) w) ∙ row_main part.number h l

pub plain : (part : Part) → unknown_part part ≡ false → is_large part ≡ false → Plain part
unfolding unknown_part
plain part u g =
    let a = or_left (eqb part.number 0 || ltb 8 part.number) (part.word && not (is_large part)) u in
    let b = or_right (eqb part.number 0 || ltb 8 part.number) (part.word && not (is_large part)) u in
    let w : part.word ≡ false = and_true part.word (sym (ap (λ (x : Bool). part.word && not x) g) ∙ b) in
    record { bytes = w; places = main_length part w (above part (or_left (eqb part.number 0) (ltb 8 part.number) a)) (below part g) }

-- the part of a known device is known
pub known_part : (d : Device) → unknown_device d ≡ false → unknown_part d.part ≡ false
unfolding unknown_device
known_part d u =
    or_left (unknown_part d.part) (eqb d.program 0)
    (or_left (unknown_part d.part || eqb d.program 0) (eqb d.erase 0)
    (or_left ((unknown_part d.part || eqb d.program 0) || eqb d.erase 0) (eqb d.suspend 0)
    (or_left (((unknown_part d.part || eqb d.program 0) || eqb d.erase 0) || eqb d.suspend 0) (ltb 100 d.suspend) u)))

-- in byte mode a unit is a byte
pub lent_same : (w : Bool) (n : ℕ) → w ≡ false → lent_in w n ≡ n
unfolding lent_in
lent_same true n e = absurd (let z : ◌≡◌ {A = ℕ} 0 1 = cc in omega arith)
lent_same false n e = refl
