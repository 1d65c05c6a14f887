-- What the effects on units do to the lent bytes, byte by byte.
use mathlib.Core.Path.{◌≡◌, refl, sym, ap, ap₂, subst, ◌∙◌}
use mathlib.Core.Bool.{Bool, true, false}
use mathlib.Core.List.{List, ◌∷◌}
use Prim.Native.Nat.{ℕ, ◌+◌, ◌*◌, ◌/◌, ◌%◌, ◌≤◌, ◌<◌}
use native.Mathlib.Omega.{arith}
use lib.ListN.{length, get_or, take, replicate, length-set, length-replicate}
use lib.Seq.{length-take-le}
use lib.Bits.{bit_and, bit_or, and_le_l, or_lt}
use Rattle.common.specs.Lists.{overlaid, Bytes}
use Rattle.common.proofs.Bytes.{bytes_set, bytes_overlaid, bytes_replicate, bytes_take, overlaid_length}
use Rattle.units.specs.Units.{word_of, pairs, units, back, bytes_in, torn}
use Rattle.units.specs.Address.{byte_of}
use Rattle.units.proofs.Pairs.{or_word}
use Rattle.units.proofs.Words.{programmed, program_law}
use Rattle.units.proofs.Widths.{fit_by, in_law, erase_law, leave_law, back_units, both_in, untorn}
use Rattle.device.specs.declared.Part.{Part}
use Rattle.device.specs.Parts.{size_of, start_of, length_of}
use Rattle.device.proofs.Claims.{blocks_end_inside}
use Rattle.model_types.specs.Cells.{ones}
use Rattle.model_types.specs.declared.Effect.TheVariants.{Program, CutProgram}
use Rattle.model.specs.Arrays.{erased, residual, array_of}
use Rattle.model.specs.Words.{pair_programmed}

-- bytes whose units are us are the bytes of us
from_units : (w : Bool) (us ys : List ℕ) → units w ys ≡ us → torn w (length ys) ≡ false → Bytes ys → back w us ≡ ys
from_units w us ys e t b = ap (back w) (sym e) ∙ back_units w ys t b

module _ (xs : List ℕ) (bx : Bytes xs) where
  -- a block
  module _ (part : Part) (k : ℕ) (whole : length xs ≡ bytes_in part.word (size_of part)) (long : length (units part.word xs) ≡ size_of part) where
    abbrev w : Bool
    w = part.word

    abbrev a : ℕ
    a = start_of part k

    abbrev n : ℕ
    n = length_of part k

    inside : a + n ≤ length (units w xs)
    inside = rw long (blocks_end_inside part k)

    laid : (ys : List ℕ) → length ys ≡ bytes_in w n → length (overlaid xs (byte_of w a) ys) ≡ length xs
    laid ys e = overlaid_length xs (byte_of w a) ys (let z = in_law w xs a n (byte_of w a) (bytes_in w n) refl refl inside in omega arith)

    even : (m : ℕ) → m ≡ length xs → torn w m ≡ false
    even m e = subst (λ (j : ℕ). torn w j ≡ false) (sym (e ∙ whole)) (untorn w (size_of part))

    pub erased_bytes : back w (erased part k (units w xs)) ≡ overlaid xs (byte_of w a) (replicate (bytes_in w n) 0xFF)
    unfolding erased ones
    erased_bytes =
        let ys : List ℕ = replicate (bytes_in w n) 0xFF in
        from_units w (overlaid (units w xs) a (replicate n (ones part))) (overlaid xs (byte_of w a) ys) (erase_law w xs a n (byte_of w a) (bytes_in w n) refl refl inside)
        (even (length (overlaid xs (byte_of w a) ys)) (laid ys (length-replicate (bytes_in w n) 255))) (bytes_overlaid xs (byte_of w a) ys bx (bytes_replicate (bytes_in w n) 255 (omega arith)))

    pub residual_bytes : (rs : List ℕ) → Bytes rs → n ≤ length (units w rs)
        → back w (residual part k (units w rs) (units w xs)) ≡ overlaid xs (byte_of w a) (take (bytes_in w n) rs)
    unfolding residual
    residual_bytes rs br h =
        let ys : List ℕ = take (bytes_in w n) rs in
        from_units w (overlaid (units w xs) a (take n (units w rs))) (overlaid xs (byte_of w a) ys) (leave_law w xs rs a n (byte_of w a) (bytes_in w n) refl refl inside h)
        (even (length (overlaid xs (byte_of w a) ys)) (laid ys (length-take-le (bytes_in w n) rs (fit_by w rs n h)))) (bytes_overlaid xs (byte_of w a) ys bx (bytes_take (bytes_in w n) rs br))

  -- a word
  module _ (part : Part) (i : ℕ) (h : i < length (pairs xs)) (t : torn true (length xs) ≡ false) where
    both : (low high : ℕ) → Bytes (pair_programmed xs i low high)
    both low high =
        let b : Bytes (programmed xs (2 * i) low) = bytes_set xs (2 * i) (bit_and (get_or xs (2 * i) 0) low) bx (omega (arith, and_le_l (get_or xs (2 * i) 0) low, bx (2 * i))) in
        bytes_set (programmed xs (2 * i) low) (2 * i + 1) (bit_and (get_or (programmed xs (2 * i) low) (2 * i + 1) 0) high) b
        (omega (arith, and_le_l (get_or (programmed xs (2 * i) low) (2 * i + 1) 0) high, b (2 * i + 1)))

    as_long : (low high : ℕ) → length (pair_programmed xs i low high) ≡ length xs
    as_long low high =
        length-set (programmed xs (2 * i) low) (2 * i + 1) (bit_and (get_or (programmed xs (2 * i) low) (2 * i + 1) 0) high) ∙ length-set xs (2 * i) (bit_and (get_or xs (2 * i) 0) low)

    word_bytes : (v : ℕ) → back true (programmed (pairs xs) i v) ≡ pair_programmed xs i (v % 256) (v / 256)
    word_bytes v =
        let ys : List ℕ = pair_programmed xs i (v % 256) (v / 256) in
        from_units true (programmed (pairs xs) i v) ys
        (program_law xs (programmed xs (2 * i) (v % 256)) ys i (2 * i) v (v % 256) (v / 256) refl refl refl refl refl (both_in xs i h) (bx (2 * i))).0
        (subst (λ (j : ℕ). torn true j ≡ false) (sym (as_long (v % 256) (v / 256))) t) (both (v % 256) (v / 256))

    pub program_bytes : (v : ℕ) (rs : List ℕ) → back true (array_of (Program i v) part rs (pairs xs)) ≡ pair_programmed xs i (v % 256) (v / 256)
    program_bytes v rs = word_bytes v

    -- cut: each byte with its own residue byte, 0 for the low one and 1 for the high one
    pub cut_bytes : (v r q : ℕ) (rs : List ℕ) → v < 65536 → r < 256 → q < 256
        → back true (array_of (CutProgram i v) part (pairs (r ∷ q ∷ rs)) (pairs xs)) ≡ pair_programmed xs i (bit_or (v % 256) r) (bit_or (v / 256) q)
    cut_bytes v r q rs lv lr lq =
        word_bytes (bit_or v (word_of r q)) ∙ ap₂ (λ (x y : ℕ). pair_programmed xs i x y) (low (bit_or v (word_of r q)) whole) (high (bit_or v (word_of r q)) whole)
      where
        split : word_of (v % 256) (v / 256) ≡ v
        split = omega arith

        small : bit_or (v % 256) r < 256
        small = or_lt 8 (v % 256) r (omega arith) lr

        whole : bit_or v (word_of r q) ≡ word_of (bit_or (v % 256) r) (bit_or (v / 256) q)
        whole = ap (λ (x : ℕ). bit_or x (word_of r q)) (sym split) ∙ or_word (v / 256) q (v % 256) r (omega arith) lr

        low : (x : ℕ) → x ≡ word_of (bit_or (v % 256) r) (bit_or (v / 256) q) → x % 256 ≡ bit_or (v % 256) r
        low x e = let s = small in omega arith

        high : (x : ℕ) → x ≡ word_of (bit_or (v % 256) r) (bit_or (v / 256) q) → x / 256 ≡ bit_or (v / 256) q
        high x e = let s = small in omega arith
