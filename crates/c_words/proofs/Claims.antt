-- What is claimed of knots as numbers: a knot that was packed is unpacked as it was.
use mathlib.Core.Path.{◌≡◌, ap, ◌∙◌}
use mathlib.Core.Bool.{true}
use mathlib.Core.List.{List}
use Prim.Native.Nat.{ℕ, ◌+◌, ◌-◌, ◌*◌, ◌/◌, ◌%◌, ◌≤◌, ◌<◌}
use native.Mathlib.Omega.{arith}
use lib.Dec.{leb, ltb}
use lib.IntN.{ℤ, pos, negsuc}
use lib.ListN.{length, get_or}
use lib.Signed.{le_z}
use borrow.Author.Tests.{leb-true, lt-ltb, le-ltb}
use Rattle.common.specs.Lists.{overlaid}
use Rattle.common.proofs.Bytes.{overlaid_length, overlaid_in}
use Rattle.common.proofs.Choice.{if_true, if_false, and_left, and_right}
use Rattle.reading_table.specs.Table.{word32, word16, signed32, signed16, knots, volts_of, tenths_of, in_range}
use Rattle.reading_table.proofs.Places.{volts_in, tenths_in}
use Rattle.reading_text.specs.Tables.{six_of}
use Rattle.c_words.specs.declared.KnotNumbers.{KnotNumbers}
use Rattle.c_words.specs.Knots.{there_of, knot_of, tenths_fit, pack_number, bits_of, pack_left}
use Rattle.c_words.proofs.Packing.{packed_why, packed}

-- bits taken apart and put together
by_bytes : (n : ℕ) → n < 4294967296 → word32 (n / 256 / 256 / 256 % 256) (n / 256 / 256 % 256) (n / 256 % 256) (n % 256) ≡ n
by_bytes n h = omega (arith, h)

joined_32 : (n : ℕ) → n < 4294967296 → word32 (n / 16777216 % 256) (n / 65536 % 256) (n / 256 % 256) (n % 256) ≡ n
joined_32 n h =
    let y : n / 65536 ≡ n / 256 / 256 = omega arith in
    let z : n / 16777216 ≡ n / 256 / 256 / 256 = omega arith in
    (λ i. word32 (z i % 256) (y i % 256) (n / 256 % 256) (n % 256)) ∙ by_bytes n h

joined_16 : (n : ℕ) → word16 (n / 256 % 256) (n % 256) ≡ n % 65536
joined_16 n = omega arith

-- microvolts in range by their bits
volts_bits : (v : ℤ) → in_range v ≡ true → (bits_of v < 4294967296) × (signed32 (bits_of v) ≡ v)
unfolding in_range signed32
volts_bits (pos n) h =
    let l = leb-true n 80000 (and_right true (leb n 80000) h) in
    (omega (arith, l), if_true (ltb n 2147483648) (pos n) (negsuc (4294967295 - n)) (lt-ltb n 2147483648 (omega (arith, l))))
volts_bits (negsuc n) h =
    let l = leb-true n 9999 (and_left (leb n 9999) true h) in
    let e : 4294967295 - (4294967295 - n) ≡ n = omega (arith, l) in (
      omega (arith, l),
      if_false (ltb (4294967295 - n) 2147483648) (pos (4294967295 - n)) (negsuc (4294967295 - (4294967295 - n))) (le-ltb (4294967295 - n) 2147483648 (omega (arith, l))) ∙ ap negsuc e,
    )

-- tenths that fit by their low 16 bits
tenths_bits : (t : ℤ) → tenths_fit t ≡ true → signed16 (bits_of t % 65536) ≡ t
unfolding tenths_fit signed16
tenths_bits (pos n) h =
    let l = leb-true n 32767 (and_right true (leb n 32767) h) in
    let e : n % 65536 ≡ n = omega (arith, l) in
    ap signed16 e ∙ if_true (ltb n 32768) (pos n) (negsuc (65535 - n)) (lt-ltb n 32768 (omega (arith, l)))
tenths_bits (negsuc n) h =
    let l = leb-true n 32767 (and_left (leb n 32767) true h) in
    let e : (4294967295 - n) % 65536 ≡ 65535 - n = omega (arith, l) in
    let f : 65535 - (65535 - n) ≡ n = omega (arith, l) in
    ap signed16 e ∙ if_false (ltb (65535 - n) 32768) (pos (65535 - n)) (negsuc (65535 - (65535 - n))) (le-ltb (65535 - n) 32768 (omega (arith, l))) ∙ ap negsuc f

module _ (place : ℕ) (v t : ℤ) (p : List ℕ) (h : pack_number place v t (length p) ≡ 0) where
  abbrev left : List ℕ
  left = overlaid p (6 * place) (six_of (bits_of v) (bits_of t))

  room : 6 * place + 6 ≤ length p
  room = let l = (packed_why place v t (length p) h).2 in omega (arith, l)

  count : length left ≡ length p
  count = overlaid_length p (6 * place) (six_of (bits_of v) (bits_of t)) room

  inside : place < knots left
  inside = let l = (packed_why place v t (length p) h).2 in let c = count in omega (arith, l, c)

  byte : (i : ℕ) → i < 6 → get_or left (6 * place + i) 0 ≡ get_or (six_of (bits_of v) (bits_of t)) i 0
  byte i l = overlaid_in p (6 * place) (six_of (bits_of v) (bits_of t)) room i l

  first : get_or left (6 * place) 0 ≡ bits_of v / 16777216 % 256
  first = let z : 6 * place ≡ 6 * place + 0 = omega arith in ap (λ (k : ℕ). get_or left k 0) z ∙ byte 0 (omega arith)

  volts : volts_of left place ≡ v
  volts =
      let b1 = byte 1 (omega arith) in
      let b2 = byte 2 (omega arith) in
      let b3 = byte 3 (omega arith) in
      let w = volts_bits v (packed_why place v t (length p) h).0 in
      volts_in left place inside ∙ (λ i. signed32 (word32 (first i) (b1 i) (b2 i) (b3 i))) ∙ ap signed32 (joined_32 (bits_of v) w.0) ∙ w.1

  tenths : tenths_of left place ≡ t
  tenths =
      let b4 = byte 4 (omega arith) in
      let b5 = byte 5 (omega arith) in
      tenths_in left place inside ∙ (λ i. signed16 (word16 (b4 i) (b5 i))) ∙ ap signed16 (joined_16 (bits_of t)) ∙ tenths_bits t (packed_why place v t (length p) h).1

  there : there_of place (length left) ≡ 1
  unfolding there_of
  there = if_true (ltb place (length left / 6)) 1 0 (lt-ltb _ _ inside)

  -- what was packed
  abbrev knot : KnotNumbers
  knot = record { microvolts = v; tenths = t; there = 1 }

  pub packed_back : knot_of place (pack_left place v t p) ≡ knot
  packed_back = ap (knot_of place) (packed place v t p h) ∙ (λ i. record { microvolts = volts i; tenths = tenths i; there = there i })
