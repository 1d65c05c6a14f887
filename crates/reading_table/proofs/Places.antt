-- A knot of the payload by its six bytes, and what stands past the last.
use mathlib.Core.Path.{◌≡◌}
use mathlib.Core.List.{List}
use Prim.Native.Nat.{ℕ, ◌+◌, ◌*◌, ◌≤◌, ◌<◌}
use lib.IntN.{pos}
use lib.ListN.{get_or}
use native.Mathlib.Omega.{arith}
use borrow.Author.Tests.{lt-ltb}
use mir.Syntax.{w8, w16, w32}
use mir.Val.{to_z, Fits}
use Rattle.std.proofs.lemmas.Bool.Decides.{nat_tests}
use Rattle.std.proofs.lemmas.Int.{ints}
use Rattle.reading_table.specs.Table.{signed32, signed16, word32, word16, knots, volts_of, tenths_of}

module _ (p : List ℕ) (i : ℕ) where
  pub volts_in : i < knots p → volts_of p i ≡ signed32 (word32 (get_or p (6 * i) 0) (get_or p (6 * i + 1) 0) (get_or p (6 * i + 2) 0) (get_or p (6 * i + 3) 0))
  unfolding volts_of
  volts_in h = simp (lt-ltb _ _ h)

  pub tenths_in : i < knots p → tenths_of p i ≡ signed16 (word16 (get_or p (6 * i + 4) 0) (get_or p (6 * i + 5) 0))
  unfolding tenths_of
  tenths_in h = simp (lt-ltb _ _ h)

  -- the bytes of a knot, high byte first, read as one signed number
  pub volts_read : (n : ℕ) → i < knots p → ((k : ℕ) → Fits w8 (get_or p k 0)) → n ≡ word32 (get_or p (6 * i) 0) (get_or p (6 * i + 1) 0) (get_or p (6 * i + 2) 0) (get_or p (6 * i + 3) 0) → to_z w32 n ≡ volts_of p i
  unfolding signed32
  volts_read n h b e =
      let l : n < 4294967296 = omega (arith, (b (6 * i)).fits, (b (6 * i + 1)).fits, (b (6 * i + 2)).fits, (b (6 * i + 3)).fits) in
      let v = volts_in h in grind (arith, nat_tests, ints)

  pub tenths_read : (n : ℕ) → i < knots p → ((k : ℕ) → Fits w8 (get_or p k 0)) → n ≡ word16 (get_or p (6 * i + 4) 0) (get_or p (6 * i + 5) 0) → to_z w16 n ≡ tenths_of p i
  unfolding signed16
  tenths_read n h b e =
      let l : n < 65536 = omega (arith, (b (6 * i + 4)).fits, (b (6 * i + 5)).fits) in
      let v = tenths_in h in grind (arith, nat_tests, ints)

  -- past the last knot
  pub volts_past : knots p ≤ i → volts_of p i ≡ pos 0
  unfolding volts_of
  volts_past h = grind (arith, nat_tests)

  pub tenths_past : knots p ≤ i → tenths_of p i ≡ pos 0
  unfolding tenths_of
  tenths_past h = grind (arith, nat_tests)
