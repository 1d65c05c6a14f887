-- The number of a knot, and what is left of a payload, by that number.
use mathlib.Core.Path.{◌≡◌, refl, ap, ◌∙◌}
use mathlib.Core.Bool.{Bool, true, false}
use mathlib.Core.List.{List}
use Prim.Native.Nat.{ℕ, ◌*◌, ◌/◌, ◌<◌}
use native.Mathlib.Omega.{arith}
use lib.Dec.{eqb, ltb}
use lib.IntN.{ℤ}
use lib.ListN.{length}
use borrow.Author.Tests.{ltb-true, eq-eqb, ne_eqb}
use Rattle.std.specs.Prelude.{if◌then◌else◌}
use Rattle.common.specs.Lists.{overlaid}
use Rattle.common.proofs.Choice.{if_true, if_false}
use Rattle.reading_table.specs.Table.{in_range}
use Rattle.reading_text.specs.Tables.{six_of}
use Rattle.c_words.specs.Knots.{tenths_fit, pack_number, pack_left, bits_of}

module _ (place : ℕ) (v t : ℤ) where
  -- 0 is given only where both numbers fit and the place is there
  pub packed_why : (n : ℕ) → pack_number place v t n ≡ 0 → (in_range v ≡ true) × (tenths_fit t ≡ true) × (place < n / 6)
  unfolding pack_number
  packed_why n h = go (in_range v) refl (tenths_fit t) refl (ltb place (n / 6)) refl h
    where
      go : (a : Bool) → in_range v ≡ a → (b : Bool) → tenths_fit t ≡ b → (d : Bool) → ltb place (n / 6) ≡ d
          → ◌≡◌ {A = ℕ} (if a then (if b then (if d then 0 else 37) else 255) else 41) 0 → (in_range v ≡ true) × (tenths_fit t ≡ true) × (place < n / 6)
      go true e true f true g h = (e, f, ltb-true place (n / 6) g)
      go true e true f false g h = absurd (omega (arith, h))
      go true e false f d g h = absurd (omega (arith, h))
      go false e b f d g h = absurd (omega (arith, h))

  pub packed : (p : List ℕ) → pack_number place v t (length p) ≡ 0 → pack_left place v t p ≡ overlaid p (6 * place) (six_of (bits_of v) (bits_of t))
  unfolding pack_left
  packed p h = if_true (eqb (pack_number place v t (length p)) 0) (overlaid p (6 * place) (six_of (bits_of v) (bits_of t))) p (eq-eqb _ _ h)

  pub unpacked : (p : List ℕ) → (pack_number place v t (length p) ≡ 0 → ⊥) → pack_left place v t p ≡ p
  unfolding pack_left
  unpacked p h = if_false (eqb (pack_number place v t (length p)) 0) (overlaid p (6 * place) (six_of (bits_of v) (bits_of t))) p (ne_eqb _ _ h)
