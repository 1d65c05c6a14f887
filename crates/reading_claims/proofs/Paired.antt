-- A temperature of a table, told by the pair that holds the voltage and without the search.
use mathlib.Core.Path.{◌≡◌, ap, ◌∙◌}
use mathlib.Core.Bool.{Bool, true, false}
use mathlib.Core.Logic.{◌↔◌}
use mathlib.Core.List.{List}
use Prim.Native.Nat.{ℕ, ◌+◌, ◌-◌, zero-le}
use native.Mathlib.Omega.{arith}
use lib.Dec.{T, eqb}
use lib.IntN.{ℤ}
use lib.Signed.{le_z, lt_z}
use lib.Ieee.{Float, binary64, of_int}
use Rattle.std.specs.Prelude.{if◌then◌else◌}
use Rattle.reading_pair.specs.Pairs.{interpolated}
use Rattle.reading_table.specs.Table.{knots, volts_of}
use Rattle.reading_table.specs.Search.{seek_of}
use Rattle.reading_table.proofs.Order.{le_trans, lt_le}
use Rattle.reading.specs.declared.Reading.TheVariants.{Temperature}
use Rattle.reading.specs.Readings.{pair_at, reading_of}
use Rattle.reading_claims.specs.Tables.{Table, PairHolds, Inside}
use Rattle.reading_claims.proofs.Judged.{upto}
use Rattle.reading_claims.proofs.PairFound.{found_holds, one_holds}
use Rattle.reading_claims.proofs.Sides.{temperature_exactly}

module _ (p : List ℕ) (x : ℤ) (t : Table p) where
  -- x is not over the upper knot of its pair
  not_over : (i : ℕ) → PairHolds p i x → T (le_z x (volts_of p (i + 1)))
  not_over i h = go (eqb (i + 2) (knots p)) h.to
    where
      go : (b : Bool) → T (if b then le_z x (volts_of p (i + 1)) else lt_z x (volts_of p (i + 1))) → T (le_z x (volts_of p (i + 1)))
      go true l = l
      go false l = lt_le x (volts_of p (i + 1)) l

  held_inside : (i : ℕ) → PairHolds p i x → Inside p x
  held_inside i h =
      let w = h.pair in (
        le_trans (volts_of p 0) (volts_of p i) x (upto p t 0 i zero-le (omega (arith, w))) h.from,
        le_trans x (volts_of p (i + 1)) (volts_of p (knots p - 1)) (not_over i h) (upto p t (i + 1) (knots p - 1) (omega (arith, w)) (omega (arith, w))),
      )

  pub paired : (r : Float) → reading_of p x ≡ Temperature r ↔ ((i : ℕ) × PairHolds p i x × (r ≡ interpolated (pair_at p i) (of_int binary64 x)))
  paired r = (
    λ (e : reading_of p x ≡ Temperature r). let k = (temperature_exactly p x t r).0 e in (seek_of p x, found_holds p x t k.0, k.1),
    λ (h : (i : ℕ) × PairHolds p i x × (r ≡ interpolated (pair_at p i) (of_int binary64 x))).
        let u = held_inside h.0 h.1 in
        let s : h.0 ≡ seek_of p x = one_holds p x h.0 (seek_of p x) t h.1 (found_holds p x t u) in
        (temperature_exactly p x t r).1 (u, h.2 ∙ ap (λ (i : ℕ). interpolated (pair_at p i) (of_int binary64 x)) s),
  )
