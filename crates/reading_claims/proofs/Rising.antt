-- Readings rise with the voltage: inside a pair, and over a table whose temperatures do not fall.
use mathlib.Core.Path.{◌≡◌, refl, sym, subst}
use mathlib.Core.Bool.{Bool, true, false}
use mathlib.Core.Logic.{⊎_elim}
use mathlib.Core.List.{List}
use Prim.Native.Nat.{ℕ, zero, suc, ◌+◌, ◌-◌, ◌≤◌, ◌<◌, zero-le}
use native.Mathlib.Nat.{eq-or-lt_of_le}
use native.Mathlib.Omega.{arith}
use lib.Dec.{T, ltb}
use lib.IntN.{ℤ}
use lib.Signed.{le_z, lt_z, ◌≤ℤ◌, ◌<ℤ◌, ≤ℤ_refl, clash_ℤ}
use lib.Ieee.{Float, binary64, of_int, le}
use borrow.Author.Tests.{ltb-true, ltb-false}
use Rattle.reading_pair.specs.Pairs.{interpolated}
use Rattle.reading_pair.proofs.Chain.{le_self, le_over}
use Rattle.reading_pair.proofs.Rises.{inside_rises, inside_falls}
use Rattle.reading_table.specs.Table.{knots, volts_of, tenths_of}
use Rattle.reading_table.specs.Search.{seek_of}
use Rattle.reading_table.proofs.Order.{le_trans, lt_le}
use Rattle.reading_table.proofs.Seeking.{Around, seek_brackets}
use Rattle.reading_table.proofs.Knots.{tenths_size}
use Rattle.reading.specs.declared.Reading.{Reading}
use Rattle.reading.specs.Readings.{heat_of, pair_at, reading_of}
use Rattle.reading_claims.specs.Tables.{Table, Inside, Warming}
use Rattle.reading_claims.specs.Answers.{degrees}
use Rattle.reading_claims.proofs.Judged.{size, upto}
use Rattle.reading_claims.proofs.PairFound.{found_holds, upper}
use Rattle.reading_claims.proofs.Exact.{lower_exact}
use Rattle.reading_claims.proofs.Sides.{Side, under, over, within, side}
use Rattle.reading_claims.proofs.Bounds.{small, lies_up, Plain, plain_inside, plain_heat}

-- inside a pair
module _ (p : List ℕ) (t : Table p) (i : ℕ) (h : i + 1 < knots p) (x y : ℤ) (a : T (le_z (volts_of p i) x)) (o : T (le_z x y)) (b : T (le_z y (volts_of p (i + 1)))) where
  after : T (le_z (volts_of p i) y)
  after = le_trans (volts_of p i) x y a o

  before : T (le_z x (volts_of p (i + 1)))
  before = le_trans x y (volts_of p (i + 1)) o b

  pub pair_rises : T (le_z (tenths_of p i) (tenths_of p (i + 1))) → T (le (interpolated (pair_at p i) (of_int binary64 x)) (interpolated (pair_at p i) (of_int binary64 y)))
  unfolding pair_at
  pair_rises =
      inside_rises (volts_of p i) (tenths_of p i) (volts_of p (i + 1)) (tenths_of p (i + 1)) x y
      (size p t i (omega (arith, h))) (size p t (i + 1) h) (small p t i h x a before) (small p t i h y after b) (tenths_size p i) (tenths_size p (i + 1)) (t.rises i h) a after before b o

  pub pair_falls : T (lt_z (tenths_of p (i + 1)) (tenths_of p i)) → T (le (interpolated (pair_at p i) (of_int binary64 y)) (interpolated (pair_at p i) (of_int binary64 x)))
  unfolding pair_at
  pair_falls =
      inside_falls (volts_of p i) (tenths_of p i) (volts_of p (i + 1)) (tenths_of p (i + 1)) x y
      (size p t i (omega (arith, h))) (size p t (i + 1) h) (small p t i h x a before) (small p t i h y after b) (tenths_size p i) (tenths_size p (i + 1)) (t.rises i h) a after before b o

-- from one over a second to a third
past : (a b c : Float) → Plain a → Plain b → Plain c → T (le a b) → T (le b c) → T (le a c)
past a b c p q r h k = le_over a b c p.0 q.0 r.0 q.1 r.1 h k

-- two voltages that are not in this order
clash : (x y z : ℤ) → T (lt_z x y) → T (le_z y z) → T (le_z z x) → ⊥
clash x y z l m n =
    let a : x <ℤ y = record { lt = l } in
    let b : y ≤ℤ x = record { le = le_trans y z x m n } in
    clash_ℤ a b

-- over the whole table
module _ (p : List ℕ) (t : Table p) (w : Warming p) where
  -- the temperatures of the knots
  next : (i : ℕ) → i + 1 < knots p → T (le (heat_of p i) (heat_of p (i + 1)))
  next i h =
      subst (λ (r : Float). T (le r (heat_of p (i + 1)))) (lower_exact p t i h)
      (lies_up p t i h (volts_of p i) (≤ℤ_refl (volts_of p i)).le (lt_le (volts_of p i) (volts_of p (i + 1)) (t.rises i h)) (w i h)).1

  knots_rise : (i j : ℕ) → i ≤ j → j < knots p → T (le (heat_of p i) (heat_of p j))
  knots_rise i zero l h = let e : i ≡ 0 = omega (arith, l) in subst (λ (k : ℕ). T (le (heat_of p k) (heat_of p 0))) (sym e) (le_self (heat_of p 0) (plain_heat p 0).0)
  knots_rise i (suc j) l h =
      let e : j + 1 ≡ suc j = omega arith in
      let s : T (le (heat_of p j) (heat_of p (suc j))) = subst (λ (k : ℕ). T (le (heat_of p j) (heat_of p k))) e (next j (omega (arith, h))) in
      ⊎_elim (λ (d : i ≡ suc j). subst (λ (k : ℕ). T (le (heat_of p k) (heat_of p (suc j)))) (sym d) (le_self (heat_of p (suc j)) (plain_heat p (suc j)).0))
      (λ (d : i < suc j). past (heat_of p i) (heat_of p j) (heat_of p (suc j)) (plain_heat p i) (plain_heat p j) (plain_heat p (suc j)) (knots_rise i j (omega (arith, d)) (omega (arith, h))) s)
      (eq-or-lt_of_le l)

  -- a reading inside the table, between the temperatures of its knots
  module _ (x : ℤ) (u : Inside p x) where
    abbrev R : Float
    R = interpolated (pair_at p (seek_of p x)) (of_int binary64 x)

    found : Around p x (knots p) (seek_of p x) (seek_of p x + 1)
    found = seek_brackets p x t.two u.0 u.1

    is_plain : Plain R
    is_plain = plain_inside p t (seek_of p x) found.within x found.from found.to

    from_lower : T (le (heat_of p (seek_of p x)) R)
    from_lower = (lies_up p t (seek_of p x) found.within x found.from found.to (w (seek_of p x) found.within)).0

    to_upper : T (le R (heat_of p (seek_of p x + 1)))
    to_upper = (lies_up p t (seek_of p x) found.within x found.from found.to (w (seek_of p x) found.within)).1

    from_first : T (le (heat_of p 0) R)
    from_first =
        let f = found.within in
        past (heat_of p 0) (heat_of p (seek_of p x)) R (plain_heat p 0) (plain_heat p (seek_of p x)) is_plain (knots_rise 0 (seek_of p x) zero-le (omega (arith, f))) from_lower

    to_knot : (j : ℕ) → seek_of p x + 1 ≤ j → j < knots p → T (le R (heat_of p j))
    to_knot j l h = past R (heat_of p (seek_of p x + 1)) (heat_of p j) is_plain (plain_heat p (seek_of p x + 1)) (plain_heat p j) to_upper (knots_rise (seek_of p x + 1) j l h)

  -- two readings inside the table
  both : (x y : ℤ) (u : Inside p x) (v : Inside p y) → T (le_z x y) → T (le (interpolated (pair_at p (seek_of p x)) (of_int binary64 x)) (interpolated (pair_at p (seek_of p y)) (of_int binary64 y)))
  both x y u v o = go (ltb (seek_of p x) (seek_of p y)) refl (ltb (seek_of p y) (seek_of p x)) refl
    where
      go : (a : Bool) → ltb (seek_of p x) (seek_of p y) ≡ a → (b : Bool) → ltb (seek_of p y) (seek_of p x) ≡ b → T (le (interpolated (pair_at p (seek_of p x)) (of_int binary64 x)) (interpolated (pair_at p (seek_of p y)) (of_int binary64 y)))
      go true e b f =
          let l = ltb-true (seek_of p x) (seek_of p y) e in
          let g = (found y v).within in
          past (R x u) (heat_of p (seek_of p y)) (R y v) (is_plain x u) (plain_heat p (seek_of p y)) (is_plain y v) (to_knot x u (seek_of p y) (omega (arith, l)) (omega (arith, g))) (from_lower y v)
      go false e true f =
          let l = ltb-true (seek_of p y) (seek_of p x) f in
          let g = (found x u).within in
          let q = upper p y (seek_of p y) (found_holds p y t v) (λ (z : seek_of p y + 2 ≡ knots p). omega (arith, z, l, g)) in
          absurd (clash y (volts_of p (seek_of p y + 1)) x q (le_trans (volts_of p (seek_of p y + 1)) (volts_of p (seek_of p x)) x (upto p t (seek_of p y + 1) (seek_of p x) (omega (arith, l)) (omega (arith, g))) (found x u).from) o)
      go false e false f =
          let l = ltb-false (seek_of p x) (seek_of p y) e in
          let m = ltb-false (seek_of p y) (seek_of p x) f in
          let s : seek_of p x ≡ seek_of p y = omega (arith, l, m) in
          let b : T (le_z y (volts_of p (seek_of p x + 1))) = subst (λ (k : ℕ). T (le_z y (volts_of p (k + 1)))) (sym s) (found y v).to in
          subst (λ (k : ℕ). T (le (interpolated (pair_at p (seek_of p x)) (of_int binary64 x)) (interpolated (pair_at p k) (of_int binary64 y)))) s
          (pair_rises p t (seek_of p x) (found x u).within x y (found x u).from o b (w (seek_of p x) (found x u).within))

  -- more voltage never reads lower
  pub table_rises : (x y : ℤ) → T (le_z x y) → T (le (degrees (reading_of p x)) (degrees (reading_of p y)))
  table_rises x y o = go (side p x) (side p y)
    where
      end : knots p - 1 < knots p
      end = omega (arith, t.two)

      both_are : {a b : Reading} → reading_of p x ≡ a → reading_of p y ≡ b → T (le (degrees a) (degrees b)) → T (le (degrees (reading_of p x)) (degrees (reading_of p y)))
      both_are {a} {b} e f h = subst (λ (r : Reading). T (le (degrees r) (degrees (reading_of p y)))) (sym e) (subst (λ (r : Reading). T (le (degrees a) (degrees r))) (sym f) h)

      go : Side p x → Side p y → T (le (degrees (reading_of p x)) (degrees (reading_of p y)))
      go (under u e) (under v f) = both_are e f (le_self (heat_of p 0) (plain_heat p 0).0)
      go (under u e) (within v f) = both_are e f (from_first y v)
      go (under u e) (over v f) = both_are e f (knots_rise 0 (knots p - 1) zero-le end)
      go (within u e) (under v f) = absurd (clash y (volts_of p 0) x v u.0 o)
      go (within u e) (within v f) = both_are e f (both x y u v o)
      go (within u e) (over v f) = let g = (found x u).within in both_are e f (to_knot x u (knots p - 1) (omega (arith, g)) end)
      go (over u e) (under v f) = absurd (clash y (volts_of p 0) x v (le_trans (volts_of p 0) (volts_of p (knots p - 1)) x (upto p t 0 (knots p - 1) zero-le end) (lt_le (volts_of p (knots p - 1)) x u)) o)
      go (over u e) (within v f) = absurd (clash (volts_of p (knots p - 1)) x y u o v.1)
      go (over u e) (over v f) = both_are e f (le_self (heat_of p (knots p - 1)) (plain_heat p (knots p - 1)).0)
