-- Below, above and between, each exactly where it applies.
use mathlib.Core.Path.{◌≡◌, refl, sym, ap, ◌∙◌, subst}
use mathlib.Core.Bool.{Bool, true, false}
use mathlib.Core.Logic.{◌↔◌}
use mathlib.Core.List.{List}
use Prim.Native.Nat.{ℕ, ◌-◌, zero-le}
use native.Mathlib.Omega.{arith}
use lib.Dec.{T}
use lib.IntN.{ℤ}
use lib.Signed.{lt_z, ◌≤ℤ◌, ◌<ℤ◌, clash_ℤ}
use lib.Ieee.{Float, binary64, of_int}
use Rattle.reading_pair.specs.Pairs.{interpolated}
use Rattle.reading_table.specs.Table.{knots, volts_of}
use Rattle.reading_table.specs.Search.{seek_of}
use Rattle.reading_table.proofs.Order.{not_lt, lt_le, le_trans}
use Rattle.reading.specs.declared.Reading.{Reading}
use Rattle.reading.specs.declared.Reading.TheVariants.{Temperature, Below, Above}
use Rattle.reading.specs.Readings.{heat_of, pair_at, reading_of}
use Rattle.reading.proofs.WaysOut.{reads_below, reads_above, reads_between}
use Rattle.reading_claims.specs.Tables.{Table, Inside}
use Rattle.reading_claims.specs.Answers.{degrees}
use Rattle.reading_claims.proofs.Judged.{upto}

-- which side of a table x is on, with the reading there
pub data Side (p : List ℕ) (x : ℤ) : Type 0 where
  under : T (lt_z x (volts_of p 0)) → reading_of p x ≡ Below (heat_of p 0) → Side p x
  over : T (lt_z (volts_of p (knots p - 1)) x) → reading_of p x ≡ Above (heat_of p (knots p - 1)) → Side p x
  within : Inside p x → reading_of p x ≡ Temperature (interpolated (pair_at p (seek_of p x)) (of_int binary64 x)) → Side p x

pub side : (p : List ℕ) (x : ℤ) → Side p x
side p x = go (lt_z x (volts_of p 0)) refl (lt_z (volts_of p (knots p - 1)) x) refl
  where
    go : (a : Bool) → lt_z x (volts_of p 0) ≡ a → (b : Bool) → lt_z (volts_of p (knots p - 1)) x ≡ b → Side p x
    go true e b f = under (subst T (sym e) tt) (sym (reads_below p x e))
    go false e true f = over (subst T (sym f) tt) (sym (reads_above p x e f))
    go false e false f = within (not_lt x (volts_of p 0) e, not_lt (volts_of p (knots p - 1)) x f) (sym (reads_between p x e f))

-- the sides exclude each other
under_not_inside : (p : List ℕ) (x : ℤ) → T (lt_z x (volts_of p 0)) → Inside p x → ⊥
under_not_inside p x u h =
    let a : x <ℤ volts_of p 0 = record { lt = u } in
    let b : volts_of p 0 ≤ℤ x = record { le = h.0 } in
    clash_ℤ a b

over_not_inside : (p : List ℕ) (x : ℤ) → T (lt_z (volts_of p (knots p - 1)) x) → Inside p x → ⊥
over_not_inside p x u h =
    let a : volts_of p (knots p - 1) <ℤ x = record { lt = u } in
    let b : x ≤ℤ volts_of p (knots p - 1) = record { le = h.1 } in
    clash_ℤ a b

under_not_over : (p : List ℕ) (x : ℤ) → Table p → T (lt_z x (volts_of p 0)) → T (lt_z (volts_of p (knots p - 1)) x) → ⊥
under_not_over p x t u o =
    under_not_inside p x u (
      le_trans (volts_of p 0) (volts_of p (knots p - 1)) x (upto p t 0 (knots p - 1) zero-le (omega (arith, t.two))) (lt_le (volts_of p (knots p - 1)) x o),
      le_trans x (volts_of p 0) (volts_of p (knots p - 1)) (lt_le x (volts_of p 0) u) (upto p t 0 (knots p - 1) zero-le (omega (arith, t.two))),
    )

-- two cases of a reading are not one
case : Reading → ℕ
case (Temperature r) = 0
case (Below r) = 1
case (Above r) = 2

module _ (p : List ℕ) (x : ℤ) (t : Table p) (r : Float) where
  pub below_exactly : reading_of p x ≡ Below r ↔ (T (lt_z x (volts_of p 0)) × (r ≡ heat_of p 0))
  unfolding case
  below_exactly = (λ e. forth e (side p x), λ h. back h (side p x))
    where
      forth : reading_of p x ≡ Below r → Side p x → T (lt_z x (volts_of p 0)) × (r ≡ heat_of p 0)
      forth e (under u q) = (u, sym (ap degrees (sym q ∙ e)))
      forth e (over u q) = absurd (let z : ◌≡◌ {A = ℕ} 2 1 = ap case (sym q ∙ e) in omega arith)
      forth e (within u q) = absurd (let z : ◌≡◌ {A = ℕ} 0 1 = ap case (sym q ∙ e) in omega arith)

      back : T (lt_z x (volts_of p 0)) × (r ≡ heat_of p 0) → Side p x → reading_of p x ≡ Below r
      back h (under u q) = q ∙ ap Below (sym h.1)
      back h (over u q) = absurd (under_not_over p x t h.0 u)
      back h (within u q) = absurd (under_not_inside p x h.0 u)

  pub above_exactly : reading_of p x ≡ Above r ↔ (T (lt_z (volts_of p (knots p - 1)) x) × (r ≡ heat_of p (knots p - 1)))
  unfolding case
  above_exactly = (λ e. forth e (side p x), λ h. back h (side p x))
    where
      forth : reading_of p x ≡ Above r → Side p x → T (lt_z (volts_of p (knots p - 1)) x) × (r ≡ heat_of p (knots p - 1))
      forth e (under u q) = absurd (let z : ◌≡◌ {A = ℕ} 1 2 = ap case (sym q ∙ e) in omega arith)
      forth e (over u q) = (u, sym (ap degrees (sym q ∙ e)))
      forth e (within u q) = absurd (let z : ◌≡◌ {A = ℕ} 0 2 = ap case (sym q ∙ e) in omega arith)

      back : T (lt_z (volts_of p (knots p - 1)) x) × (r ≡ heat_of p (knots p - 1)) → Side p x → reading_of p x ≡ Above r
      back h (under u q) = absurd (under_not_over p x t u h.0)
      back h (over u q) = q ∙ ap Above (sym h.1)
      back h (within u q) = absurd (over_not_inside p x h.0 u)

  pub temperature_exactly : reading_of p x ≡ Temperature r ↔ (Inside p x × (r ≡ interpolated (pair_at p (seek_of p x)) (of_int binary64 x)))
  unfolding case
  temperature_exactly = (λ e. forth e (side p x), λ h. back h (side p x))
    where
      forth : reading_of p x ≡ Temperature r → Side p x → Inside p x × (r ≡ interpolated (pair_at p (seek_of p x)) (of_int binary64 x))
      forth e (under u q) = absurd (let z : ◌≡◌ {A = ℕ} 1 0 = ap case (sym q ∙ e) in omega arith)
      forth e (over u q) = absurd (let z : ◌≡◌ {A = ℕ} 2 0 = ap case (sym q ∙ e) in omega arith)
      forth e (within u q) = (u, sym (ap degrees (sym q ∙ e)))

      back : Inside p x × (r ≡ interpolated (pair_at p (seek_of p x)) (of_int binary64 x)) → Side p x → reading_of p x ≡ Temperature r
      back h (under u q) = absurd (under_not_inside p x u h.0)
      back h (over u q) = absurd (over_not_inside p x u h.0)
      back h (within u q) = q ∙ ap Temperature (sym h.1)
