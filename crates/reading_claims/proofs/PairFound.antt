-- The pair that the search finds holds the voltage, and no other pair does.
use mathlib.Core.Path.{◌≡◌, refl, subst}
use mathlib.Core.Bool.{Bool, true, false}
use mathlib.Core.Logic.{◌⊎◌, inl, inr}
use mathlib.Core.List.{List}
use Prim.Native.Nat.{ℕ, ◌+◌, ◌<◌}
use native.Mathlib.Omega.{arith}
use lib.Dec.{T, eqb, ltb}
use lib.IntN.{ℤ}
use lib.Signed.{le_z, lt_z, ◌≤ℤ◌, ◌<ℤ◌, clash_ℤ}
use borrow.Author.Tests.{ne_eqb, eqb-false, ltb-true, ltb-false}
use Rattle.std.specs.Prelude.{if◌then◌else◌}
use Rattle.reading_table.specs.Table.{knots, volts_of}
use Rattle.reading_table.specs.Search.{seek_of}
use Rattle.reading_table.proofs.Order.{le_trans}
use Rattle.reading_table.proofs.Seeking.{Around, seek_brackets}
use Rattle.reading_claims.specs.Tables.{Table, PairHolds, Inside}
use Rattle.reading_claims.proofs.Judged.{upto}

-- ends that touch or are past x
end_of : (p : List ℕ) (x : ℤ) (i : ℕ) (b : Bool) → eqb (i + 2) (knots p) ≡ b → T (le_z x (volts_of p (i + 1))) → ((i + 1 + 1 ≡ knots p) ⊎ T (lt_z x (volts_of p (i + 1))))
    → T (if b then le_z x (volts_of p (i + 1)) else lt_z x (volts_of p (i + 1)))
end_of p x i true e l o = l
end_of p x i false e l (inr h) = h
end_of p x i false e l (inl q) = absurd (eqb-false (i + 2) (knots p) e (omega (arith, q)))

pub found_holds : (p : List ℕ) (x : ℤ) → Table p → Inside p x → PairHolds p (seek_of p x) x
found_holds p x t h =
    let i = seek_of p x in
    let a : Around p x (knots p) i (i + 1) = seek_brackets p x t.two h.0 h.1 in
    record { pair = a.within; from = a.from; to = end_of p x i (eqb (i + 2) (knots p)) refl a.to a.ends }

-- what a pair that holds x says of its upper knot
pub upper : (p : List ℕ) (x : ℤ) (i : ℕ) → PairHolds p i x → (i + 2 ≡ knots p → ⊥) → T (lt_z x (volts_of p (i + 1)))
upper p x i h n = subst (λ (b : Bool). T (if b then le_z x (volts_of p (i + 1)) else lt_z x (volts_of p (i + 1)))) (ne_eqb (i + 2) (knots p) n) h.to

-- the earlier of two pairs does not hold what the later holds
not_both : (p : List ℕ) (x : ℤ) (i j : ℕ) → Table p → PairHolds p i x → PairHolds p j x → i < j → ⊥
not_both p x i j t h k l =
    let w = k.pair in
    let u : T (lt_z x (volts_of p (i + 1))) = upper p x i h (λ (q : i + 2 ≡ knots p). omega (arith, q, l, w)) in
    let v : T (le_z (volts_of p (i + 1)) x) = le_trans (volts_of p (i + 1)) (volts_of p j) x (upto p t (i + 1) j (omega (arith, l)) (omega (arith, w))) k.from in
    let a : x <ℤ volts_of p (i + 1) = record { lt = u } in
    let b : volts_of p (i + 1) ≤ℤ x = record { le = v } in
    clash_ℤ a b

pub one_holds : (p : List ℕ) (x : ℤ) (i j : ℕ) → Table p → PairHolds p i x → PairHolds p j x → i ≡ j
one_holds p x i j t h k = go (ltb i j) refl (ltb j i) refl
  where
    go : (a : Bool) → ltb i j ≡ a → (b : Bool) → ltb j i ≡ b → i ≡ j
    go true e b f = absurd (not_both p x i j t h k (ltb-true i j e))
    go false e true f = absurd (not_both p x j i t k h (ltb-true j i f))
    go false e false f = let u = ltb-false i j e in let v = ltb-false j i f in omega (arith, u, v)
