-- f64's own order among numbers that are finite and not the zero with a minus sign: from one to itself, and from one over a second to a
-- third.
use mathlib.Core.Path.{◌≡◌, refl, sym}
use mathlib.Core.Bool.{Bool, true, false, ◌&&◌, ◌||◌}
use Prim.Native.Nat.{ℕ, ◌*◌, ◌≤◌, ◌<◌}
use native.Mathlib.Nat.{le_refl, le_of_eq, mul-pos}
use native.Mathlib.Omega.{arith}
use lib.Dec.{T, ltb, eqb, ltb→lt, eqb→eq}
use lib.IntN.{ℤ}
use lib.Ieee.{Float, nan, inf, fin, le, lt, eq, below, level, up, down}
use lib.Ieee.Scale.{finite}
use lib.Ieee.Fits.{up_pos, down_pos}
use lib.Ieee.Positive.{through}
use Rattle.reading_pair.specs.Order.{not_minus_zero}
use Rattle.reading_pair.proofs.Rounded.{SLe, le_signed}

-- what the tests of two finite numbers say of their sizes, each times the other's denominator
said : (s : Bool) (a : ℕ) (t : Bool) (b : ℕ) → (t ≡ true → 0 < b) → T (below s a t b || level s a t b) → SLe s a t b
said false a false b n h = go (ltb a b) (eqb a b) (ltb→lt a b) (eqb→eq a b) h
  where
    go : (x y : Bool) → (T x → a < b) → (T y → a ≡ b) → T (x || (y && true)) → a ≤ b
    go true y p q t = let l = p tt in omega (arith, l)
    go false true p q t = le_of_eq (q tt)
    go false false p q t = absurd t
said false a true b n h = absurd (go (eqb a b) (eqb a 0) (eqb→eq a b) (eqb→eq a 0) h)
  where
    go : (x y : Bool) → (T x → a ≡ b) → (T y → a ≡ 0) → T (x && y) → ⊥
    go true true p q t = let i = p tt in let j = q tt in let k = n refl in omega (arith, i, j, k)
    go true false p q t = t
    go false y p q t = t
said true a false b n h = tt
said true a true b n h = go (ltb b a) (eqb a b) (ltb→lt b a) (eqb→eq a b) h
  where
    go : (x y : Bool) → (T x → b < a) → (T y → a ≡ b) → T (x || (y && true)) → b ≤ a
    go true y p q t = let l = p tt in omega (arith, l)
    go false true p q t = le_of_eq (sym (q tt))
    go false false p q t = absurd t

-- three fractions with signs
chain : (s t u : Bool) (x y z p q r : ℕ) → 0 < q → SLe s (x * q) t (y * p) → SLe t (y * r) u (z * q) → SLe s (x * r) u (z * p)
chain false false false x y z p q r Q h k = through x y z p q r Q h k
chain false false true x y z p q r Q h k = absurd k
chain false true u x y z p q r Q h k = absurd h
chain true false false x y z p q r Q h k = tt
chain true false true x y z p q r Q h k = absurd k
chain true true false x y z p q r Q h k = tt
chain true true true x y z p q r Q h k = through z y x r q p Q k h

same : (s : Bool) (a : ℕ) → SLe s a s a
same false a = le_refl a
same true a = le_refl a

-- a number that is not the zero with a minus sign is something where it is negative
some : (s : Bool) (m : ℕ) (e : ℤ) (a b : ℕ) → 0 < a → 0 < b → T (not_minus_zero (fin s m e)) → s ≡ true → 0 < m * a * b
some false m e a b h k n q = absurd (let z : ◌≡◌ {A = ℕ} 0 1 = cc in omega arith)
some true m e a b h k n q = mul-pos (mul-pos (ltb→lt 0 m n) h) k

pub le_self : (x : Float) → T (finite x) → T (le x x)
le_self nan h = absurd h
le_self (inf s) h = absurd h
le_self (fin s m e) h = le_signed (fin s m e) (fin s m e) s s (m * up e) (down e) (m * up e) (down e) (down_pos e) (down_pos e) (refl, refl) (refl, refl) (same s (m * up e * down e))

pub le_over : (x y z : Float) → T (finite x) → T (finite y) → T (finite z) → T (not_minus_zero y) → T (not_minus_zero z) → T (le x y) → T (le y z) → T (le x z)
unfolding le lt eq
le_over nan y z h i j n o k l = absurd h
le_over (inf s) y z h i j n o k l = absurd h
le_over (fin s m e) nan z h i j n o k l = absurd i
le_over (fin s m e) (inf t) z h i j n o k l = absurd i
le_over (fin s m e) (fin t a d) nan h i j n o k l = absurd j
le_over (fin s m e) (fin t a d) (inf u) h i j n o k l = absurd j
le_over (fin s m e) (fin t a d) (fin u b g) h i j n o k l =
    le_signed (fin s m e) (fin u b g) s u (m * up e) (down e) (b * up g) (down g) (down_pos e) (down_pos g) (refl, refl) (refl, refl)
    (chain s t u (m * up e) (a * up d) (b * up g) (down e) (down d) (down g) (down_pos d)
    (said s (m * up e * down d) t (a * up d * down e) (some t a d (up d) (down e) (up_pos d) (down_pos e) n) k)
    (said t (a * up d * down g) u (b * up g * down d) (some u b g (up g) (down d) (up_pos g) (down_pos d) o) l))
