-- The tenth shown is the nearest: doubling is exact, the whole part is the floor, and one more than it is halved.
use Rattle.std.proofs.Common.{◌≡◌, ℕ, zero, suc, ◌+◌, ◌-◌, ◌*◌, ◌/◌, ◌%◌, ◌^◌, ◌<◌, ◌≤◌, min, Bool, true, false, ◌&&◌, T, eqb, ltb, leb, ℤ, pos, negsuc, sym, refl, ap, ◌∙◌, subst, ap₂, le_trans, lt_of_lt_of_le, lt_irrefl, mul-le-mul_right, mul_assoc, mul_comm, div-lt_iff_lt-mul, add-mul, lt_of_mul-lt-mul_right, mul-lt-mul_of_pos_right, mul-pos, one-mul, pow-suc, mul-one, mul_right_comm, div-mul-le_self, two-mul, arith, lit≤, eqb→eq, ltb→lt, leb→le, pow_pos, pow-add, ltb-false, lt-ltb, ne_eqb, eqb-true, leb-false, leb-true}
use native.Mathlib.Nat.{lt-mul-div-succ}
use lib.Pow.{pow-lt}
use lib.Ieee.{Float, nan, inf, fin, binary64, up, down, add, sum, round, neg, lt, eq, le, to_unsigned, fits}
use lib.Ieee.Exact.{HasValue, round_exact}
use lib.Ieee.Nearest.{div_same}
use lib.Ieee.Fits.{up_pos, down_pos, and_l, and_r}
use borrow.Author.Tests.{eqb-false}
use Rattle.std.specs.Prelude.{if◌then◌else◌}
use Rattle.common.proofs.Choice.{if_true, if_false, if_ind, or_left, or_right, and_none, unlike}
use Rattle.reading_print.specs.Texts.{is_under, size_shown, whole_of, tenths_shown, NearestTo}
use Rattle.reading_print.proofs.Shown.{whole_in, shown_in}

-- 2 ^ e in units of the smallest value
record Scaled (e : ℤ) : Type 0 where
  pub place : ℕ
  pub same : up e * 2 ^ 1074 ≡ 2 ^ place * down e

scaled : (e : ℤ) → down e ≤ 2 ^ 1074 → Scaled e
scaled (pos k) h = record { place = k + 1074; same = sym (pow-add 2 k 1074) ∙ sym (mul-one (2 ^ (k + 1074))) }
scaled (negsuc k) h = go (leb (suc k) 1074) refl
  where
    go : (b : Bool) → leb (suc k) 1074 ≡ b → Scaled (negsuc k)
    go true x =
        let l = leb-true (suc k) 1074 x in
        let e : 1074 - suc k + suc k ≡ 1074 = omega (arith, l) in
        record { place = 1074 - suc k; same = one-mul (2 ^ 1074) ∙ ap (λ (z : ℕ). 2 ^ z) (sym e) ∙ pow-add 2 (1074 - suc k) (suc k) }
    go false x = absurd (lt_irrefl (2 ^ 1074) (lt_of_lt_of_le (pow-lt (leb-false (suc k) 1074 x)) h))

-- the products of a doubling
one_term : (m u d l j : ℕ) → u * l ≡ j * d → m * u * d * l ≡ m * j * (d * d)
one_term m u d l j e =
    mul_right_comm (m * u) d l ∙ ap (λ (z : ℕ). z * d) (mul_assoc m u l ∙ ap (λ (z : ℕ). m * z) e ∙ sym (mul_assoc m j d)) ∙ mul_assoc (m * j) d d

doubled_term : (m u d l j : ℕ) → u * l ≡ j * d → (m * u * d + m * u * d) * l ≡ m * (j * 2) * (d * d)
doubled_term m u d l j e =
    let t = one_term m u d l j e in
    let w : m * (j * 2) * (d * d) ≡ m * j * (d * d) + m * j * (d * d) =
    ap (λ (z : ℕ). z * (d * d)) (sym (mul_assoc m j 2) ∙ mul_comm (m * j) 2 ∙ two-mul (m * j)) ∙ add-mul (m * j) (m * j) (d * d) in
    add-mul (m * u * d) (m * u * d) l ∙ ap₂ ◌+◌ t t ∙ sym w

small_term : (m u d l j : ℕ) → 0 < d → 0 < l → u * l ≡ j * d → m * u < 2147483648 * d → m * (j * 2) < 2147483648 * l * 2
small_term m u d l j D L e h =
    let a : m * u * l < 2147483648 * d * l = mul-lt-mul_of_pos_right h L in
    let b : m * u * l ≡ m * j * d = mul_assoc m u l ∙ ap (λ (z : ℕ). m * z) e ∙ sym (mul_assoc m j d) in
    let c : m * j * d < 2147483648 * l * d = subst (λ (z : ℕ). z < 2147483648 * l * d) b (subst (λ (z : ℕ). m * u * l < z) (mul_right_comm 2147483648 d l) a) in
    let f : m * j < 2147483648 * l = lt_of_mul-lt-mul_right d c in
    subst (λ (z : ℕ). z < 2147483648 * l * 2) (mul_assoc m j 2) (mul-lt-mul_of_pos_right f (omega arith))

-- doubling is exact
twice : (s : Bool) (m : ℕ) (e : ℤ) → add binary64 (fin s m e) (fin s m e) ≡ round binary64 s (m * up e * down e + m * up e * down e) (down e * down e)
unfolding add sum
twice true m e = refl
twice false m e = refl

module _ (m : ℕ) (e : ℤ) (few : m < 2 ^ 53) (deep : down e ≤ 2 ^ 1074) (small : m * up e < 2147483648 * down e) where
  abbrev X : ℕ
  X = m * up e

  abbrev D : ℕ
  D = down e

  exact : (s : Bool) → HasValue (add binary64 (fin s m e) (fin s m e)) s (X * D + X * D) (D * D)
  exact s =
      let t = scaled e deep in
      let p : 2 ^ suc t.place ≡ 2 ^ t.place * 2 = pow-suc 2 t.place in
      subst (λ (z : Float). HasValue z s (X * D + X * D) (D * D)) (sym (twice s m e))
      (round_exact binary64 s (X * D + X * D) (D * D) m (suc t.place) (mul-pos (down_pos e) (down_pos e)) few
      (subst (λ (z : ℕ). m * z < 2 ^ 2098) (sym p) (lt_of_lt_of_le (small_term m (up e) D (2 ^ 1074) (2 ^ t.place) (down_pos e) (pow_pos 1074) t.same small) (lit≤ tt)))
      (doubled_term m (up e) D (2 ^ 1074) (2 ^ t.place) t.same ∙ ap (λ (z : ℕ). m * z * (D * D)) (sym p)))

  same_floor : (X * D + X * D) / (D * D) ≡ (X + X) / D
  same_floor =
      div_same (X * D + X * D) (D * D) (X + X) D (mul-pos (down_pos e) (down_pos e)) (down_pos e)
      (ap (λ (z : ℕ). z * D) (sym (add-mul X X D)) ∙ mul_assoc (X + X) D D)

  few_tenths : (X + X) / D < 4294967296
  few_tenths = let h = small in (div-lt_iff_lt-mul (down_pos e)).1 (omega (arith, h))

-- the whole part is the floor
min_is : (q n : ℕ) → q ≤ n → min q n ≡ q
min_is q n h = omega (arith, h)

floor : (d : Float) (a c : ℕ) → 0 < c → a < 4294967296 * c → HasValue d false a c → whole_of d ≡ a / c
unfolding lt to_unsigned
floor nan a c C h v = absurd v
floor (inf s) a c C h v = absurd v
floor (fin true m e) a c C h v = absurd (unlike v.0)
floor (fin false m e) a c C h v =
    let d = down_pos e in
    let p : m * up e * c < 4294967296 * c * down e = subst (λ (z : ℕ). z < 4294967296 * c * down e) (sym v.1) (mul-lt-mul_of_pos_right h d) in
    let q : m * up e < 4294967296 * down e = lt_of_mul-lt-mul_right c (subst (λ (z : ℕ). m * up e * c < z) (mul_right_comm 4294967296 c (down e)) p) in
    let r : m * up e / down e < 4294967296 = (div-lt_iff_lt-mul d).1 q in
    whole_in (fin false m e) (lt-ltb 0 (1 * 2 ^ 0 * down e + m * up e * 1) (omega (arith, d))) (lt-ltb (m * up e * 1) (1 * 2 ^ 64 * down e) (omega (arith, q)))
    ∙ min_is (m * up e / down e) (2 ^ 64 - 1) (omega (arith, r))
    ∙ div_same (m * up e) (down e) a c d C v.1

-- of a number below zero it is 0
floor_minus : (d : Float) (a c : ℕ) → HasValue d true a c → whole_of d ≡ 0
unfolding whole_of to_unsigned
floor_minus nan a c v = absurd v
floor_minus (inf s) a c v = absurd v
floor_minus (fin false m e) a c v = absurd (unlike (sym v.0))
floor_minus (fin true m e) a c v =
    if_ind (λ (z : ℕ). z ≡ 0) (lt (fin true 1 (pos 0)) (fin true m e)) (if lt (fin true m e) (fin false 1 (pos 64)) then 0 else 0) 0
    (λ x. if_ind (λ (z : ℕ). z ≡ 0) (lt (fin true m e) (fin false 1 (pos 64))) 0 0 (λ y. refl) (λ y. refl)) (λ x. refl)

-- one more than the floor of the double, halved, is the nearest
half_up : (a c u : ℕ) → 0 < c → u ≡ (a + a) / c → NearestTo ((u + 1) / 2) a c
half_up a c u C e =
    let n = (u + 1) / 2 in
    let f : u * c ≤ a + a = subst (λ (z : ℕ). z * c ≤ a + a) (sym e) (div-mul-le_self (a + a) c) in
    let g : a + a < c * (u + 1) = subst (λ (z : ℕ). a + a < c * (z + 1)) (sym e) (lt-mul-div-succ (a + a) C) in
    let g2 : a + a < (u + 1) * c = subst (λ (z : ℕ). a + a < z) (mul_comm c (u + 1)) g in
    let x : (u + 1) * c ≡ u * c + 1 * c = add-mul u 1 c in
    let p : 2 * n * c ≤ (u + 1) * c = mul-le-mul_right c (omega arith) in
    let q : (u + 1) * c ≤ (2 * n + 1) * c = mul-le-mul_right c (omega arith) in
    (omega (arith, f, x, p), omega (arith, g2, q))

module _ (m : ℕ) (e : ℤ) (few : m < 2 ^ 53) (deep : down e ≤ 2 ^ 1074) (small : m * up e < 2147483648 * down e) where
  -- shown by its size
  by_size : (t : Float) → fin false m e ≡ size_shown t → NearestTo (tenths_shown t) (m * up e) (down e)
  by_size t h =
      let u = (m * up e + m * up e) / down e in
      let w = floor (add binary64 (fin false m e) (fin false m e)) (m * up e * down e + m * up e * down e) (down e * down e) (mul-pos (down_pos e) (down_pos e)) (wide m e few deep small) (exact m e few deep small false) ∙ same_floor m e few deep small in
      subst (λ (z : ℕ). NearestTo z (m * up e) (down e)) (shown_in t (fin false m e) u h (sym w) (few_tenths m e few deep small)) (half_up (m * up e) (down e) u (down_pos e) refl)
    where
      wide : (m : ℕ) (e : ℤ) → m < 2 ^ 53 → down e ≤ 2 ^ 1074 → m * up e < 2147483648 * down e → m * up e * down e + m * up e * down e < 4294967296 * (down e * down e)
      wide m e few deep small =
          let p : m * up e * down e < 2147483648 * down e * down e = mul-lt-mul_of_pos_right small (down_pos e) in
          let q : 2147483648 * down e * down e ≡ 2147483648 * (down e * down e) = mul_assoc 2147483648 (down e) (down e) in
          omega (arith, p, q)

  plus_size : fin false m e ≡ size_shown (fin false m e)
  unfolding size_shown le lt eq
  plus_size = sym (if_false (is_under (fin false m e)) (neg (fin false m e)) (fin false m e) (go (eqb (m * up e * 2 ^ 1) 0) refl))
    where
      go : (b : Bool) → eqb (m * up e * 2 ^ 1) 0 ≡ b → (eqb (m * up e * 2 ^ 1) (1 * 1 * down e) && eqb (m * up e * 2 ^ 1) 0) ≡ false
      go true x =
          let z = eqb-true (m * up e * 2 ^ 1) 0 x in
          let d = down_pos e in
          ap (λ (b : Bool). b && eqb (m * up e * 2 ^ 1) 0) (ne_eqb (m * up e * 2 ^ 1) (1 * 1 * down e) (λ y. omega (arith, z, y, d)))
      go false x = ap (λ (b : Bool). eqb (m * up e * 2 ^ 1) (1 * 1 * down e) && b) x ∙ and_none (eqb (m * up e * 2 ^ 1) (1 * 1 * down e))

  minus_size : is_under (fin true m e) ≡ true → fin false m e ≡ size_shown (fin true m e)
  unfolding size_shown neg
  minus_size h = sym (if_true (is_under (fin true m e)) (fin false m e) (fin true m e) h)

  minus_small : is_under (fin true m e) ≡ false → NearestTo (tenths_shown (fin true m e)) (m * up e) (down e)
  unfolding size_shown le lt eq
  minus_small h =
      let t = fin true m e in
      let s : t ≡ size_shown t = sym (if_false (is_under t) (neg t) t h) in
      let w = floor_minus (add binary64 t t) (m * up e * down e + m * up e * down e) (down e * down e) (exact m e few deep small true) in
      let a = m * up e * 2 ^ 1 in
      let b = 1 * 1 * down e in
      let l = ltb-false b a (or_left (ltb b a) (eqb a b && true) h) in
      let n = eqb-false a b (unit (eqb a b) (or_right (ltb b a) (eqb a b && true) h)) in
      let k : m * up e * 2 < down e = omega (arith, l, n) in
      subst (λ (z : ℕ). NearestTo z (m * up e) (down e)) (shown_in t t 0 s (sym w) (omega arith)) (omega arith, omega (arith, k))
    where
      unit : (b : Bool) → (b && true) ≡ false → b ≡ false
      unit true x = x
      unit false x = refl

  by_sign : (s : Bool) → NearestTo (tenths_shown (fin s m e)) (m * up e) (down e)
  by_sign false = by_size (fin false m e) plus_size
  by_sign true = go (is_under (fin true m e)) refl
    where
      go : (b : Bool) → is_under (fin true m e) ≡ b → NearestTo (tenths_shown (fin true m e)) (m * up e) (down e)
      go true h = by_size (fin true m e) (minus_size h)
      go false h = minus_small h

-- what the format holds
held : (s : Bool) (m : ℕ) (e : ℤ) → T (fits binary64 (fin s m e)) → (m < 2 ^ 53) × (down e ≤ 2 ^ 1074)
unfolding fits
held s zero e h =
    let one = eqb→eq (up e * down e) 1 h in
    let p : 1 * down e ≤ up e * down e = mul-le-mul_right (down e) (up_pos e) in
    (pow_pos 53, le_trans (let q : down e ≤ 1 = omega (arith, one, p) in q) (lit≤ tt))
held s (suc m) e h =
    let a = eqb (suc m % 2) 1 in
    let b = ltb (suc m) (2 ^ 53) in
    let c = leb (down e) (2 ^ 1074) in
    let d = ltb (suc m * up e) (2 ^ 1024 * down e) in
    let k = and_l ((a && b) && c) d h in
    (ltb→lt (suc m) (2 ^ 53) (and_r a b (and_l (a && b) c k)), leb→le (down e) (2 ^ 1074) (and_r (a && b) c k))

pub nearest_tenth : (s : Bool) (m : ℕ) (e : ℤ) → T (fits binary64 (fin s m e)) → m * up e < 2147483648 * down e → NearestTo (tenths_shown (fin s m e)) (m * up e) (down e)
nearest_tenth s m e h small = let f = held s m e h in by_sign m e f.0 f.1 small s
