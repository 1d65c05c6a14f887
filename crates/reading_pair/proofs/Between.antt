-- Between two knots the reading lies between their temperatures, in f64's own order, and is finite.
use mathlib.Core.Path.{◌≡◌, refl, sym, ap, ap₂, ◌∙◌, subst}
use mathlib.Core.Bool.{Bool, true, false, not, cond, ◌&&◌, beq}
use mathlib.Core.Logic.{⊎_elim}
use Prim.Native.Nat.{ℕ, zero, suc, ◌+◌, ◌-◌, ◌*◌, ◌≤◌, ◌<◌, ◌^◌}
use native.Mathlib.Nat.{le_trans, le_of_eq, mul-pos, add-mul, mul-le-mul_left}
use native.Mathlib.Omega.{arith}
use lib.Dec.{T, ltb}
use lib.Pow.{pow_pos}
use lib.Ieee.{Float, nan, inf, fin, Format, prec, low, unlike, round, add, sub, mul, div, le}
use lib.Ieee.Exact.{HasValue}
use lib.Ieee.Back.{round_whole}
use lib.Ieee.Scale.{finite, grid, overflow}
use Rattle.reading_pair.specs.Order.{not_minus_zero}
use Rattle.reading_pair.proofs.WholeNumbers.{yes_lt, no_lt, lt_scale, below?, sub_mul, above, plus, gap, sub_whole, mul_whole}
use Rattle.reading_pair.proofs.Rounded.{SLe, grid_le, round_value, under_whole, over_whole, round_minus, plus_minus, div_frac, add_frac, sum_plus_at}

-- t0 + k for k at most t1 - t0 lies between t0 and t1
no_way {ℓ} : {A : Type ℓ} → true ≡ false → A
no_way e = let z : ◌≡◌ {A = ℕ} 0 1 = cc in absurd (clash z)
  where
    clash : ◌≡◌ {A = ℕ} 0 1 → ⊥
    clash z = omega (arith, z)

abbrev Within : Bool → ℕ → Bool × ℕ → Bool → ℕ → Type 0
Within s a r t b = SLe s a r.0 r.1 × SLe r.0 r.1 t b

up_core : (s t : Bool) (a b k : ℕ) → (a ≡ 0 → s ≡ false) → (b ≡ 0 → t ≡ false) → (plus t b (not s) a).0 ≡ false → k ≤ gap t b s a → Within s a (plus s a false k) t b
up_core false true a b k ha hb e h = no_way e
up_core false false a b k ha hb e h = ⊎_elim
    (λ (l : b < a). no_way (sym (ap (λ (z : Bool). (cond {A = Bool × ℕ} z (true, a - b) (false, b - a)).0) (yes_lt b a l)) ∙ e))
    (λ (l : a ≤ b). let g : k ≤ b - a = subst (λ (z : Bool). k ≤ (cond {A = Bool × ℕ} z (true, a - b) (false, b - a)).1) (no_lt b a l) h in (omega arith, omega (arith, g, l))) (below? b a)
up_core true false a b k ha hb e h = ⊎_elim
    (λ (l : a < k). subst (λ (z : Bool). Within true a (cond {A = Bool × ℕ} z (false, k - a) (ltb k a, a - k)) false b) (sym (yes_lt a k l)) (tt, omega (arith, h, l)))
    (λ (l : k ≤ a). subst (λ (z : Bool). Within true a (cond {A = Bool × ℕ} z (false, k - a) (ltb k a, a - k)) false b) (sym (no_lt a k l)) (⊎_elim
    (λ (m : k < a). subst (λ (z : Bool). Within true a (z, a - k) false b) (sym (yes_lt k a m)) (omega arith, tt))
    (λ (m : a ≤ k). subst (λ (z : Bool). Within true a (z, a - k) false b) (sym (no_lt k a m)) (tt, omega (arith, l, m))) (below? k a))) (below? a k)
up_core true true a b k ha hb e h =
    let p : 0 < b = above b hb in
    let l : b ≤ a = ⊎_elim (λ (m : a < b). no_way (sym (ap₂ (λ (y z : Bool). (cond {A = Bool × ℕ} y (false, a - b) (z, b - a)).0) (no_lt b a (omega (arith, m))) (yes_lt a b m)) ∙ e)) (λ (m : b ≤ a). m) (below? a b) in
    let g : k ≤ a - b = ⊎_elim (λ (m : b < a). subst (λ (z : Bool). k ≤ (cond {A = Bool × ℕ} z (false, a - b) (ltb a b, b - a)).1) (yes_lt b a m) h)
    (λ (m : a ≤ b). let n : k ≤ b - a = subst (λ (z : Bool). k ≤ (cond {A = Bool × ℕ} z (false, a - b) (ltb a b, b - a)).1) (no_lt b a m) h in omega (arith, n, l, m)) (below? b a) in
    subst (λ (z : Bool). Within true a (cond {A = Bool × ℕ} z (false, k - a) (ltb k a, a - k)) true b) (sym (no_lt a k (omega (arith, g))))
    (subst (λ (z : Bool). Within true a (z, a - k) true b) (sym (yes_lt k a (omega (arith, g, p, l)))) (omega arith, omega (arith, g, l)))

down_core : (s t : Bool) (a b k : ℕ) → (a ≡ 0 → s ≡ false) → (b ≡ 0 → t ≡ false) → (plus t b (not s) a).0 ≡ true → k ≤ gap t b s a → Within t b (plus s a true k) s a
down_core true false a b k ha hb e h = no_way (sym e)
down_core false true a b k ha hb e h =
    let p : 0 < b = above b hb in
    ⊎_elim
    (λ (l : a < k). subst (λ (z : Bool). Within true b (cond {A = Bool × ℕ} z (true, k - a) (false, a - k)) false a) (sym (yes_lt a k l)) (omega (arith, h, l), tt))
    (λ (l : k ≤ a). subst (λ (z : Bool). Within true b (cond {A = Bool × ℕ} z (true, k - a) (false, a - k)) false a) (sym (no_lt a k l)) (tt, omega (arith, l))) (below? a k)
down_core false false a b k ha hb e h = ⊎_elim
    (λ (l : b < a). let g : k ≤ a - b = subst (λ (z : Bool). k ≤ (cond {A = Bool × ℕ} z (true, a - b) (false, b - a)).1) (yes_lt b a l) h in
    subst (λ (z : Bool). Within false b (cond {A = Bool × ℕ} z (true, k - a) (false, a - k)) false a) (sym (no_lt a k (omega (arith, g)))) (omega (arith, g, l), omega arith))
    (λ (l : a ≤ b). no_way (sym e ∙ ap (λ (z : Bool). (cond {A = Bool × ℕ} z (true, a - b) (false, b - a)).0) (no_lt b a l))) (below? b a)
down_core true true a b k ha hb e h = ⊎_elim
    (λ (l : a < b). let g : k ≤ b - a = subst (λ (z : Bool). k ≤ (cond {A = Bool × ℕ} z (false, a - b) (ltb a b, b - a)).1) (no_lt b a (omega (arith, l))) h in (omega (arith, g, l), omega arith))
    (λ (l : b ≤ a). no_way (sym e ∙ ⊎_elim
    (λ (m : b < a). ap (λ (z : Bool). (cond {A = Bool × ℕ} z (false, a - b) (ltb a b, b - a)).0) (yes_lt b a m))
    (λ (m : a ≤ b). ap₂ (λ (y z : Bool). (cond {A = Bool × ℕ} y (false, a - b) (z, b - a)).0) (no_lt b a m) (no_lt a b l)) (below? b a))) (below? a b)

-- the sum of multiples is the multiple of the sum
plus_scale : (s : Bool) (a : ℕ) (t : Bool) (b c : ℕ) → 0 < c → plus s (a * c) t (b * c) ≡ ((plus s a t b).0, (plus s a t b).1 * c)
plus_scale s a t b c h =
    ap₂ (λ (x y : Bool × ℕ). cond (beq s t) x y) (ap (λ (n : ℕ). (s, n)) (sym (add-mul a b c)))
    (ap₂ (λ (y z : Bool). cond {A = Bool × ℕ} y (t, b * c - a * c) (s && z, a * c - b * c)) (lt_scale a b c h) (lt_scale b a c h)
    ∙ ap₂ (λ (m n : ℕ). cond {A = Bool × ℕ} (ltb a b) (t, m) (s && ltb b a, n)) (sym (sub_mul b a c)) (sym (sub_mul a b c)))
    ∙ out (beq s t) (ltb a b)
  where
    out : (y z : Bool) → cond {A = Bool × ℕ} y (s, (a + b) * c) (cond {A = Bool × ℕ} z (t, (b - a) * c) (s && ltb b a, (a - b) * c))
        ≡ ((cond {A = Bool × ℕ} y (s, a + b) (cond {A = Bool × ℕ} z (t, b - a) (s && ltb b a, a - b))).0, (cond {A = Bool × ℕ} y (s, a + b) (cond {A = Bool × ℕ} z (t, b - a) (s && ltb b a, a - b))).1 * c)
    out true z = refl
    out false true = refl
    out false false = refl

zero_scale : (s : Bool) (a c : ℕ) → 0 < c → (a ≡ 0 → s ≡ false) → a * c ≡ 0 → s ≡ false
zero_scale s zero c C h e = h refl
zero_scale s (suc a) c C h e = let p : 0 < suc a * c = mul-pos (omega arith) C in absurd (none (suc a * c) p e)
  where
    none : (n : ℕ) → 0 < n → n ≡ 0 → ⊥
    none n p e = omega (arith, p, e)

-- what lies between has a size at most the larger
size_up : (s t u : Bool) (a b n : ℕ) → SLe s a u n → SLe u n t b → n ≤ a + b
size_up false false false a b n h k = omega (arith, k)
size_up false t true a b n h k = absurd h
size_up false true false a b n h k = absurd k
size_up true false false a b n h k = omega (arith, k)
size_up true true false a b n h k = absurd k
size_up true t true a b n h k = omega (arith, h)

same_unlike : (s : Bool) → unlike (unlike s false) false ≡ s
same_unlike false = refl
same_unlike true = refl

finite_has : (x : Float) (s : Bool) (a c : ℕ) → HasValue x s a c → T (finite x)
finite_has nan s a c h = absurd h
finite_has (inf u) s a c h = absurd h
finite_has (fin u m e) s a c h = tt

-- the reading, from values
module _ (f : Format) (t₀ t₁ x₀ x₁ x : Float) (s t u v w : Bool) (a b c d n : ℕ)
    (h₀ : HasValue t₀ s a 1) (h₁ : HasValue t₁ t b 1) (k₀ : HasValue x₀ u c 1) (k₁ : HasValue x₁ v d 1) (k : HasValue x w n 1)
    (z₀ : a ≡ 0 → s ≡ false) (z₁ : b ≡ 0 → t ≡ false)
    (apart : 0 < gap v d u c) (rises : (plus v d (not u) c).0 ≡ false) (after : (plus w n (not u) c).0 ≡ false) (before : gap w n u c ≤ gap v d u c)
    (few : gap t b s a * gap v d u c ≤ 2 ^ prec f) (small : gap t b s a ≤ 2 ^ prec f) (near : gap v d u c ≤ 2 ^ prec f) (sizes : a + b ≤ 2 ^ prec f) where
  abbrev sd : Bool
  sd = (plus t b (not s) a).0

  abbrev G : ℕ
  G = gap t b s a

  abbrev X : ℕ
  X = gap v d u c

  abbrev Y : ℕ
  Y = gap w n u c

  abbrev L : ℕ
  L = 2 ^ low f

  abbrev K : ℕ
  K = grid f (G * Y) X

  abbrev R : Float
  R = add f t₀ (div f (mul f (sub f t₁ t₀) (sub f x x₀)) (sub f x₁ x₀))

  D : HasValue (sub f t₁ t₀) sd G 1
  D = subst (λ (z : Float). HasValue z sd G 1) (sym (sub_whole f t₁ t₀ t s b a h₁ h₀)) (round_whole f sd G small)

  E : HasValue (sub f x₁ x₀) false X 1
  E = subst (λ (z : Float). HasValue z false X 1) (sym (sub_whole f x₁ x₀ v u d c k₁ k₀ ∙ ap (λ (z : Bool). round f z X 1) rises)) (round_whole f false X near)

  F : HasValue (sub f x x₀) false Y 1
  F = subst (λ (z : Float). HasValue z false Y 1) (sym (sub_whole f x x₀ w u n c k k₀ ∙ ap (λ (z : Bool). round f z Y 1) after)) (round_whole f false Y (le_trans before near))

  gy : G * Y ≤ G * X
  gy = mul-le-mul_left G before

  M : HasValue (mul f (sub f t₁ t₀) (sub f x x₀)) (unlike sd false) (G * Y) 1
  M = subst (λ (z : Float). HasValue z (unlike sd false) (G * Y) 1) (sym (mul_whole f (sub f t₁ t₀) (sub f x x₀) sd false G Y D F)) (round_whole f (unlike sd false) (G * Y) (le_trans gy few))

  quotient : div f (mul f (sub f t₁ t₀) (sub f x x₀)) (sub f x₁ x₀) ≡ round f sd (G * Y) X
  quotient = div_frac f (mul f (sub f t₁ t₀) (sub f x x₀)) (sub f x₁ x₀) (unlike sd false) false (G * Y) X apart M E ∙ ap (λ (z : Bool). round f z (G * Y) X) (same_unlike sd)

  pub bound : (K ≤ G * L) × (K < overflow f)
  bound = grid_le f (G * Y) X G apart gy small

  -- the reading is a sum of signed fractions of the smallest value, rounded once
  pub is : R ≡ round f (plus s (a * L) sd K).0 (plus s (a * L) sd K).1 L
  is = ap (add f t₀) quotient ∙ add_frac f t₀ (round f sd (G * Y) X) s sd a K L (pow_pos (low f)) h₀ (round_value f sd (G * Y) X bound.1) ∙ sum_plus_at f s (a * L) sd K L

  scaled : plus t (b * L) (not s) (a * L) ≡ (sd, G * L)
  scaled = plus_scale t b (not s) a L (pow_pos (low f))

  inside : K ≤ gap t (b * L) s (a * L)
  inside = le_trans bound.0 (le_of_eq (sym (ap (λ (p : Bool × ℕ). p.1) scaled)))

  y₀ : a * L ≡ 0 → s ≡ false
  y₀ = zero_scale s a L (pow_pos (low f)) z₀

  y₁ : b * L ≡ 0 → t ≡ false
  y₁ = zero_scale t b L (pow_pos (low f)) z₁

  few_sum : (r : Bool × ℕ) → r.1 ≤ a * L + b * L → grid f r.1 L < overflow f
  few_sum r h = (grid_le f r.1 L (a + b) (pow_pos (low f)) (le_trans h (le_of_eq (sym (add-mul a b L)))) sizes).1

  abbrev Up : Float → Type 0
  Up r = T (le t₀ r) × T (le r t₁) × T (finite r) × T (not_minus_zero r)

  abbrev Down : Float → Type 0
  Down r = T (le t₁ r) × T (le r t₀) × T (finite r) × T (not_minus_zero r)

  a_le : a ≤ 2 ^ prec f
  a_le = le_trans (omega arith) sizes

  b_le : b ≤ 2 ^ prec f
  b_le = le_trans (omega arith) sizes

  pub up_fits : sd ≡ false → grid f (plus s (a * L) sd K).1 L < overflow f
  up_fits e =
      let r = plus s (a * L) sd K in
      let i : Within s (a * L) r t (b * L) = subst (λ (z : Bool). Within s (a * L) (plus s (a * L) z K) t (b * L)) (sym e) (up_core s t (a * L) (b * L) K y₀ y₁ (ap (λ (p : Bool × ℕ). p.0) scaled ∙ e) inside) in
      few_sum r (size_up s t r.0 (a * L) (b * L) r.1 i.0 i.1)

  pub down_fits : sd ≡ true → grid f (plus s (a * L) sd K).1 L < overflow f
  down_fits e =
      let r = plus s (a * L) sd K in
      let i : Within t (b * L) r s (a * L) = subst (λ (z : Bool). Within t (b * L) (plus s (a * L) z K) s (a * L)) (sym e) (down_core s t (a * L) (b * L) K y₀ y₁ (ap (λ (p : Bool × ℕ). p.0) scaled ∙ e) inside) in
      few_sum r (le_trans (size_up t s r.0 (b * L) (a * L) r.1 i.0 i.1) (omega arith))

  pub up_from : sd ≡ false → Up R
  up_from e =
      let r = plus s (a * L) sd K in
      let i : Within s (a * L) r t (b * L) = subst (λ (z : Bool). Within s (a * L) (plus s (a * L) z K) t (b * L)) (sym e) (up_core s t (a * L) (b * L) K y₀ y₁ (ap (λ (p : Bool × ℕ). p.0) scaled ∙ e) inside) in
      let o : grid f r.1 L < overflow f = up_fits e in
      subst Up (sym is) (
        over_whole f r.0 r.1 L s a t₀ (pow_pos (low f)) a_le o h₀ i.0,
        under_whole f r.0 r.1 L t b t₁ (pow_pos (low f)) b_le o h₁ i.1,
        finite_has (round f r.0 r.1 L) r.0 (grid f r.1 L) L (round_value f r.0 r.1 L o),
        round_minus f r.0 r.1 (plus_minus s (a * L) sd K y₀) o,
      )

  pub down_from : sd ≡ true → Down R
  down_from e =
      let r = plus s (a * L) sd K in
      let i : Within t (b * L) r s (a * L) = subst (λ (z : Bool). Within t (b * L) (plus s (a * L) z K) s (a * L)) (sym e) (down_core s t (a * L) (b * L) K y₀ y₁ (ap (λ (p : Bool × ℕ). p.0) scaled ∙ e) inside) in
      let o : grid f r.1 L < overflow f = down_fits e in
      subst Down (sym is) (
        over_whole f r.0 r.1 L t b t₁ (pow_pos (low f)) b_le o h₁ i.0,
        under_whole f r.0 r.1 L s a t₀ (pow_pos (low f)) a_le o h₀ i.1,
        finite_has (round f r.0 r.1 L) r.0 (grid f r.1 L) L (round_value f r.0 r.1 L o),
        round_minus f r.0 r.1 (plus_minus s (a * L) sd K y₀) o,
      )
