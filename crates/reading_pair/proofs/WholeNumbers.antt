-- The operations of f64 on whole numbers, and the two knots of a reading.
use mathlib.Core.Path.{◌≡◌, refl, sym, ap, ap₂, ◌∙◌, subst}
use mathlib.Core.Bool.{Bool, true, false, not, cond, ◌&&◌, beq}
use Prim.Native.Nat.{ℕ, zero, suc, ◌+◌, ◌-◌, ◌*◌, ◌≤◌, ◌<◌, ◌^◌, zero-le}
use native.Mathlib.Nat.{mul-one, mul-pos, mul_comm, mul_assoc, mul_right_comm, add-mul, mul-sub, mul-mul-mul_comm, mul-lt-mul_of_pos_right, mul-le-mul_right, zero-mul, mul-zero, lt_irrefl}
use native.Mathlib.Omega.{arith}
use mathlib.Core.Logic.{⊎_elim, ◌⊎◌, inl, inr}
use lib.Dec.{T, ltb, eqb, eqb-suc-zero, lt→ltb, ltb→lt, nltb→le}
use lib.Ieee.{Float, nan, inf, fin, Format, prec, up, down, unlike, round, sum, add, sub, mul, div, neg}
use lib.Ieee.Exact.{HasValue}
use lib.Ieee.Back.{round_whole}
use lib.Ieee.Scale.{round_same}
use lib.Ieee.Fits.{down_pos}

-- the tests
pub yes_lt : (a b : ℕ) → a < b → ltb a b ≡ true
yes_lt a b h = go (ltb a b) (lt→ltb a b h)
  where
    go : (t : Bool) → T t → t ≡ true
    go true _ = refl
    go false x = absurd x

pub no_lt : (a b : ℕ) → b ≤ a → ltb a b ≡ false
no_lt a b h = go (ltb a b) (λ t. out (ltb→lt a b t))
  where
    out : a < b → ⊥
    out l = omega (arith, l, h)

    go : (t : Bool) → (T t → ⊥) → t ≡ false
    go true f = absurd (f tt)
    go false _ = refl

pub lt_scale : (a b c : ℕ) → 0 < c → ltb (a * c) (b * c) ≡ ltb a b
lt_scale a b c h = go (ltb a b) refl
  where
    go : (t : Bool) → ltb a b ≡ t → ltb (a * c) (b * c) ≡ t
    go true e = yes_lt (a * c) (b * c) (mul-lt-mul_of_pos_right (ltb→lt a b (subst T (sym e) tt)) h)
    go false e = no_lt (a * c) (b * c) (mul-le-mul_right c (nltb→le a b (subst (λ (t : Bool). T (not t)) (sym e) tt)))

pub below? : (i n : ℕ) → (i < n) ⊎ (n ≤ i)
below? i n = at (ltb i n) refl
  where
    at : (t : Bool) → ltb i n ≡ t → (i < n) ⊎ (n ≤ i)
    at true e = inl (ltb→lt i n (subst T (sym e) tt))
    at false e = inr (nltb→le i n (subst (λ (t : Bool). T (not t)) (sym e) tt))

pub sub_mul : (a b c : ℕ) → (a - b) * c ≡ a * c - b * c
sub_mul a b c = mul_comm (a - b) c ∙ mul-sub c a b ∙ ap₂ (λ (x y : ℕ). x - y) (mul_comm c a) (mul_comm c b)

-- operations on whole numbers
scaled : (f : Format) (s : Bool) (a c : ℕ) → 0 < c → round f s (a * c) c ≡ round f s a 1
scaled f s a c h = round_same f s (a * c) c a 1 h (lt_one) (mul-one (a * c))
  where
    lt_one : 0 < 1
    lt_one = omega arith

pub sum_scaled : (f : Format) (s : Bool) (a : ℕ) (t : Bool) (b c : ℕ) → 0 < c → sum f s (a * c) t (b * c) c ≡ sum f s a t b 1
unfolding sum
sum_scaled f s a t b c h =
    ap₂ (λ (x y : Float). cond (beq s t) x y) (ap (λ (n : ℕ). round f s n c) (sym (add-mul a b c)) ∙ scaled f s (a + b) c h)
    (ap (λ (z : Bool). cond z (round f t (b * c - a * c) c) (round f (s && ltb (b * c) (a * c)) (a * c - b * c) c)) (lt_scale a b c h)
    ∙ ap₂ (λ (x y : Float). cond (ltb a b) x y)
    (ap (λ (n : ℕ). round f t n c) (sym (sub_mul b a c)) ∙ scaled f t (b - a) c h)
    (ap₂ (λ (z : Bool) (n : ℕ). round f (s && z) n c) (lt_scale b a c h) (sym (sub_mul a b c)) ∙ scaled f (s && ltb b a) (a - b) c h))

pub add_whole : (f : Format) (x y : Float) (s t : Bool) (a b : ℕ) → HasValue x s a 1 → HasValue y t b 1 → add f x y ≡ sum f s a t b 1
unfolding add
add_whole f nan y s t a b hx hy = absurd hx
add_whole f (inf u) y s t a b hx hy = absurd hx
add_whole f (fin u m e) nan s t a b hx hy = absurd hy
add_whole f (fin u m e) (inf v) s t a b hx hy = absurd hy
add_whole f (fin u m e) (fin v n d) s t a b hx hy =
    let c = down e * down d in
    ap₂ (λ (y z : Bool). sum f y (m * up e * down d) z (n * up d * down e) c) hx.0 hy.0
    ∙ ap₂ (λ (y z : ℕ). sum f s y t z c)
    (ap (λ (z : ℕ). z * down d) (sym (mul-one (m * up e)) ∙ hx.1) ∙ mul_assoc a (down e) (down d))
    (ap (λ (z : ℕ). z * down e) (sym (mul-one (n * up d)) ∙ hy.1) ∙ mul_assoc b (down d) (down e) ∙ ap (λ (z : ℕ). b * z) (mul_comm (down d) (down e)))
    ∙ sum_scaled f s a t b c (mul-pos (down_pos e) (down_pos d))

pub mul_whole : (f : Format) (x y : Float) (s t : Bool) (a b : ℕ) → HasValue x s a 1 → HasValue y t b 1 → mul f x y ≡ round f (unlike s t) (a * b) 1
unfolding mul
mul_whole f nan y s t a b hx hy = absurd hx
mul_whole f (inf u) y s t a b hx hy = absurd hx
mul_whole f (fin u m e) nan s t a b hx hy = absurd hy
mul_whole f (fin u m e) (inf v) s t a b hx hy = absurd hy
mul_whole f (fin u m e) (fin v n d) s t a b hx hy =
    ap₂ (λ (y z : Bool). round f (unlike y z) (m * up e * (n * up d)) (down e * down d)) hx.0 hy.0
    ∙ ap₂ (λ (y z : ℕ). round f (unlike s t) (y * z) (down e * down d)) (sym (mul-one (m * up e)) ∙ hx.1) (sym (mul-one (n * up d)) ∙ hy.1)
    ∙ ap (λ (z : ℕ). round f (unlike s t) z (down e * down d)) (mul-mul-mul_comm a (down e) b (down d))
    ∙ scaled f (unlike s t) (a * b) (down e * down d) (mul-pos (down_pos e) (down_pos d))

pub div_whole : (f : Format) (x y : Float) (s t : Bool) (a b : ℕ) → 0 < b → HasValue x s (a * b) 1 → HasValue y t b 1 → div f x y ≡ round f (unlike s t) a 1
unfolding div
div_whole f nan y s t a b h hx hy = absurd hx
div_whole f (inf u) y s t a b h hx hy = absurd hx
div_whole f (fin u m e) nan s t a b h hx hy = absurd hy
div_whole f (fin u m e) (inf v) s t a b h hx hy = absurd hy
div_whole f (fin u m e) (fin v zero d) s t a b h hx hy =
    absurd (lt_irrefl 0 (subst (λ (z : ℕ). 0 < z) (sym hy.1 ∙ mul-one (0 * up d) ∙ zero-mul (up d)) (mul-pos h (down_pos d))))
div_whole f (fin u m e) (fin v (suc n) d) s t a b h hx hy =
    ap (λ (z : Bool). cond z (cond (eqb m 0) nan (inf (unlike u v))) (round f (unlike u v) (m * up e * down d) (suc n * up d * down e))) (eqb-suc-zero n)
    ∙ ap₂ (λ (y z : Bool). round f (unlike y z) (m * up e * down d) (suc n * up d * down e)) hx.0 hy.0
    ∙ ap₂ (λ (y z : ℕ). round f (unlike s t) (y * down d) (z * down e)) (sym (mul-one (m * up e)) ∙ hx.1) (sym (mul-one (suc n * up d)) ∙ hy.1)
    ∙ round_same f (unlike s t) (a * b * down e * down d) (b * down d * down e) a 1 (mul-pos (mul-pos h (down_pos d)) (down_pos e)) (omega arith)
    (mul-one (a * b * down e * down d) ∙ mul_right_comm (a * b) (down e) (down d) ∙ ap (λ (z : ℕ). z * down e) (mul_assoc a b (down d)) ∙ mul_assoc a (b * down d) (down e))

pub neg_whole : (x : Float) (s : Bool) (a : ℕ) → HasValue x s a 1 → HasValue (neg x) (not s) a 1
unfolding neg
neg_whole nan s a h = absurd h
neg_whole (inf u) s a h = absurd h
neg_whole (fin u m e) s a h = (ap not h.0, h.1)

pub above : (a : ℕ) → (a ≡ 0 → true ≡ false) → 0 < a
above zero h = let e = h refl in let z : ◌≡◌ {A = ℕ} 0 1 = cc in omega arith
above (suc a) h = omega arith

-- the sum of two signed whole numbers, as a sign and a size
abbrev pub plus : Bool → ℕ → Bool → ℕ → Bool × ℕ
plus s a t b = cond (beq s t) (s, a + b) (cond (ltb a b) (t, b - a) (s && ltb b a, a - b))

cond_ap : (g : Bool × ℕ → Float) (z : Bool) (x y : Bool × ℕ) → cond z (g x) (g y) ≡ g (cond z x y)
cond_ap g true x y = refl
cond_ap g false x y = refl

pub sum_plus : (f : Format) (s : Bool) (a : ℕ) (t : Bool) (b : ℕ) → sum f s a t b 1 ≡ round f (plus s a t b).0 (plus s a t b).1 1
unfolding sum
sum_plus f s a t b =
    ap (λ (y : Float). cond (beq s t) (round f s (a + b) 1) y) (cond_ap (λ p. round f p.0 p.1 1) (ltb a b) (t, b - a) (s && ltb b a, a - b))
    ∙ cond_ap (λ p. round f p.0 p.1 1) (beq s t) (s, a + b) (cond (ltb a b) (t, b - a) (s && ltb b a, a - b))

-- t0 + (t1 - t0) is t1
pub again : (s : Bool) (a : ℕ) (t : Bool) (b : ℕ) → (a ≡ 0 → s ≡ false) → (b ≡ 0 → t ≡ false) → plus s a (plus t b (not s) a).0 (plus t b (not s) a).1 ≡ (t, b)
again false a false b ha hb = ⊎_elim
    (λ (h : b < a). simp (yes_lt b a h, no_lt a (a - b) (omega arith)) (ap (λ (n : ℕ). (false, n)) (omega arith)))
    (λ (h : a ≤ b). simp (no_lt b a h) (ap (λ (n : ℕ). (false, n)) (omega arith))) (below? b a)
again false a true b ha hb = let p : 0 < b = above b hb in simp (yes_lt a (b + a) (omega arith)) (ap (λ (n : ℕ). (true, n)) (omega arith))
again true a false b ha hb = ⊎_elim
    (λ (h : a < b + a). simp (yes_lt a (b + a) h) (ap (λ (n : ℕ). (false, n)) (omega arith)))
    (λ (h : b + a ≤ a). simp (no_lt a (b + a) h, no_lt (b + a) a (omega arith)) (ap (λ (n : ℕ). (false, n)) (omega arith))) (below? a (b + a))
again true a true b ha hb =
    let p : 0 < b = above b hb in
    let q : 0 < a = above a ha in
    ⊎_elim
    (λ (h : b < a). simp (yes_lt b a h, no_lt a (a - b) (omega arith), yes_lt (a - b) a (omega arith)) (ap (λ (n : ℕ). (true, n)) (omega arith)))
    (λ (h : a ≤ b). ⊎_elim
    (λ (k : a < b). simp (no_lt b a h, yes_lt a b k) (ap (λ (n : ℕ). (true, n)) (omega arith)))
    (λ (k : b ≤ a). simp (no_lt b a h, no_lt a b k, no_lt a (b - a) (omega arith), yes_lt (b - a) a (omega arith)) (ap (λ (n : ℕ). (true, n)) (omega arith)))
    (below? a b)) (below? b a)

-- x - x is nothing, and x + nothing is x
none : (s : Bool) (a : ℕ) → plus s a (not s) a ≡ (false, 0)
none false a = simp (no_lt a a (omega arith)) (ap (λ (n : ℕ). (false, n)) (omega arith))
none true a = simp (no_lt a a (omega arith)) (ap (λ (n : ℕ). (false, n)) (omega arith))

kept : (s : Bool) (a : ℕ) (t : Bool) → (a ≡ 0 → s ≡ false) → plus s a t 0 ≡ (s, a)
kept false a false h = ap (λ (n : ℕ). (false, n)) (omega arith)
kept false a true h = simp (no_lt a 0 (omega arith)) (ap (λ (n : ℕ). (false, n)) (omega arith))
kept true a true h = ap (λ (n : ℕ). (true, n)) (omega arith)
kept true a false h = let q : 0 < a = above a h in simp (no_lt a 0 (omega arith), yes_lt 0 a q) (ap (λ (n : ℕ). (true, n)) (omega arith))

twice : (s t : Bool) → unlike (unlike s t) t ≡ s
twice false false = refl
twice false true = refl
twice true false = refl
twice true true = refl

-- the difference of two whole numbers
abbrev pub gap : Bool → ℕ → Bool → ℕ → ℕ
gap t b s a = (plus t b (not s) a).1

pub sub_whole : (f : Format) (x y : Float) (t s : Bool) (b a : ℕ) → HasValue x t b 1 → HasValue y s a 1 → sub f x y ≡ round f (plus t b (not s) a).0 (gap t b s a) 1
unfolding sub
sub_whole f x y t s b a hx hy = add_whole f x (neg y) t (not s) b a hx (neg_whole y s a hy) ∙ sum_plus f t b (not s) a

module _ (f : Format) (t₀ t₁ x₀ x₁ : Float) (s t u v : Bool) (a b c d : ℕ)
    (h₀ : HasValue t₀ s a 1) (h₁ : HasValue t₁ t b 1) (k₀ : HasValue x₀ u c 1) (k₁ : HasValue x₁ v d 1)
    (z₀ : a ≡ 0 → s ≡ false) (z₁ : b ≡ 0 → t ≡ false)
    (apart : 0 < gap v d u c) (few : gap t b s a * gap v d u c ≤ 2 ^ prec f) (small : gap t b s a ≤ 2 ^ prec f) (near : gap v d u c ≤ 2 ^ prec f) where
  D : HasValue (sub f t₁ t₀) (plus t b (not s) a).0 (gap t b s a) 1
  D = subst (λ (z : Float). HasValue z (plus t b (not s) a).0 (gap t b s a) 1) (sym (sub_whole f t₁ t₀ t s b a h₁ h₀)) (round_whole f (plus t b (not s) a).0 (gap t b s a) small)

  X : HasValue (sub f x₁ x₀) (plus v d (not u) c).0 (gap v d u c) 1
  X = subst (λ (z : Float). HasValue z (plus v d (not u) c).0 (gap v d u c) 1) (sym (sub_whole f x₁ x₀ v u d c k₁ k₀)) (round_whole f (plus v d (not u) c).0 (gap v d u c) near)

  -- at the second knot the quotient is t1 - t0
  quotient : div f (mul f (sub f t₁ t₀) (sub f x₁ x₀)) (sub f x₁ x₀) ≡ round f (plus t b (not s) a).0 (gap t b s a) 1
  quotient =
      let sd = (plus t b (not s) a).0 in
      let sx = (plus v d (not u) c).0 in
      div_whole f (mul f (sub f t₁ t₀) (sub f x₁ x₀)) (sub f x₁ x₀) (unlike sd sx) sx (gap t b s a) (gap v d u c) apart
      (subst (λ (z : Float). HasValue z (unlike sd sx) (gap t b s a * gap v d u c) 1) (sym (mul_whole f (sub f t₁ t₀) (sub f x₁ x₀) sd sx (gap t b s a) (gap v d u c) D X)) (round_whole f (unlike sd sx) (gap t b s a * gap v d u c) few)) X
      ∙ ap (λ (z : Bool). round f z (gap t b s a) 1) (twice sd sx)

  pub second_knot : add f t₀ (div f (mul f (sub f t₁ t₀) (sub f x₁ x₀)) (sub f x₁ x₀)) ≡ round f t b 1
  second_knot =
      let sd = (plus t b (not s) a).0 in
      ap (add f t₀) quotient ∙ add_whole f t₀ (round f sd (gap t b s a) 1) s sd a (gap t b s a) h₀ (round_whole f sd (gap t b s a) small)
      ∙ sum_plus f s a sd (gap t b s a) ∙ ap (λ (p : Bool × ℕ). round f p.0 p.1 1) (again s a t b z₀ z₁)

  pub first_knot : add f t₀ (div f (mul f (sub f t₁ t₀) (sub f x₀ x₀)) (sub f x₁ x₀)) ≡ round f s a 1
  first_knot =
      let sd = (plus t b (not s) a).0 in
      let sx = (plus v d (not u) c).0 in
      let g = gap t b s a in
      let e : sub f x₀ x₀ ≡ round f false 0 1 = sub_whole f x₀ x₀ u u c c k₀ k₀ ∙ ap (λ (p : Bool × ℕ). round f p.0 p.1 1) (none u c) in
      let Z : HasValue (sub f x₀ x₀) false 0 1 = subst (λ (z : Float). HasValue z false 0 1) (sym e) (round_whole f false 0 zero-le) in
      let m : mul f (sub f t₁ t₀) (sub f x₀ x₀) ≡ round f (unlike sd false) 0 1 = mul_whole f (sub f t₁ t₀) (sub f x₀ x₀) sd false g 0 D Z ∙ ap (λ (n : ℕ). round f (unlike sd false) n 1) (mul-zero g) in
      let P : HasValue (mul f (sub f t₁ t₀) (sub f x₀ x₀)) (unlike sd false) (0 * gap v d u c) 1 =
      subst (λ (n : ℕ). HasValue (mul f (sub f t₁ t₀) (sub f x₀ x₀)) (unlike sd false) n 1) (sym (zero-mul (gap v d u c))) (subst (λ (z : Float). HasValue z (unlike sd false) 0 1) (sym m) (round_whole f (unlike sd false) 0 zero-le)) in
      let w = unlike (unlike sd false) sx in
      ap (add f t₀) (div_whole f (mul f (sub f t₁ t₀) (sub f x₀ x₀)) (sub f x₁ x₀) (unlike sd false) sx 0 (gap v d u c) apart P X)
      ∙ add_whole f t₀ (round f w 0 1) s w a 0 h₀ (round_whole f w 0 zero-le) ∙ sum_plus f s a w 0 ∙ ap (λ (p : Bool × ℕ). round f p.0 p.1 1) (kept s a w z₀)
