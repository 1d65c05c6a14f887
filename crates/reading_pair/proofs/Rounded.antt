-- Rounding keeps the order, in the form a reading needs: over signs, with whole numbers as the bounds.
use mathlib.Core.Path.{◌≡◌, refl, sym, ap, ap₂, ◌∙◌, subst}
use mathlib.Core.Bool.{Bool, true, false, cond, ◌&&◌, ◌||◌, beq, true≢false}
use mathlib.Core.Logic.{⊎_elim, ◌⊎◌, inl, inr}
use Prim.Native.Nat.{ℕ, zero, suc, ◌+◌, ◌-◌, ◌*◌, ◌≤◌, ◌<◌, ◌^◌}
use native.Mathlib.Nat.{le_trans, le_of_eq, mul-one, mul-pos, mul_comm, mul_assoc, mul_right_comm, mul_left_comm, add-mul, mul-le-mul_right, le_of_mul-le-mul_right, eq_of_mul-eq-mul_right, lt_irrefl, zero-mul}
use native.Mathlib.Omega.{arith}
use lib.Dec.{T, ltb, eqb, eqb→eq, eqb_refl, eqb-suc-zero, lt→ltb, ltb→lt, lit<}
use lib.Pow.{pow_pos}
use lib.Ieee.{Float, nan, inf, fin, Format, binary32, binary64, prec, emax, low, up, down, unlike, odd, units, round, sum, add, div, le}
use lib.Ieee.Exact.{HasValue, units_val, round_exact}
use lib.Ieee.Back.{round_whole}
use lib.Ieee.Scale.{round_same, finite, grid, overflow, round_val, round_under}
use lib.Ieee.Order.{transfer, le_of_values, round_mono, drop, kept}
use lib.Ieee.Fits.{down_pos, round_is}
use lib.Ieee.Positive.{num, den, den_pos, value→cross, first_pos}
use Rattle.reading_pair.specs.Order.{not_minus_zero}
use Rattle.reading_pair.proofs.WholeNumbers.{yes_lt, no_lt, lt_scale, below?, sub_mul, plus, above}

-- finite, or the infinity
odd_finite : (d q k l : ℕ) → T (finite (odd d false q k l))
unfolding odd
odd_finite d zero k l = tt
odd_finite d (suc q) k l = tt

units_either : (f : Format) (q k : ℕ) → T (finite (units f false q k)) ⊎ (units f false q k ≡ inf false)
unfolding units
units_either f q k = go (ltb (q * 2 ^ k) (2 ^ (low f + suc (emax f)))) q
  where
    go : (b : Bool) (q : ℕ) → T (finite (cond b (odd (suc (prec f)) false q k (low f)) (inf false))) ⊎ (cond b (odd (suc (prec f)) false q k (low f)) (inf false) ≡ inf false)
    go true q = inl (odd_finite (suc (prec f)) q k (low f))
    go false q = inr refl

round_either : (f : Format) (a c : ℕ) → T (finite (round f false a c)) ⊎ (round f false a c ≡ inf false)
round_either f a c = subst (λ (x : Float). T (finite x) ⊎ (x ≡ inf false)) (sym (round_is f false a c)) (units_either f (kept (prec f) (a * 2 ^ low f) c) (drop (prec f) (a * 2 ^ low f) c))

has_finite : (x : Float) (s : Bool) (a c : ℕ) → HasValue x s a c → T (finite x)
has_finite nan s a c h = absurd h
has_finite (inf u) s a c h = absurd h
has_finite (fin u m e) s a c h = tt

no_inf : (y : Float) → T (finite y) → T (le (inf false) y) → ⊥
unfolding le
no_inf nan h l = h
no_inf (inf s) h l = h
no_inf (fin s m e) h l = l

-- what is at most a finite value is finite
down_finite : (f : Format) (a c : ℕ) (y : Float) → T (finite y) → T (le (round f false a c) y) → T (finite (round f false a c))
down_finite f a c y h l = ⊎_elim (λ (t : T (finite (round f false a c))). t) (λ (e : round f false a c ≡ inf false). absurd (no_inf y h (subst (λ (x : Float). T (le x y)) e l))) (round_either f a c)

-- the order of two values that are not negative, as one of fractions
split : (a b : ℕ) → T (ltb a b || (eqb a b && true)) → a ≤ b
split a b t = go (ltb a b) (eqb a b) (ltb→lt a b) (eqb→eq a b) t
  where
    go : (x y : Bool) → (T x → a < b) → (T y → a ≡ b) → T (x || (y && true)) → a ≤ b
    go true y p q t = let l = p tt in omega (arith, l)
    go false true p q t = le_of_eq (q tt)
    go false false p q t = absurd t

cross : (x y : Float) (a c b d : ℕ) → HasValue x false a c → HasValue y false b d → T (le x y) → num x * den y ≤ num y * den x
unfolding le
cross nan y a c b d h k l = absurd h
cross (inf s) y a c b d h k l = absurd h
cross (fin u m e) nan a c b d h k l = absurd k
cross (fin u m e) (inf t) a c b d h k l = absurd k
cross (fin true m e) (fin v n g) a c b d h k l = let z : ◌≡◌ {A = ℕ} 0 1 = (let w = h.0 in cc) in omega (arith, z)
cross (fin false m e) (fin true n g) a c b d h k l = let z : ◌≡◌ {A = ℕ} 0 1 = (let w = k.0 in cc) in omega (arith, z)
cross (fin false m e) (fin false n g) a c b d h k l = split (m * up e * down g) (n * up g * down e) l

values : (x y : Float) (a c b d : ℕ) → HasValue x false a c → HasValue y false b d → T (le x y) → a * d ≤ b * c
values x y a c b d h k l = transfer a b c d (num x) (num y) (den x) (den y) (den_pos x) (den_pos y) (sym (value→cross x a c h)) (sym (value→cross y b d k)) (cross x y a c b d h k l)

-- `grid`: a / c rounded, in units of the smallest value
pub grid_whole : (f : Format) (g : ℕ) → g ≤ 2 ^ prec f → (grid f g 1 ≡ g * 2 ^ low f) × (grid f g 1 < overflow f)
grid_whole f g h =
    let x = round f false g 1 in
    let v : HasValue x false g 1 = round_whole f false g h in
    let o : grid f g 1 < overflow f = round_under f g 1 (has_finite x false g 1 v) in
    let w : HasValue x false (grid f g 1) (2 ^ low f) = round_val f g 1 o in
    let p : num x * 1 ≡ g * den x = value→cross x g 1 v in
    let q : num x * 2 ^ low f ≡ grid f g 1 * den x = value→cross x (grid f g 1) (2 ^ low f) w in
    (eq_of_mul-eq-mul_right (den x) (den_pos x) (grid f g 1) (g * 2 ^ low f) (sym q ∙ ap (λ (z : ℕ). z * 2 ^ low f) (sym (mul-one (num x)) ∙ p) ∙ mul_right_comm g (den x) (2 ^ low f)), o)

pub grid_mono : (f : Format) (a b c d : ℕ) → 0 < b → 0 < d → a * d ≤ c * b → grid f c d < overflow f → (grid f a b ≤ grid f c d) × (grid f a b < overflow f)
grid_mono f a b c d B D h o =
    let l = round_mono f a b c d B D h in
    let w = round_val f c d o in
    let u = round_under f a b (down_finite f a b (round f false c d) (has_finite (round f false c d) false (grid f c d) (2 ^ low f) w) l) in
    (le_of_mul-le-mul_right (values (round f false a b) (round f false c d) (grid f a b) (2 ^ low f) (grid f c d) (2 ^ low f) (round_val f a b u) w l) (pow_pos (low f)), u)

-- at most a whole number g, and at least one
pub grid_le : (f : Format) (a c g : ℕ) → 0 < c → a ≤ g * c → g ≤ 2 ^ prec f → (grid f a c ≤ g * 2 ^ low f) × (grid f a c < overflow f)
grid_le f a c g C h G =
    let w = grid_whole f g G in
    let m = grid_mono f a c g 1 C (omega arith) (le_trans (le_of_eq (mul-one a)) h) w.1 in
    (le_trans m.0 (le_of_eq w.0), m.1)

pub grid_ge : (f : Format) (a c g : ℕ) → 0 < c → g * c ≤ a → g ≤ 2 ^ prec f → grid f a c < overflow f → g * 2 ^ low f ≤ grid f a c
grid_ge f a c g C h G o =
    let w = grid_whole f g G in
    le_trans (le_of_eq (sym w.0)) (grid_mono f g 1 a c (omega arith) C (le_trans h (le_of_eq (sym (mul-one a)))) o).0

-- the value of a rounded fraction, whatever its sign
pub round_value : (f : Format) (s : Bool) (a c : ℕ) → grid f a c < overflow f → HasValue (round f s a c) s (grid f a c) (2 ^ low f)
round_value f s a c h = subst (λ (z : Float). HasValue z s (grid f a c) (2 ^ low f)) (sym (round_is f s a c)) (units_val f s (kept (prec f) (a * 2 ^ low f) c) (drop (prec f) (a * 2 ^ low f) c) h)

-- the order over signs: ±a ≤ ±b
abbrev pub SLe : Bool → ℕ → Bool → ℕ → Type 0
SLe false a false b = a ≤ b
SLe false a true b = ⊥
SLe true a false b = T true
SLe true a true b = b ≤ a

of_le : (a b : ℕ) → b ≤ a → T (ltb b a || (eqb a b && true))
of_le a b h = ⊎_elim (λ (l : b < a). subst (λ (t : Bool). T (t || (eqb a b && true))) (sym (yes_lt b a l)) tt)
    (λ (l : a ≤ b). let e : b ≡ a = omega (arith, l, h) in same (ltb b a) e) (below? b a)
  where
    both : (x y : Bool) → T y → T (x || (y && true))
    both true y t = tt
    both false true t = tt
    both false false t = absurd t

    same : (x : Bool) → b ≡ a → T (x || (eqb a b && true))
    same x e = both x (eqb a b) (subst (λ (z : ℕ). T (eqb a z)) (sym e) (eqb_refl a))

below_zero : (a b : ℕ) → T (ltb 0 (a + b) || (eqb a b && eqb a 0))
below_zero zero zero = tt
below_zero zero (suc b) = subst (λ (t : Bool). T (t || (eqb 0 (suc b) && eqb 0 0))) (sym (yes_lt 0 (0 + suc b) (omega arith))) tt
below_zero (suc a) b = subst (λ (t : Bool). T (t || (eqb (suc a) b && eqb (suc a) 0))) (sym (yes_lt 0 (suc a + b) (omega arith))) tt

pub le_signed : (x y : Float) (s t : Bool) (a c b d : ℕ) → 0 < c → 0 < d → HasValue x s a c → HasValue y t b d → SLe s (a * d) t (b * c) → T (le x y)
unfolding le
le_signed nan y s t a c b d C D h k l = absurd h
le_signed (inf u) y s t a c b d C D h k l = absurd h
le_signed (fin u m e) nan s t a c b d C D h k l = absurd k
le_signed (fin u m e) (inf v) s t a c b d C D h k l = absurd k
le_signed (fin u m e) (fin v n g) s t a c b d C D h k l = subst (λ (z : Bool). T (le (fin z m e) (fin v n g))) (sym h.0) (subst (λ (z : Bool). T (le (fin s m e) (fin z n g))) (sym k.0) (go s t l))
  where
    go : (s t : Bool) → SLe s (a * d) t (b * c) → T (le (fin s m e) (fin t n g))
    go false false l = le_of_values (fin false m e) (fin false n g) a c b d C D (refl, h.1) (refl, k.1) l
    go false true l = absurd l
    go true false l = below_zero (m * up e * down g) (n * up g * down e)
    go true true l = of_le (m * up e * down g) (n * up g * down e) (transfer (n * up g) (m * up e) (down g) (down e) b a d c D C k.1 h.1 l)

-- a rounded fraction against whole numbers
pub under_whole : (f : Format) (s : Bool) (a c : ℕ) (t : Bool) (b : ℕ) (y : Float) → 0 < c → b ≤ 2 ^ prec f → grid f a c < overflow f → HasValue y t b 1 → SLe s a t (b * c) → T (le (round f s a c) y)
under_whole f s a c t b y C B o hy l = le_signed (round f s a c) y s t (grid f a c) (2 ^ low f) b 1 (pow_pos (low f)) (omega arith) (round_value f s a c o) hy (go s t l)
  where
    go : (s t : Bool) → SLe s a t (b * c) → SLe s (grid f a c * 1) t (b * 2 ^ low f)
    go false false l = le_trans (le_of_eq (mul-one (grid f a c))) (grid_le f a c b C l B).0
    go false true l = l
    go true false l = tt
    go true true l = le_trans (grid_ge f a c b C l B o) (le_of_eq (sym (mul-one (grid f a c))))

pub over_whole : (f : Format) (s : Bool) (a c : ℕ) (t : Bool) (b : ℕ) (y : Float) → 0 < c → b ≤ 2 ^ prec f → grid f a c < overflow f → HasValue y t b 1 → SLe t (b * c) s a → T (le y (round f s a c))
over_whole f s a c t b y C B o hy l = le_signed y (round f s a c) t s b 1 (grid f a c) (2 ^ low f) (omega arith) (pow_pos (low f)) hy (round_value f s a c o) (go s t l)
  where
    go : (s t : Bool) → SLe t (b * c) s a → SLe t (b * 2 ^ low f) s (grid f a c * 1)
    go false false l = le_trans (grid_ge f a c b C l B o) (le_of_eq (sym (mul-one (grid f a c))))
    go true false l = l
    go false true l = tt
    go true true l = le_trans (le_of_eq (mul-one (grid f a c))) (grid_le f a c b C l B).0

-- a quotient of whole numbers, and a whole number plus a fraction
pub div_frac : (f : Format) (x y : Float) (s t : Bool) (a b : ℕ) → 0 < b → HasValue x s a 1 → HasValue y t b 1 → div f x y ≡ round f (unlike s t) a b
unfolding div
div_frac f nan y s t a b h hx hy = absurd hx
div_frac f (inf u) y s t a b h hx hy = absurd hx
div_frac f (fin u m e) nan s t a b h hx hy = absurd hy
div_frac f (fin u m e) (inf v) s t a b h hx hy = absurd hy
div_frac f (fin u m e) (fin v zero d) s t a b h hx hy =
    absurd (lt_irrefl 0 (subst (λ (z : ℕ). 0 < z) (sym hy.1 ∙ mul-one (0 * up d) ∙ zero-mul (up d)) (mul-pos h (down_pos d))))
div_frac f (fin u m e) (fin v (suc n) d) s t a b h hx hy =
    ap (λ (z : Bool). cond z (cond (eqb m 0) nan (inf (unlike u v))) (round f (unlike u v) (m * up e * down d) (suc n * up d * down e))) (eqb-suc-zero n)
    ∙ ap₂ (λ (y z : Bool). round f (unlike y z) (m * up e * down d) (suc n * up d * down e)) hx.0 hy.0
    ∙ ap₂ (λ (y z : ℕ). round f (unlike s t) (y * down d) (z * down e)) (sym (mul-one (m * up e)) ∙ hx.1) (sym (mul-one (suc n * up d)) ∙ hy.1)
    ∙ round_same f (unlike s t) (a * down e * down d) (b * down d * down e) a b (mul-pos (mul-pos h (down_pos d)) (down_pos e)) h
    (simp (mul_assoc, mul_comm, mul_left_comm))

sub_scale : (a b c : ℕ) → (a - b) * c ≡ a * c - b * c
sub_scale = sub_mul

-- equal fractions have equal sums
pub sum_same : (f : Format) (s : Bool) (a : ℕ) (t : Bool) (b c p q r : ℕ) → 0 < c → 0 < r → a * r ≡ p * c → b * r ≡ q * c → sum f s a t b c ≡ sum f s p t q r
unfolding sum
sum_same f s a t b c p q r C R h k =
    let lab : ltb a b ≡ ltb p q = sym (lt_scale a b r R) ∙ ap₂ ltb h k ∙ lt_scale p q c C in
    let lba : ltb b a ≡ ltb q p = sym (lt_scale b a r R) ∙ ap₂ ltb k h ∙ lt_scale q p c C in
    ap₂ (λ (x y : Float). cond (beq s t) x y)
    (round_same f s (a + b) c (p + q) r C R (add-mul a b r ∙ ap₂ (λ (x y : ℕ). x + y) h k ∙ sym (add-mul p q c)))
    (ap (λ (z : Bool). cond z (round f t (b - a) c) (round f (s && ltb b a) (a - b) c)) lab
    ∙ ap₂ (λ (x y : Float). cond (ltb p q) x y)
    (round_same f t (b - a) c (q - p) r C R (sub_scale b a r ∙ ap₂ (λ (x y : ℕ). x - y) k h ∙ sym (sub_scale q p c)))
    (ap (λ (z : Bool). round f (s && z) (a - b) c) lba ∙ round_same f (s && ltb q p) (a - b) c (p - q) r C R (sub_scale a b r ∙ ap₂ (λ (x y : ℕ). x - y) h k ∙ sym (sub_scale p q c))))

pub add_frac : (f : Format) (x y : Float) (s t : Bool) (a b c : ℕ) → 0 < c → HasValue x s a 1 → HasValue y t b c → add f x y ≡ sum f s (a * c) t b c
unfolding add
add_frac f nan y s t a b c C hx hy = absurd hx
add_frac f (inf u) y s t a b c C hx hy = absurd hx
add_frac f (fin u m e) nan s t a b c C hx hy = absurd hy
add_frac f (fin u m e) (inf v) s t a b c C hx hy = absurd hy
add_frac f (fin u m e) (fin v n d) s t a b c C hx hy =
    ap₂ (λ (y z : Bool). sum f y (m * up e * down d) z (n * up d * down e) (down e * down d)) hx.0 hy.0
    ∙ sum_same f s (m * up e * down d) t (n * up d * down e) (down e * down d) (a * c) b c (mul-pos (down_pos e) (down_pos d)) C
    (ap (λ (z : ℕ). z * down d * c) (sym (mul-one (m * up e)) ∙ hx.1) ∙ simp (mul_assoc, mul_comm, mul_left_comm))
    (mul_right_comm (n * up d) (down e) c ∙ ap (λ (z : ℕ). z * down e) hy.1 ∙ simp (mul_assoc, mul_comm))

cond_ap : (g : Bool × ℕ → Float) (z : Bool) (x y : Bool × ℕ) → cond z (g x) (g y) ≡ g (cond z x y)
cond_ap g true x y = refl
cond_ap g false x y = refl

pub sum_plus_at : (f : Format) (s : Bool) (a : ℕ) (t : Bool) (b c : ℕ) → sum f s a t b c ≡ round f (plus s a t b).0 (plus s a t b).1 c
unfolding sum
sum_plus_at f s a t b c =
    ap (λ (y : Float). cond (beq s t) (round f s (a + b) c) y) (cond_ap (λ p. round f p.0 p.1 c) (ltb a b) (t, b - a) (s && ltb b a, a - b))
    ∙ cond_ap (λ p. round f p.0 p.1 c) (beq s t) (s, a + b) (cond (ltb a b) (t, b - a) (s && ltb b a, a - b))

-- what is not nothing does not round to nothing, in units of the smallest value
grid_one : (f : Format) (n : ℕ) → 0 < n → grid f n (2 ^ low f) < overflow f → 0 < grid f n (2 ^ low f)
grid_one f n h o =
    let l = 2 ^ low f in
    let P : 0 < l = pow_pos (low f) in
    let m = grid_mono f 1 l n l P P (mul-le-mul_right l h) o in
    let x = round f false 1 l in
    let v : HasValue x false 1 l = round_exact f false 1 l 1 0 P (one f) (top f) refl in
    let w : HasValue x false (grid f 1 l) l = round_val f 1 l m.1 in
    let e : grid f 1 l ≡ 1 = eq_of_mul-eq-mul_right (den x) (den_pos x) (grid f 1 l) 1 (sym (value→cross x (grid f 1 l) l w) ∙ value→cross x 1 l v) in
    le_trans (le_of_eq (sym e)) m.0
  where
    one : (f : Format) → 1 < 2 ^ prec f
    one binary32 = lit< tt
    one binary64 = lit< tt

    top : (f : Format) → 1 * 2 ^ 0 < 2 ^ (low f + suc (emax f))
    top binary32 = lit< tt
    top binary64 = lit< tt

minus_of : (x : Float) (s : Bool) (g c : ℕ) → HasValue x s g c → (s ≡ true → 0 < g) → T (not_minus_zero x)
minus_of nan s g c h k = absurd h
minus_of (inf u) s g c h k = absurd h
minus_of (fin false m e) s g c h k = tt
minus_of (fin true m e) s g c h k = lt→ltb 0 m (first_pos m (up e) (first_pos (m * up e) c (subst (λ (z : ℕ). 0 < z) (sym h.1) (mul-pos (k (sym h.0)) (down_pos e)))))

pub round_minus : (f : Format) (s : Bool) (n : ℕ) → (s ≡ true → 0 < n) → grid f n (2 ^ low f) < overflow f → T (not_minus_zero (round f s n (2 ^ low f)))
round_minus f s n h o = minus_of (round f s n (2 ^ low f)) s (grid f n (2 ^ low f)) (2 ^ low f) (round_value f s n (2 ^ low f) o) (λ (e : s ≡ true). grid_one f n (h e) o)

-- a sum is negative only where it is not nothing
pub plus_minus : (s : Bool) (a : ℕ) (t : Bool) (b : ℕ) → (a ≡ 0 → s ≡ false) → (plus s a t b).0 ≡ true → 0 < (plus s a t b).1
plus_minus false a false b ha e = absurd (true≢false (sym e))
plus_minus true a true b ha e = let p : 0 < a = above a ha in omega (arith, p)
plus_minus false a true b ha e = ⊎_elim
    (λ (l : a < b). subst (λ (z : Bool). 0 < (cond {A = Bool × ℕ} z (true, b - a) (false, a - b)).1) (sym (yes_lt a b l)) (omega (arith, l)))
    (λ (l : b ≤ a). absurd (true≢false (sym e ∙ ap (λ (z : Bool). (cond {A = Bool × ℕ} z (true, b - a) (false, a - b)).0) (no_lt a b l)))) (below? a b)
plus_minus true a false b ha e = ⊎_elim
    (λ (l : b < a). subst (λ (z : Bool). 0 < (cond {A = Bool × ℕ} z (false, b - a) (ltb b a, a - b)).1) (sym (no_lt a b (omega (arith, l)))) (omega (arith, l)))
    (λ (l : a ≤ b). absurd (true≢false (sym e ∙ ap (λ (z : Bool). (cond {A = Bool × ℕ} (ltb a b) (false, b - a) (z, a - b)).0) (no_lt b a l) ∙ flat (ltb a b) b a))) (below? b a)
  where
    flat : (z : Bool) (m n : ℕ) → (cond {A = Bool × ℕ} z (false, m - n) (false, n - m)).0 ≡ false
    flat true m n = refl
    flat false m n = refl
