-- Every reading is shown by its nearest tenth: a temperature of 16 bits, or between two of them, is a small f64.
use mathlib.Core.Path.{◌≡◌, refl, sym, ap, ◌∙◌, subst}
use mathlib.Core.Bool.{Bool, true, false, ◌&&◌, ◌||◌}
use mathlib.Core.List.{List}
use Prim.Native.Nat.{ℕ, ◌+◌, ◌-◌, ◌*◌, ◌≤◌, ◌<◌}
use native.Mathlib.Nat.{mul-one, mul_right_comm, mul-le-mul_right, le_of_mul-le-mul_right}
use native.Mathlib.Omega.{arith}
use lib.Dec.{T, eqb, ltb}
use lib.IntN.{ℤ, nat_abs}
use lib.Signed.{le_z}
use lib.Ieee.{Float, nan, inf, fin, binary64, up, down, lt, eq, le, of_int, fits}
use lib.Ieee.Exact.{HasValue}
use lib.Ieee.Fits.{down_pos, add-fits, of_int-fits}
use lib.Ieee.Positive.{num, den}
use borrow.Author.Tests.{ltb-true, eqb-true}
use Rattle.reading_pair.specs.Order.{LiesBetween}
use Rattle.reading_pair.specs.Pairs.{interpolated}
use Rattle.reading_pair.proofs.Knots.{sign, has}
use Rattle.reading_table.specs.Table.{knots, tenths_of, rises_to}
use Rattle.reading_table.specs.Search.{seek_of}
use Rattle.reading_table.proofs.Knots.{tenths_size}
use Rattle.reading_table.proofs.Order.{not_le}
use Rattle.reading.specs.declared.Reading.{Reading}
use Rattle.reading.specs.declared.ReadingAnswer.TheVariants.{Read}
use Rattle.reading.specs.Readings.{heat_of, pair_at, reading_of, reading_answer}
use Rattle.reading_claims.specs.Tables.{Told}
use Rattle.reading_claims.specs.Answers.{degrees, answer_from}
use Rattle.reading_claims.proofs.Sides.{Side, under, over, within, side}
use Rattle.reading_claims.proofs.Bounds.{up_at, down_at}
use Rattle.reading_claims.proofs.Claims as claims
use Rattle.reading_claims.proofs.Files.{read_table}
use Rattle.reading_print.specs.Texts.{tenths_shown, NearestTo}
use Rattle.reading_print.proofs.Claims.{nearest_tenth}

-- shown by the nearest tenth
abbrev pub ShownBest : Float → Type 0
ShownBest t = NearestTo (tenths_shown t) (num t) (den t)

-- f64's order as an order of sizes
by_order : (a b : ℕ) (c : Bool) → (c ≡ true → a ≡ b) → T (ltb a b || (c && true)) → a ≤ b
by_order a b c f h = go (ltb a b) refl c refl h
  where
    go : (x : Bool) → ltb a b ≡ x → (y : Bool) → c ≡ y → T (x || (y && true)) → a ≤ b
    go true p y q t = let l = ltb-true a b p in omega (arith, l)
    go false p true q t = let e = f q in omega (arith, e)
    go false p false q t = absurd t

by_equal : (a b : ℕ) (c d : Bool) → (c ≡ true → a ≡ b) → T (c && d) → a ≤ b
by_equal a b true d f h = let e = f refl in omega (arith, e)
by_equal a b false d f h = absurd h

under_size : (m : ℕ) (e : ℤ) (t : Bool) (n : ℕ) (d : ℤ) → T (le (fin false m e) (fin t n d)) → m * up e * down d ≤ n * up d * down e
unfolding le lt eq
under_size m e false n d h =
    let a = m * up e * down d in
    let b = n * up d * down e in
    by_order a b (eqb a b) (λ q. eqb-true a b q) h
under_size m e true n d h =
    let a = m * up e * down d in
    let b = n * up d * down e in
    by_equal a b (eqb a b) (eqb a 0) (λ q. eqb-true a b q) h

over_size : (t : Bool) (n : ℕ) (d : ℤ) (m : ℕ) (e : ℤ) → T (le (fin t n d) (fin true m e)) → m * up e * down d ≤ n * up d * down e
unfolding le lt eq
over_size true n d m e h =
    let a = m * up e * down d in
    let b = n * up d * down e in
    by_order a b (eqb b a) (λ q. sym (eqb-true b a q)) h
over_size false n d m e h =
    let a = m * up e * down d in
    let b = n * up d * down e in
    by_equal a b (eqb b a) (eqb b 0) (λ q. sym (eqb-true b a q)) h

-- at most a whole number of 16 bits in size
at_most : (x c n d k : ℕ) → 0 < d → 0 < c → k ≤ 32768 → n * 1 ≡ k * d → x * d ≤ n * c → x < 2147483648 * c
at_most x c n d k D C h v l =
    let w : n ≡ k * d = sym (mul-one n) ∙ v in
    let p : x * d ≤ k * c * d = subst (λ (z : ℕ). x * d ≤ z) (ap (λ (z : ℕ). z * c) w ∙ mul_right_comm k d c) l in
    let q : x ≤ k * c = le_of_mul-le-mul_right p D in
    let r : k * c ≤ 32768 * c = mul-le-mul_right c h in
    omega (arith, q, r, C)

by_upper : (y : Float) (t : Bool) (k m : ℕ) (e : ℤ) → HasValue y t k 1 → k ≤ 32768 → T (le (fin false m e) y) → m * up e < 2147483648 * down e
by_upper nan t k m e v h l = absurd v
by_upper (inf s) t k m e v h l = absurd v
by_upper (fin s n d) t k m e v h l = at_most (m * up e) (down e) (n * up d) (down d) k (down_pos d) (down_pos e) h v.1 (under_size m e s n d l)

by_lower : (y : Float) (t : Bool) (k m : ℕ) (e : ℤ) → HasValue y t k 1 → k ≤ 32768 → T (le y (fin true m e)) → m * up e < 2147483648 * down e
by_lower nan t k m e v h l = absurd v
by_lower (inf s) t k m e v h l = absurd v
by_lower (fin s n d) t k m e v h l = at_most (m * up e) (down e) (n * up d) (down d) k (down_pos d) (down_pos e) h v.1 (over_size s n d m e l)

whole_small : (z : ℤ) → nat_abs z ≤ 32768 → nat_abs z ≤ 80000
whole_small z h = omega (arith, h)

-- a temperature between two of 16 bits
lies_shown : (a b : ℤ) → nat_abs a ≤ 32768 → nat_abs b ≤ 32768 → (r : Float) → T (fits binary64 r) → LiesBetween a r b → ShownBest r
lies_shown a b ha hb nan f l = absurd l.2
lies_shown a b ha hb (inf s) f l = absurd l.2
lies_shown a b ha hb (fin false m e) f l = nearest_tenth false m e f (by_upper (of_int binary64 b) (sign b) (nat_abs b) m e (has b (whole_small b hb)) hb l.1)
lies_shown a b ha hb (fin true m e) f l = nearest_tenth true m e f (by_lower (of_int binary64 a) (sign a) (nat_abs a) m e (has a (whole_small a ha)) ha l.0)

-- .. and one of 16 bits
value_shown : (y : Float) (t : Bool) (k : ℕ) → HasValue y t k 1 → k ≤ 32768 → T (fits binary64 y) → ShownBest y
value_shown nan t k v h f = absurd v
value_shown (inf s) t k v h f = absurd v
value_shown (fin s n d) t k v h f =
    let w : n * up d ≡ k * down d = sym (mul-one (n * up d)) ∙ v.1 in
    let r : k * down d ≤ 32768 * down d = mul-le-mul_right (down d) h in
    let c = down_pos d in
    nearest_tenth s n d f (omega (arith, w, r, c))

heat_shown : (p : List ℕ) (i : ℕ) → ShownBest (heat_of p i)
heat_shown p i =
    let z = tenths_of p i in
    value_shown (of_int binary64 z) (sign z) (nat_abs z) (has z (whole_small z (tenths_size p i))) (tenths_size p i) (of_int-fits binary64 z)

is_true : (b : Bool) → T b → b ≡ true
is_true true t = refl
is_true false t = absurd t

pair_shown : (p : List ℕ) (x : ℤ) (r : Float) → Told p x r → ShownBest r
pair_shown p x r t = subst ShownBest (sym t.is) (go (le_z (tenths_of p t.lower) (tenths_of p (t.lower + 1))) refl)
  where
    held : T (fits binary64 (interpolated (pair_at p t.lower) (of_int binary64 x)))
    held = add-fits binary64 _ _

    go : (u : Bool) → le_z (tenths_of p t.lower) (tenths_of p (t.lower + 1)) ≡ u → ShownBest (interpolated (pair_at p t.lower) (of_int binary64 x))
    go true e =
        let i = t.lower in
        lies_shown (tenths_of p i) (tenths_of p (i + 1)) (tenths_size p i) (tenths_size p (i + 1)) (interpolated (pair_at p i) (of_int binary64 x)) held
        (up_at p i (is_true (rises_to p i (i + 1)) t.rises) x t.from t.to (subst T (sym e) tt))
    go false e =
        let i = t.lower in
        lies_shown (tenths_of p (i + 1)) (tenths_of p i) (tenths_size p (i + 1)) (tenths_size p i) (interpolated (pair_at p i) (of_int binary64 x)) held
        (down_at p i (is_true (rises_to p i (i + 1)) t.rises) x t.from t.to (not_le (tenths_of p i) (tenths_of p (i + 1)) e))

-- a reading by any payload
pub reading_shown : (p : List ℕ) (x : ℤ) (r : Reading) → reading_answer p x ≡ Read r → ShownBest (degrees r)
reading_shown p x r e = go (side p x)
  where
    is : r ≡ reading_of p x
    is = ((claims.at_read p x r).0 e).1

    go : Side p x → ShownBest (degrees r)
    go (under u q) = subst (λ (s : Reading). ShownBest (degrees s)) (sym (is ∙ q)) (heat_shown p 0)
    go (over u q) = subst (λ (s : Reading). ShownBest (degrees s)) (sym (is ∙ q)) (heat_shown p (knots p - 1))
    go (within u q) =
        let R = interpolated (pair_at p (seek_of p x)) (of_int binary64 x) in
        subst (λ (s : Reading). ShownBest (degrees s)) (sym (is ∙ q)) (pair_shown p x R (claims.at_told p x R (e ∙ ap Read (is ∙ q))))

-- and from any file
pub file_shown : (f : List ℕ) (letter : ℕ) (room : List ℕ) (x : ℤ) (r : Reading) → answer_from f letter room x ≡ Read r → ShownBest (degrees r)
file_shown f letter room x r e = let m = read_table f letter room x r e in reading_shown m.0 x r (claims.at_table m.0 x m.1.0 ∙ ap Read (sym m.1.1))
