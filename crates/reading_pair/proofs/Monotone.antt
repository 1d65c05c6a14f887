-- Inside a pair the reading rises with the voltage where the temperatures rise, and falls where they fall.
use mathlib.Core.Path.{◌≡◌, sym, subst}
use mathlib.Core.Bool.{Bool, true, false, not, cond}
use mathlib.Core.Logic.{⊎_elim}
use Prim.Native.Nat.{ℕ, ◌+◌, ◌-◌, ◌*◌, ◌≤◌, ◌<◌, ◌^◌}
use native.Mathlib.Nat.{mul-le-mul_right, mul-le-mul_left}
use native.Mathlib.Omega.{arith}
use lib.Dec.{T, ltb}
use lib.Pow.{pow_pos}
use lib.Ieee.{Float, Format, prec, low, round, add, sub, mul, div, le}
use lib.Ieee.Exact.{HasValue}
use lib.Ieee.Scale.{grid, overflow}
use Rattle.reading_pair.proofs.WholeNumbers.{yes_lt, no_lt, below?, plus, gap}
use Rattle.reading_pair.proofs.Rounded.{SLe, le_signed, grid_mono, round_value}
use Rattle.reading_pair.proofs.Between.{is, bound, up_fits, down_fits}

-- rounding keeps the order over signs, in units of the smallest value
round_le : (f : Format) (s t : Bool) (n m : ℕ) → SLe s n t m → grid f n (2 ^ low f) < overflow f → grid f m (2 ^ low f) < overflow f → T (le (round f s n (2 ^ low f)) (round f t m (2 ^ low f)))
round_le f s t n m h o q = le_signed (round f s n L) (round f t m L) s t (grid f n L) L (grid f m L) L P P (round_value f s n L o) (round_value f t m L q) (go s t h)
  where
    L : ℕ
    L = 2 ^ low f

    P : 0 < 2 ^ low f
    P = pow_pos (low f)

    go : (s t : Bool) → SLe s n t m → SLe s (grid f n (2 ^ low f) * 2 ^ low f) t (grid f m (2 ^ low f) * 2 ^ low f)
    go false false h = mul-le-mul_right (2 ^ low f) (grid_mono f n (2 ^ low f) m (2 ^ low f) P P (mul-le-mul_right (2 ^ low f) h) q).0
    go false true h = h
    go true false h = tt
    go true true h = mul-le-mul_right (2 ^ low f) (grid_mono f m (2 ^ low f) n (2 ^ low f) P P (mul-le-mul_right (2 ^ low f) h) o).0

-- a signed number with more added, and with more taken off
Order : Bool × ℕ → Bool × ℕ → Type 0
Order r q = SLe r.0 r.1 q.0 q.1

plus_more : (s : Bool) (a k j : ℕ) → k ≤ j → Order (plus s a false k) (plus s a false j)
unfolding Order
plus_more false a k j h = omega (arith, h)
plus_more true a k j h = ⊎_elim
    (λ (l : a < k). subst (λ (z : Bool). Order (cond z (false, k - a) (ltb k a, a - k)) (plus true a false j)) (sym (yes_lt a k l))
    (subst (λ (z : Bool). Order (false, k - a) (cond z (false, j - a) (ltb j a, a - j))) (sym (yes_lt a j (omega (arith, l, h)))) (omega (arith, h))))
    (λ (l : k ≤ a). subst (λ (z : Bool). Order (cond z (false, k - a) (ltb k a, a - k)) (plus true a false j)) (sym (no_lt a k l)) (⊎_elim
    (λ (m : k < a). subst (λ (z : Bool). Order (z, a - k) (plus true a false j)) (sym (yes_lt k a m)) (left m))
    (λ (m : a ≤ k). subst (λ (z : Bool). Order (z, a - k) (plus true a false j)) (sym (no_lt k a m)) (level (omega (arith, l, m)))) (below? k a))) (below? a k)
  where
    left : k < a → Order (true, a - k) (plus true a false j)
    left m = ⊎_elim
        (λ (l : a < j). subst (λ (z : Bool). Order (true, a - k) (cond z (false, j - a) (ltb j a, a - j))) (sym (yes_lt a j l)) tt)
        (λ (l : j ≤ a). subst (λ (z : Bool). Order (true, a - k) (cond z (false, j - a) (ltb j a, a - j))) (sym (no_lt a j l)) (⊎_elim
        (λ (n : j < a). subst (λ (z : Bool). Order (true, a - k) (z, a - j)) (sym (yes_lt j a n)) (omega (arith, h)))
        (λ (n : a ≤ j). subst (λ (z : Bool). Order (true, a - k) (z, a - j)) (sym (no_lt j a n)) tt) (below? j a))) (below? a j)

    level : k ≡ a → Order (false, a - k) (plus true a false j)
    level e = ⊎_elim
        (λ (l : a < j). subst (λ (z : Bool). Order (false, a - k) (cond z (false, j - a) (ltb j a, a - j))) (sym (yes_lt a j l)) (omega (arith, e)))
        (λ (l : j ≤ a). subst (λ (z : Bool). Order (false, a - k) (cond z (false, j - a) (ltb j a, a - j))) (sym (no_lt a j l))
        (subst (λ (z : Bool). Order (false, a - k) (z, a - j)) (sym (no_lt j a (omega (arith, e, h)))) (omega (arith, e)))) (below? a j)

plus_less : (s : Bool) (a k j : ℕ) → k ≤ j → Order (plus s a true j) (plus s a true k)
unfolding Order
plus_less true a k j h = omega (arith, h)
plus_less false a k j h = ⊎_elim
    (λ (l : a < j). subst (λ (z : Bool). Order (cond z (true, j - a) (false, a - j)) (plus false a true k)) (sym (yes_lt a j l)) (⊎_elim
    (λ (m : a < k). subst (λ (z : Bool). Order (true, j - a) (cond z (true, k - a) (false, a - k))) (sym (yes_lt a k m)) (omega (arith, h)))
    (λ (m : k ≤ a). subst (λ (z : Bool). Order (true, j - a) (cond z (true, k - a) (false, a - k))) (sym (no_lt a k m)) tt) (below? a k)))
    (λ (l : j ≤ a). subst (λ (z : Bool). Order (cond z (true, j - a) (false, a - j)) (plus false a true k)) (sym (no_lt a j l))
    (subst (λ (z : Bool). Order (false, a - j) (cond z (true, k - a) (false, a - k))) (sym (no_lt a k (omega (arith, l, h)))) (omega (arith, h)))) (below? a j)

-- two readings of one pair, from values
module _ (f : Format) (t₀ t₁ x₀ x₁ x y : Float) (s t u v w w' : Bool) (a b c d n n' : ℕ)
    (h₀ : HasValue t₀ s a 1) (h₁ : HasValue t₁ t b 1) (k₀ : HasValue x₀ u c 1) (k₁ : HasValue x₁ v d 1) (k : HasValue x w n 1) (k' : HasValue y w' n' 1)
    (z₀ : a ≡ 0 → s ≡ false) (z₁ : b ≡ 0 → t ≡ false)
    (apart : 0 < gap v d u c) (rises : (plus v d (not u) c).0 ≡ false) (after : (plus w n (not u) c).0 ≡ false) (after' : (plus w' n' (not u) c).0 ≡ false)
    (before : gap w n u c ≤ gap v d u c) (before' : gap w' n' u c ≤ gap v d u c) (order : gap w n u c ≤ gap w' n' u c)
    (few : gap t b s a * gap v d u c ≤ 2 ^ prec f) (small : gap t b s a ≤ 2 ^ prec f) (near : gap v d u c ≤ 2 ^ prec f) (sizes : a + b ≤ 2 ^ prec f) where
  abbrev sd : Bool
  sd = (plus t b (not s) a).0

  abbrev G : ℕ
  G = gap t b s a

  abbrev X : ℕ
  X = gap v d u c

  abbrev L : ℕ
  L = 2 ^ low f

  abbrev K : ℕ
  K = grid f (G * gap w n u c) X

  abbrev K' : ℕ
  K' = grid f (G * gap w' n' u c) X

  abbrev R : Float → Float
  R z = add f t₀ (div f (mul f (sub f t₁ t₀) (sub f z x₀)) (sub f x₁ x₀))

  more : K ≤ K'
  more =
      (grid_mono f (G * gap w n u c) X (G * gap w' n' u c) X apart apart (mul-le-mul_right X (mul-le-mul_left G order))
      (bound f t₀ t₁ x₀ x₁ y s t u v w' a b c d n' h₀ h₁ k₀ k₁ k' z₀ z₁ apart rises after' before' few small near sizes).1).0

  one : R x ≡ round f (plus s (a * L) sd K).0 (plus s (a * L) sd K).1 L
  one = is f t₀ t₁ x₀ x₁ x s t u v w a b c d n h₀ h₁ k₀ k₁ k z₀ z₁ apart rises after before few small near sizes

  two : R y ≡ round f (plus s (a * L) sd K').0 (plus s (a * L) sd K').1 L
  two = is f t₀ t₁ x₀ x₁ y s t u v w' a b c d n' h₀ h₁ k₀ k₁ k' z₀ z₁ apart rises after' before' few small near sizes

  pub rises_from : sd ≡ false → T (le (R x) (R y))
  unfolding Order
  rises_from e =
      subst (λ (z : Float). T (le z (R y))) (sym one) (subst (λ (z : Float). T (le (round f (plus s (a * L) sd K).0 (plus s (a * L) sd K).1 L) z)) (sym two)
      (round_le f (plus s (a * L) sd K).0 (plus s (a * L) sd K').0 (plus s (a * L) sd K).1 (plus s (a * L) sd K').1
      (subst (λ (z : Bool). Order (plus s (a * L) z K) (plus s (a * L) z K')) (sym e) (plus_more s (a * L) K K' more))
      (up_fits f t₀ t₁ x₀ x₁ x s t u v w a b c d n h₀ h₁ k₀ k₁ k z₀ z₁ apart rises after before few small near sizes e)
      (up_fits f t₀ t₁ x₀ x₁ y s t u v w' a b c d n' h₀ h₁ k₀ k₁ k' z₀ z₁ apart rises after' before' few small near sizes e)))

  pub falls_from : sd ≡ true → T (le (R y) (R x))
  unfolding Order
  falls_from e =
      subst (λ (z : Float). T (le z (R x))) (sym two) (subst (λ (z : Float). T (le (round f (plus s (a * L) sd K').0 (plus s (a * L) sd K').1 L) z)) (sym one)
      (round_le f (plus s (a * L) sd K').0 (plus s (a * L) sd K).0 (plus s (a * L) sd K').1 (plus s (a * L) sd K).1
      (subst (λ (z : Bool). Order (plus s (a * L) z K') (plus s (a * L) z K)) (sym e) (plus_less s (a * L) K K' more))
      (down_fits f t₀ t₁ x₀ x₁ y s t u v w' a b c d n' h₀ h₁ k₀ k₁ k' z₀ z₁ apart rises after' before' few small near sizes e)
      (down_fits f t₀ t₁ x₀ x₁ x s t u v w a b c d n h₀ h₁ k₀ k₁ k z₀ z₁ apart rises after before few small near sizes e)))
