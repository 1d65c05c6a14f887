-- Places and bytes: cut and join undo one another.
use mathlib.Core.Path.{◌≡◌, refl, sym, ◌∙◌, ap}
use mathlib.Core.List.{List, [], ◌∷◌, ◌++◌, append_assoc}
use mathlib.Core.Bool.{Bool, true, false}
use Prim.Native.Nat.{ℕ, zero, suc, ◌+◌, ◌*◌, ◌-◌, ◌<◌}
use native.Mathlib.Omega.{arith}
use lib.ListN.{length, get_or, take, drop, replicate, length-append, length-drop, length-replicate, take-append-drop}
use lib.Seq.{take_at, drop_at, length-take-le}
use lib.Dec.{eqb}
use borrow.Author.Tests.{eqb-true, eq-eqb}
use Rattle.std.specs.Prelude.{if◌then◌else◌}
use Rattle.common.proofs.Choice.{if_true, if_false, unlike}
use Rattle.file_check.specs.Check.{all_are, is_blank}
use Rattle.store_places.specs.Store.{cut, join, blank_place, is_dead, zeroed}

-- every place is 512 bytes long
abbrev pub Whole : List (List ℕ) → Type 0
Whole [] = Unit {0}
Whole (p ∷ s) = (length p ≡ 512) × Whole s

pub whole_cut : (n : ℕ) (b : List ℕ) → length b ≡ 512 * n → Whole (cut n b)
whole_cut zero b e = tt
whole_cut (suc n) b e = (length-take-le 512 b (omega arith), whole_cut n (drop 512 b) (length-drop 512 b ∙ (let q : length b - 512 ≡ 512 * n = omega arith in q)))

pub whole_append : (s t : List (List ℕ)) → Whole s → Whole t → Whole (s ++ t)
whole_append [] t w v = v
whole_append (p ∷ s) t w v = (w.0, whole_append s t w.1 v)

pub whole_take : (n : ℕ) (s : List (List ℕ)) → Whole s → Whole (take n s)
whole_take zero s w = tt
whole_take (suc n) [] w = tt
whole_take (suc n) (p ∷ s) w = (w.0, whole_take n s w.1)

pub join_length : (s : List (List ℕ)) → Whole s → length (join s) ≡ 512 * length s
join_length [] w = refl
join_length (p ∷ s) w =
    let a = join_length s w.1 in let b = w.0 in
    length-append p (join s) ∙ (let q : length p + length (join s) ≡ 512 * suc (length s) = omega arith in q)

pub cut_length : (n : ℕ) (b : List ℕ) → length (cut n b) ≡ n
cut_length zero b = refl
cut_length (suc n) b = ap suc (cut_length n (drop 512 b))

nil : (b : List ℕ) → length b ≡ 0 → b ≡ []
nil [] e = refl
nil (x ∷ xs) e = absurd (omega arith)

pub join_cut : (n : ℕ) (b : List ℕ) → length b ≡ 512 * n → join (cut n b) ≡ b
join_cut zero b e = sym (nil b (omega arith))
join_cut (suc n) b e =
    ap (λ (x : List ℕ). take 512 b ++ x) (join_cut n (drop 512 b) (length-drop 512 b ∙ (let q : length b - 512 ≡ 512 * n = omega arith in q)))
    ∙ take-append-drop 512 b

pub cut_join : (s : List (List ℕ)) → Whole s → cut (length s) (join s) ≡ s
cut_join [] w = refl
cut_join (p ∷ s) w =
    ap (λ (x : List ℕ). x ∷ cut (length s) (drop 512 (p ++ join s))) (take_at p (join s) 512 w.0)
    ∙ ap (λ (x : List ℕ). p ∷ cut (length s) x) (drop_at p (join s) 512 w.0)
    ∙ ap (λ (x : List (List ℕ)). p ∷ x) (cut_join s w.1)

pub join_append : (s t : List (List ℕ)) → join (s ++ t) ≡ join s ++ join t
join_append [] t = refl
join_append (p ∷ s) t = ap (λ (x : List ℕ). p ++ x) (join_append s t) ∙ sym (append_assoc p (join s) (join t))

-- a byte of the first place
pub join_first : (p : List ℕ) (s : List (List ℕ)) (k : ℕ) → k < length p → get_or (join (p ∷ s)) k 0 ≡ get_or p k 0
join_first [] s k h = absurd (omega arith)
join_first (x ∷ p) s zero h = refl
join_first (x ∷ p) s (suc k) h = join_first p s k (omega arith)

-- the blank place
repeated : (b : ℕ) (xs : List ℕ) → all_are b xs ≡ true → xs ≡ replicate (length xs) b
repeated b [] e = refl
repeated b (x ∷ xs) e = go (eqb x b) refl (repeated b xs)
  where
    go : (t : Bool) → eqb x b ≡ t → (all_are b xs ≡ true → xs ≡ replicate (length xs) b) → x ∷ xs ≡ b ∷ replicate (length xs) b
    go true q r =
        let h : x ≡ b = eqb-true x b q in
        let t : xs ≡ replicate (length xs) b = r (sym (if_true (eqb x b) (all_are b xs) false q) ∙ e) in
        ap (λ (z : ℕ). z ∷ xs) h ∙ ap (λ (z : List ℕ). b ∷ z) t
    go false q r = absurd (let w : false ≡ true = sym (if_false (eqb x b) (all_are b xs) false q) ∙ e in let z : ◌≡◌ {A = ℕ} 0 1 = cc in omega arith)

pub blank_is : (p : List ℕ) → is_blank p ≡ true → p ≡ blank_place
unfolding is_blank
blank_is p e = go (eqb (length p) 512) refl e
  where
    go : (t : Bool) → eqb (length p) 512 ≡ t → (if t then all_are 255 p else false) ≡ true → p ≡ blank_place
    go true q r = repeated 255 p r ∙ ap (λ (n : ℕ). replicate {A = ℕ} n 255) (eqb-true (length p) 512 q)
    go false q r = absurd (unlike (sym r))

all_same : (b n : ℕ) → all_are b (replicate n b) ≡ true
all_same b zero = refl
all_same b (suc n) = if_true (eqb b b) (all_are b (replicate n b)) false (eq-eqb b b refl) ∙ all_same b n

pub blank_blank : is_blank blank_place ≡ true
unfolding is_blank
blank_blank = if_true (eqb (length blank_place) 512) (all_are 255 blank_place) false (eq-eqb (length blank_place) 512 (length-replicate {A = ℕ} 512 255)) ∙ all_same 255 512

pub blank_alive : is_dead blank_place ≡ false
unfolding is_dead
blank_alive = refl

pub blank_length : length blank_place ≡ 512
blank_length = length-replicate {A = ℕ} 512 255

-- a blank place begins with FFH
pub blank_first : (p : List ℕ) → is_blank p ≡ true → get_or p 0 0 ≡ 255
blank_first p e = ap (λ (x : List ℕ). get_or x 0 0) (blank_is p e)

-- a dropped block is dead and as long as before
pub zeroed_dead : (p : List ℕ) → is_dead (zeroed p) ≡ true
unfolding is_dead zeroed
zeroed_dead [] = refl
zeroed_dead (x ∷ p) = refl

pub zeroed_length : (p : List ℕ) → length (zeroed p) ≡ length p
unfolding zeroed
zeroed_length [] = refl
zeroed_length (x ∷ p) = refl
