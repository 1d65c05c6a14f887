-- Laws of numbers spelled: digit by digit, how long they are, and their last digits.
use mathlib.Core.Path.{◌≡◌, refl, sym, ap, ◌∙◌}
use mathlib.Core.List.{List, [], ◌∷◌, ◌++◌, append_assoc}
use Prim.Native.Nat.{ℕ, zero, suc, ◌+◌, ◌-◌, ◌*◌, ◌/◌, ◌%◌, ◌^◌, ◌≤◌, ◌<◌}
use native.Mathlib.Omega.{arith}
use lib.Dec.{ltb}
use Rattle.std.proofs.lemmas.Bool.Decides.{nat_tests}
use lib.ListN.{length, take, drop}
use lib.Seq.{drop_at, take_all}
use Rattle.common.proofs.Choice.{if_ind}
use Rattle.text.specs.Digits.{digit_letter, spelled, width_of, decimal_of}

-- lengths
pub spelled_length : (base w n : ℕ) (after : List ℕ) → length (spelled base w n after) ≡ w + length after
spelled_length base zero n after = omega arith
spelled_length base (suc w) n after = spelled_length base w (n / base) (digit_letter (n % base) ∷ after) ∙ (let q : w + suc (length after) ≡ suc w + length after = omega arith in q)

pub width_some : (n : ℕ) → (1 ≤ width_of n) × (width_of n ≤ 10)
unfolding width_of
width_some n =
    if_ind W (ltb n 10) 1 _ (λ e. (omega arith, omega arith)) (λ e.
    if_ind W (ltb n 100) 2 _ (λ e. (omega arith, omega arith)) (λ e.
    if_ind W (ltb n 1000) 3 _ (λ e. (omega arith, omega arith)) (λ e.
    if_ind W (ltb n 10000) 4 _ (λ e. (omega arith, omega arith)) (λ e.
    if_ind W (ltb n 100000) 5 _ (λ e. (omega arith, omega arith)) (λ e.
    if_ind W (ltb n 1000000) 6 _ (λ e. (omega arith, omega arith)) (λ e.
    if_ind W (ltb n 10000000) 7 _ (λ e. (omega arith, omega arith)) (λ e.
    if_ind W (ltb n 100000000) 8 _ (λ e. (omega arith, omega arith)) (λ e.
    if_ind W (ltb n 1000000000) 9 10 (λ e. (omega arith, omega arith)) (λ e. (omega arith, omega arith))))))))))
  where
    W : ℕ → Type 0
    W k = (1 ≤ k) × (k ≤ 10)

pub decimal_length : (n : ℕ) → length (decimal_of n) ≡ width_of n
unfolding decimal_of
decimal_length n = spelled_length 10 (width_of n) n [] ∙ (let q : width_of n + 0 ≡ width_of n = omega arith in q)

-- what follows stands behind, so the last digits of more digits are the digits
pub spelled_before : (base w n : ℕ) (after : List ℕ) → spelled base w n after ≡ spelled base w n [] ++ after
spelled_before base zero n after = refl
spelled_before base (suc w) n after =
    let d = digit_letter (n % base) in
    let m = n / base in
    spelled_before base w m (d ∷ after)
    ∙ sym (append_assoc (spelled base w m []) (d ∷ []) after)
    ∙ ap (λ (z : List ℕ). z ++ after) (sym (spelled_before base w m (d ∷ [])))

pub spelled_tail : (base k w n : ℕ) (after : List ℕ) → drop k (spelled base (k + w) n after) ≡ spelled base w n after
spelled_tail base k zero n after =
    let e : k + 0 ≡ k = omega arith in
    ap (λ (z : ℕ). drop k (spelled base z n after)) e
    ∙ ap (drop k) (spelled_before base k n after)
    ∙ drop_at (spelled base k n []) after k (spelled_length base k n [] ∙ e)
spelled_tail base k (suc w) n after =
    let e : k + suc w ≡ suc (k + w) = omega arith in
    ap (λ (z : ℕ). drop k (spelled base z n after)) e ∙ spelled_tail base k w (n / base) (digit_letter (n % base) ∷ after)

-- a number in decimal: the last of ten digits
pub decimal_last : (n from : ℕ) → from ≡ 10 - width_of n → take (10 - from) (drop from (spelled 10 10 n [])) ≡ decimal_of n
unfolding decimal_of
decimal_last n from e =
    let w = width_some n in
    let s : 10 ≡ from + width_of n = omega (arith, e, w.1) in
    let t : 10 - from ≡ width_of n = omega (arith, e, w.1) in
    let d : drop from (spelled 10 10 n []) ≡ spelled 10 (width_of n) n [] = ap (λ (z : ℕ). drop from (spelled 10 z n [])) s ∙ spelled_tail 10 from (width_of n) n [] in
    let l : length (spelled 10 (width_of n) n []) ≤ 10 - from = omega (arith, spelled_length 10 (width_of n) n [], t) in
    ap (take (10 - from)) d ∙ take_all (10 - from) (spelled 10 (width_of n) n []) l

-- a number of k digits behind its first
pub width_is : (n k : ℕ) → 10 ^ k ≤ n → n < 10 * 10 ^ k → k < 10 → width_of n ≡ k + 1
unfolding width_of
width_is n zero p q r = grind (arith, nat_tests)
width_is n (suc zero) p q r = grind (arith, nat_tests)
width_is n (suc (suc zero)) p q r = grind (arith, nat_tests)
width_is n (suc (suc (suc zero))) p q r = grind (arith, nat_tests)
width_is n (suc (suc (suc (suc zero)))) p q r = grind (arith, nat_tests)
width_is n (suc (suc (suc (suc (suc zero))))) p q r = grind (arith, nat_tests)
width_is n (suc (suc (suc (suc (suc (suc zero)))))) p q r = grind (arith, nat_tests)
width_is n (suc (suc (suc (suc (suc (suc (suc zero))))))) p q r = grind (arith, nat_tests)
width_is n (suc (suc (suc (suc (suc (suc (suc (suc zero)))))))) p q r = grind (arith, nat_tests)
width_is n (suc (suc (suc (suc (suc (suc (suc (suc (suc zero))))))))) p q r = grind (arith, nat_tests)
width_is n (suc (suc (suc (suc (suc (suc (suc (suc (suc (suc k)))))))))) p q r = absurd (omega arith)
