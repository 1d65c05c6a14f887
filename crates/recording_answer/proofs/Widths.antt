-- Numbers told in hexadecimal digits: the last of sixteen, and enough of them that none is left out.
use mathlib.Core.Path.{◌≡◌, refl, sym, ap, ◌∙◌, subst}
use mathlib.Core.Bool.{Bool, true, false}
use mathlib.Core.List.{List, [], ◌∷◌, ◌++◌}
use Prim.Native.Nat.{ℕ, zero, suc, ◌+◌, ◌-◌, ◌*◌, ◌/◌, ◌%◌, ◌≤◌, ◌<◌}
use native.Mathlib.Omega.{arith}
use lib.Dec.{ltb}
use lib.ListN.{length, get_or, take, drop}
use lib.Seq.{take_all, take_at, drop_at}
use borrow.Author.Tests.{ltb-true, ltb-false}
use Rattle.std.specs.Prelude.{if◌then◌else◌}
use Rattle.common.proofs.Choice.{if_ind}
use Rattle.text.specs.Digits.{digit_letter, spelled}
use Rattle.text.proofs.Spelling.{spelled_length, spelled_before, spelled_tail}
use Rattle.recording_answer.specs.Lines.{data_width, address_width, data_text, address_text}

pub data_most : (v : ℕ) → data_width v ≤ 16
unfolding data_width
data_most v =
    if_ind (λ (k : ℕ). k ≤ 16) (ltb v 0x100) 2 _ (λ e. omega arith) (λ e.
    if_ind (λ (k : ℕ). k ≤ 16) (ltb v 0x10000) 4 _ (λ e. omega arith) (λ e.
    if_ind (λ (k : ℕ). k ≤ 16) (ltb v 0x100000000) 8 16 (λ e. omega arith) (λ e. omega arith)))

pub address_most : (v : ℕ) → address_width v ≤ 16
unfolding address_width
address_most v = if_ind (λ (k : ℕ). k ≤ 16) (ltb v 0x100) 4 (data_width v) (λ e. omega arith) (λ e. data_most v)

-- the last digits of sixteen
pub hex_last : (n v from : ℕ) → n ≤ 16 → from ≡ 16 - n → take (16 - from) (drop from (spelled 16 16 v [])) ≡ spelled 16 n v []
hex_last n v from h e =
    let s : 16 ≡ from + n = omega (arith, e) in
    let t : 16 - from ≡ n = omega (arith, e) in
    let d : drop from (spelled 16 16 v []) ≡ spelled 16 n v [] = ap (λ (z : ℕ). drop from (spelled 16 z v [])) s ∙ spelled_tail 16 from n v [] in
    let l : length (spelled 16 n v []) ≤ 16 - from = omega (arith, spelled_length 16 n v [], t) in
    ap (take (16 - from)) d ∙ take_all (16 - from) (spelled 16 n v []) l

-- so many digits hold numbers below this
abbrev pub power : ℕ → ℕ
power zero = 1
power (suc n) = 16 * power n

-- a digit tells one number below 16
letter_tells : (a b : ℕ) → a < 16 → b < 16 → digit_letter a ≡ digit_letter b → a ≡ b
unfolding digit_letter
letter_tells a b p q e = go (ltb a 10) (ltb b 10) refl refl e
  where
    go : (x y : Bool) → ltb a 10 ≡ x → ltb b 10 ≡ y → (if x then 48 + a else 55 + a) ≡ (if y then 48 + b else 55 + b) → a ≡ b
    go true true f g h = omega (arith, h)
    go true false f g h = let i = ltb-true a 10 f in let j = ltb-false b 10 g in absurd (omega (arith, h, i, j))
    go false true f g h = let i = ltb-false a 10 f in let j = ltb-true b 10 g in absurd (omega (arith, h, i, j))
    go false false f g h = omega (arith, h)

-- one digit more: the others, and the last
more : (n v : ℕ) → spelled 16 (suc n) v [] ≡ spelled 16 n (v / 16) [] ++ (digit_letter (v % 16) ∷ [])
more n v = spelled_before 16 n (v / 16) (digit_letter (v % 16) ∷ [])

pub spelled_tells : (n v w : ℕ) → v < power n → w < power n → spelled 16 n v [] ≡ spelled 16 n w [] → v ≡ w
spelled_tells zero v w p q e = omega (arith, p, q)
spelled_tells (suc n) v w p q e =
    let h : spelled 16 n (v / 16) [] ++ (digit_letter (v % 16) ∷ []) ≡ spelled 16 n (w / 16) [] ++ (digit_letter (w % 16) ∷ []) = sym (more n v) ∙ e ∙ more n w in
    let lv : length (spelled 16 n (v / 16) []) ≡ n = spelled_length 16 n (v / 16) [] ∙ (let z : n + 0 ≡ n = omega arith in z) in
    let lw : length (spelled 16 n (w / 16) []) ≡ n = spelled_length 16 n (w / 16) [] ∙ (let z : n + 0 ≡ n = omega arith in z) in
    let front : spelled 16 n (v / 16) [] ≡ spelled 16 n (w / 16) [] =
    sym (take_at (spelled 16 n (v / 16) []) (digit_letter (v % 16) ∷ []) n lv) ∙ ap (take n) h ∙ take_at (spelled 16 n (w / 16) []) (digit_letter (w % 16) ∷ []) n lw in
    let last : digit_letter (v % 16) ≡ digit_letter (w % 16) =
    ap (λ (zs : List ℕ). get_or zs 0 0) (sym (drop_at (spelled 16 n (v / 16) []) (digit_letter (v % 16) ∷ []) n lv) ∙ ap (drop n) h ∙ drop_at (spelled 16 n (w / 16) []) (digit_letter (w % 16) ∷ []) n lw) in
    let a : v / 16 ≡ w / 16 = spelled_tells n (v / 16) (w / 16) (omega (arith, p)) (omega (arith, q)) front in
    let b : v % 16 ≡ w % 16 = letter_tells (v % 16) (w % 16) (omega arith) (omega arith) last in
    omega (arith, a, b)

-- the width holds the number
data_holds : (v : ℕ) → v < power 16 → v < power (data_width v)
unfolding data_width
data_holds v h =
    if_ind (λ (k : ℕ). v < power k) (ltb v 0x100) 2 _ (λ e. ltb-true v 0x100 e) (λ e.
    if_ind (λ (k : ℕ). v < power k) (ltb v 0x10000) 4 _ (λ e. ltb-true v 0x10000 e) (λ e.
    if_ind (λ (k : ℕ). v < power k) (ltb v 0x100000000) 8 16 (λ e. ltb-true v 0x100000000 e) (λ e. h)))

address_holds : (v : ℕ) → v < power 16 → v < power (address_width v)
unfolding address_width
address_holds v h = if_ind (λ (k : ℕ). v < power k) (ltb v 0x100) 4 (data_width v) (λ e. let l = ltb-true v 0x100 e in omega (arith, l)) (λ e. data_holds v h)

-- as many digits, and so the same number
tells : (n m v w : ℕ) → v < power n → w < power m → spelled 16 n v [] ≡ spelled 16 m w [] → v ≡ w
tells n m v w p q e =
    let z : n ≡ m = omega (arith, ap length e, spelled_length 16 n v [], spelled_length 16 m w []) in
    spelled_tells n v w p (subst (λ (k : ℕ). w < power k) (sym z) q) (e ∙ ap (λ (k : ℕ). spelled 16 k w []) (sym z))

pub data_tells : (v w : ℕ) → v < power 16 → w < power 16 → data_text v ≡ data_text w → v ≡ w
data_tells v w p q e = tells (data_width v) (data_width w) v w (data_holds v p) (data_holds w q) e

pub address_tells : (v w : ℕ) → v < power 16 → w < power 16 → address_text v ≡ address_text w → v ≡ w
address_tells v w p q e = tells (address_width v) (address_width w) v w (address_holds v p) (address_holds w q) e
