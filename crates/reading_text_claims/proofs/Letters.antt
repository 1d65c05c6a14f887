-- A number that was written is read again, letter by letter, inside a line.
use mathlib.Core.Path.{◌≡◌, refl, sym, ap, ◌∙◌, subst}
use mathlib.Core.Bool.{Bool, true, false}
use mathlib.Core.List.{List, [], ◌∷◌, ◌++◌}
use Prim.Native.Nat.{ℕ, zero, suc, ◌+◌, ◌*◌, ◌/◌, ◌%◌, ◌^◌, ◌<◌}
use native.Mathlib.Nat.{pow-suc}
use native.Mathlib.Omega.{arith}
use lib.Dec.{eqb, ltb}
use borrow.Author.Tests.{ne_eqb, lt-ltb, le-leb, lt-leb, ltb-true}
use Rattle.std.specs.Prelude.{if◌then◌else◌}
use Rattle.common.proofs.Choice.{if_true, if_false, if_ind, unlike}
use Rattle.text.specs.Digits.{is_digit, digit_letter, spelled, width_of, decimal_of}
use Rattle.text.proofs.Spelling.{width_some}
use Rattle.reading_text.specs.declared.Number.{Number}
use Rattle.reading_text.specs.declared.Scan.{Scan}
use Rattle.reading_text.specs.Numbers.{fed_digit, fed}
use Rattle.reading_text.specs.Tables.{Scanned, within_line, at_gap, next_letter, scan_more, scan_all}
use Rattle.reading_text.proofs.Walks.{step_within}
use Rattle.reading_print.proofs.Laying.{signed_true, signed_false}
use Rattle.reading_print.specs.Texts.{signed_text}

-- a number with its sign, its digits so far, and nothing wrong
abbrev pub numbered : Bool → Bool → ℕ → Number
numbered m s n = record { minus = m; some = s; none = false; size = n }

-- a line at a number
abbrev pub at_number : Number → Number → Bool → ℕ → List ℕ → Scanned
at_number n volts second k out = record { scan = record { number = n; volts = volts; second = second; wrong = false; knots = k }; payload = out }

digit_is : (n : ℕ) → digit_letter (n % 10) ≡ 48 + n % 10
unfolding digit_letter
digit_is n = if_true (ltb (n % 10) 10) (48 + n % 10) (55 + n % 10) (lt-ltb (n % 10) 10 (omega arith))

is_digit_lem : (n : ℕ) → is_digit (48 + n % 10) ≡ true
unfolding is_digit
is_digit_lem n = simp (le-leb 48 (48 + n % 10) (omega arith), le-leb (48 + n % 10) 57 (omega arith))

-- one digit more
one_digit : (m s : Bool) (q n : ℕ) → q ≡ n / 10 → n < 1000000000 → fed (numbered m s q) (digit_letter (n % 10)) ≡ numbered m true n
unfolding fed fed_digit
one_digit m s q n e h =
    ap (fed (numbered m s q)) (digit_is n)
    ∙ simp (is_digit_lem n, lt-leb 100000000 q (omega (arith, e, h)))
    (ap (λ (z : ℕ). numbered m true z) (let w : 10 * q + (48 + n % 10) % 16 ≡ n = omega (arith, e) in w))

-- a letter that is neither a space nor a newline
pub within : (n volts : Number) (second : Bool) (k : ℕ) (out : List ℕ) (b : ℕ) → eqb b 10 ≡ false → eqb b 32 ≡ false
    → scan_more (at_number n volts second k out).scan b out ≡ at_number (fed n b) volts second k out
unfolding within_line
within n volts second k out b e f =
    step_within (at_number n volts second k out).scan b out refl e
    ∙ ap (λ (s : Scan). record { scan = s; payload = out }) (if_false (eqb b 32) (at_gap (at_number n volts second k out).scan) (next_letter (at_number n volts second k out).scan b) f)

-- a number of at most nine digits has as many as it is wide
width_holds : (n : ℕ) → n < 1000000000 → n < 10 ^ width_of n
unfolding width_of
width_holds n l =
    either (ltb n 10) 1 _ (λ e. ltb-true n 10 e) (λ e.
    either (ltb n 100) 2 _ (λ e. ltb-true n 100 e) (λ e.
    either (ltb n 1000) 3 _ (λ e. ltb-true n 1000 e) (λ e.
    either (ltb n 10000) 4 _ (λ e. ltb-true n 10000 e) (λ e.
    either (ltb n 100000) 5 _ (λ e. ltb-true n 100000 e) (λ e.
    either (ltb n 1000000) 6 _ (λ e. ltb-true n 1000000 e) (λ e.
    either (ltb n 10000000) 7 _ (λ e. ltb-true n 10000000 e) (λ e.
    either (ltb n 100000000) 8 _ (λ e. ltb-true n 100000000 e) (λ e.
    either (ltb n 1000000000) 9 10 (λ e. l) (λ e. absurd (unlike (sym (lt-ltb n 1000000000 l) ∙ e)))))))))))
  where
    either : (b : Bool) (x y : ℕ) → (b ≡ true → n < 10 ^ x) → (b ≡ false → n < 10 ^ y) → n < 10 ^ (if b then x else y)
    either b x y = if_ind (λ (w : ℕ). n < 10 ^ w) b x y

module _ (m : Bool) (volts : Number) (second : Bool) (k : ℕ) (out : List ℕ) where
  -- after so many digits
  so_far : ℕ → ℕ → Number
  so_far zero n = numbered m false 0
  so_far (suc w) n = numbered m true n

  next_digit : (w n : ℕ) → n < 10 ^ suc w → n < 1000000000 → fed (so_far w (n / 10)) (digit_letter (n % 10)) ≡ numbered m true n
  unfolding so_far
  next_digit zero n h l = one_digit m false 0 n (omega (arith, h)) l
  next_digit (suc w) n h l = one_digit m true (n / 10) n refl l

  digits : (w n : ℕ) (rest : List ℕ) → n < 10 ^ w → n < 1000000000
      → scan_all (spelled 10 w n rest) (at_number (numbered m false 0) volts second k out) ≡ scan_all rest (at_number (so_far w n) volts second k out)
  unfolding so_far
  digits zero n rest h l = refl
  digits (suc w) n rest h l =
      let d = digit_letter (n % 10) in
      let i = digits w (n / 10) (d ∷ rest) (less w n h) (omega (arith, l)) in
      let s = within (so_far w (n / 10)) volts second k out d (other n) (space n) in
      i ∙ ap (scan_all rest) (s ∙ ap (λ (z : Number). at_number z volts second k out) (next_digit w n h l))
    where
      less : (w n : ℕ) → n < 10 ^ suc w → n / 10 < 10 ^ w
      less w n h = let g : n < 10 ^ w * 10 = subst (λ (z : ℕ). n < z) (pow-suc 10 w) h in omega (arith, g)

      other : (n : ℕ) → eqb (digit_letter (n % 10)) 10 ≡ false
      other n = ap (λ (z : ℕ). eqb z 10) (digit_is n) ∙ ne_eqb (48 + n % 10) 10 (λ q. omega (arith, q))

      space : (n : ℕ) → eqb (digit_letter (n % 10)) 32 ≡ false
      space n = ap (λ (z : ℕ). eqb z 32) (digit_is n) ∙ ne_eqb (48 + n % 10) 32 (λ q. omega (arith, q))

  after_some : (w n : ℕ) → 0 < w → so_far w n ≡ numbered m true n
  unfolding so_far
  after_some zero n h = absurd (let z : ◌≡◌ {A = ℕ} 0 1 = omega (arith, h) in omega arith)
  after_some (suc w) n h = refl

  -- a whole number
  decimal : (n : ℕ) (rest : List ℕ) → n < 1000000000
      → scan_all (decimal_of n ++ rest) (at_number (numbered m false 0) volts second k out) ≡ scan_all rest (at_number (numbered m true n) volts second k out)
  unfolding decimal_of
  decimal n rest l =
      ap (λ (z : List ℕ). scan_all z (at_number (numbered m false 0) volts second k out)) (sym (before_rest 10 (width_of n) n [] rest))
      ∙ digits (width_of n) n rest (width_holds n l) l
      ∙ ap (λ (z : Number). scan_all rest (at_number z volts second k out)) (after_some (width_of n) n (width_some n).0)
    where
      before_rest : (base w n : ℕ) (after rest : List ℕ) → spelled base w n (after ++ rest) ≡ spelled base w n after ++ rest
      before_rest base zero n after rest = refl
      before_rest base (suc w) n after rest = before_rest base w (n / base) (digit_letter (n % base) ∷ after) rest

pub minus_fed : fed (numbered false false 0) 45 ≡ numbered true false 0
unfolding fed is_digit
minus_fed = refl

-- with its sign
pub number : (b : Bool) (n : ℕ) (volts : Number) (second : Bool) (k : ℕ) (out rest : List ℕ) → n < 1000000000
    → scan_all (signed_text b n ++ rest) (at_number (numbered false false 0) volts second k out) ≡ scan_all rest (at_number (numbered b true n) volts second k out)
number true n volts second k out rest l =
    ap (λ (z : List ℕ). scan_all (z ++ rest) (at_number (numbered false false 0) volts second k out)) (signed_true n)
    ∙ ap (scan_all (decimal_of n ++ rest)) (within (numbered false false 0) volts second k out 45 refl refl ∙ ap (λ (z : Number). at_number z volts second k out) minus_fed)
    ∙ decimal true volts second k out n rest l
number false n volts second k out rest l =
    ap (λ (z : List ℕ). scan_all (z ++ rest) (at_number (numbered false false 0) volts second k out)) (signed_false n) ∙ decimal false volts second k out n rest l
