-- The digits of a record line: what is known of trace lines, asked of a trace line that holds them.
use mathlib.Core.Path.{◌≡◌, refl, ap}
use mathlib.Core.Bool.{true}
use mathlib.Core.List.{List, [], ◌∷◌}
use Prim.Native.Nat.{ℕ, ◌/◌, ◌%◌, ◌<◌}
use native.Mathlib.Omega.{arith}
use lib.ListN.{get_or}
use Rattle.model_types.specs.declared.Cycle.{Cycle}
use Rattle.model_types.specs.declared.Kind.TheVariants.{Read}
use Rattle.trace_lines.specs.Lines.{is_at, is_kind, is_line, fits, line_form, newline, five_digits, two_hex, cycle_as, cycle_stated, decimal_digit, line_of, Fits}
use Rattle.text.specs.Digits.{is_digit, is_hex, digit_letter}
use Rattle.trace_lines.proofs.Places.{both, form_at}
use Rattle.trace_lines.proofs.Forms.{read_back, read_good, read_prints, line_read}

-- a cycle that fits: its line is one, and states it
pub printed : (c : Cycle) → Fits c → (is_line (line_of c) ≡ true) × (cycle_stated (line_of c) ≡ c)
printed c f = read_good (line_of c) c (read_back c f)

-- a line: what it states fits, and prints as it
pub again : (xs : List ℕ) → is_line xs ≡ true → Fits (cycle_stated xs) × (line_of (cycle_stated xs) ≡ xs)
again xs e = read_prints xs (cycle_stated xs) (line_read xs e)

-- a cycle that holds a count and a byte
module _ (n w : ℕ) (p : n < 100000) (q : w < 256) where
  abbrev holder : Cycle
  holder = cycle_as Read 0 0 n 0 w

  held : (is_line (line_of holder) ≡ true) × (cycle_stated (line_of holder) ≡ holder)
  held = printed holder (omega arith, omega arith, p, omega arith, q, refl)

  pub five_back : five_digits (decimal_digit (n / 10000)) (decimal_digit (n / 1000)) (decimal_digit (n / 100)) (decimal_digit (n / 10)) (decimal_digit n) ≡ n
  unfolding cycle_stated
  five_back = ap (λ (c : Cycle). c.pins.vpp) held.1

  pub two_back : two_hex (digit_letter (w / 16 % 16)) (digit_letter (w % 16)) ≡ w
  unfolding cycle_stated
  two_back = ap (λ (c : Cycle). c.data) held.1

  pub placed : (i : ℕ) → i < 20 → is_at (get_or line_form i newline) (get_or (line_of holder) i 0) ≡ true
  unfolding is_line
  placed i h = form_at newline line_form (line_of holder) held.0 i h

-- a line that holds digits
module _ (a b c d e x y : ℕ) (p : is_digit a ≡ true) (q : is_digit b ≡ true) (r : is_digit c ≡ true) (s : is_digit d ≡ true) (t : is_digit e ≡ true) (u : is_hex x ≡ true) (v : is_hex y ≡ true) where
  abbrev line : List ℕ
  line = 82 ∷ 32 ∷ 48 ∷ 32 ∷ 48 ∷ 32 ∷ a ∷ b ∷ c ∷ d ∷ e ∷ 32 ∷ 48 ∷ 48 ∷ 48 ∷ 48 ∷ 32 ∷ x ∷ y ∷ 10 ∷ []

  good : is_line line ≡ true
  unfolding is_line fits is_kind is_digit is_hex
  good = both p (both q (both r (both s (both t (both u (both v refl))))))

  -- the digits of the number that they count, and of the byte
  pub digits : (five_digits a b c d e < 100000) × (two_hex x y < 256)
      × (decimal_digit (five_digits a b c d e / 10000) ≡ a) × (decimal_digit (five_digits a b c d e / 1000) ≡ b) × (decimal_digit (five_digits a b c d e / 100) ≡ c)
      × (decimal_digit (five_digits a b c d e / 10) ≡ d) × (decimal_digit (five_digits a b c d e) ≡ e)
      × (digit_letter (two_hex x y / 16 % 16) ≡ x) × (digit_letter (two_hex x y % 16) ≡ y)
  unfolding cycle_stated
  digits =
      let k = again line good in
      let l = k.1 in (
        k.0.2,
        k.0.4,
        ap (λ (z : List ℕ). get_or z 6 0) l,
        ap (λ (z : List ℕ). get_or z 7 0) l,
        ap (λ (z : List ℕ). get_or z 8 0) l,
        ap (λ (z : List ℕ). get_or z 9 0) l,
        ap (λ (z : List ℕ). get_or z 10 0) l,
        ap (λ (z : List ℕ). get_or z 17 0) l,
        ap (λ (z : List ℕ). get_or z 18 0) l,
      )
