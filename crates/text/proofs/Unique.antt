-- Two results that a promise of this crate allows are equal, and so is what it leaves in the slice lent.
use mathlib.Core.Path.{◌≡◌}
use mathlib.Core.Bool.{Bool}
use mathlib.Core.List.{List, []}
use Prim.Native.Nat.{ℕ, ◌%◌, ◌<◌}
use lib.ListN.{length, set}
use Rattle.common.specs.Choice.{Unique}
use Rattle.common.proofs.Choice.{only}
use Rattle.text.specs.Digits.{is_digit, is_hex, digit_of, hex_of, digit_letter, spelled, decimal_of}
use Rattle.text.specs.Writing.{laid_at, behind}

pub is_digit_unique : (b : ℕ) → Unique (λ (r : Bool). r ≡ is_digit b)
is_digit_unique b = only (is_digit b)

pub is_hex_unique : (b : ℕ) → Unique (λ (r : Bool). r ≡ is_hex b)
is_hex_unique b = only (is_hex b)

pub digit_unique : (b : ℕ) → Unique (λ (r : ℕ). r ≡ digit_of b)
digit_unique b = only (digit_of b)

pub hex_digit_unique : (b : ℕ) → Unique (λ (r : ℕ). (r ≡ hex_of b) × (r < 16))
hex_digit_unique b r q p t = only (hex_of b) r q p.0 t.0

pub letter_unique : (d : ℕ) → Unique (λ (r : ℕ). r ≡ digit_letter (d % 16))
letter_unique d = only (digit_letter (d % 16))

pub decimal_unique : (out : List ℕ) (x : ℕ) → Unique (λ (left : List ℕ). left ≡ spelled 10 (length out) x [])
decimal_unique out x = only (spelled 10 (length out) x [])

pub hex_unique : (out : List ℕ) (x : ℕ) → Unique (λ (left : List ℕ). left ≡ spelled 16 (length out) x [])
hex_unique out x = only (spelled 16 (length out) x [])

pub put_unique : (s : List ℕ) (at b : ℕ) → Unique (λ (left : List ℕ). left ≡ set s at b)
put_unique s at b = only (set s at b)

pub put_text_unique : (out : List ℕ) (at : ℕ) (text : List ℕ) → Unique (λ (r : ℕ). r ≡ behind out at text)
put_text_unique out at text = only (behind out at text)

pub put_text_left_unique : (out : List ℕ) (at : ℕ) (text : List ℕ) → Unique (λ (left : List ℕ). left ≡ laid_at out at text)
put_text_left_unique out at text = only (laid_at out at text)

pub put_decimal_unique : (out : List ℕ) (at n : ℕ) → Unique (λ (r : ℕ). r ≡ behind out at (decimal_of n))
put_decimal_unique out at n = only (behind out at (decimal_of n))

pub put_decimal_left_unique : (out : List ℕ) (at n : ℕ) → Unique (λ (left : List ℕ). left ≡ laid_at out at (decimal_of n))
put_decimal_left_unique out at n = only (laid_at out at (decimal_of n))
