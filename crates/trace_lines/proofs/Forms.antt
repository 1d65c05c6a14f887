-- Lines and cycles: what is printed is read back, and what is read prints as itself.
use mathlib.Core.Path.{◌≡◌, refl, sym, ap, ◌∙◌, subst}
use mathlib.Core.Bool.{Bool, true, false, ◌&&◌}
use mathlib.Core.List.{List, [], ◌∷◌}
use mathlib.Core.Logic.{◌↔◌}
use Prim.Native.Nat.{ℕ, zero, suc, ◌+◌, ◌*◌, ◌/◌, ◌%◌, ◌≤◌, ◌<◌}
use native.Mathlib.Omega.{arith}
use native.Mathlib.Numerals.{add-one}
use lib.Dec.{eqb, ltb, leb}
use lib.ListN.{length, get_or, drop}
use lib.Seq.{drop-cons, drop-length}
use borrow.Author.Tests.{eqb-true, leb-true, lt-ltb, le-ltb, le-leb, lt-leb, ltb-true, ltb-false}
use Rattle.common.proofs.Choice.{if_true, if_false, and_left, and_right}
use Rattle.text.specs.Digits.{is_digit, is_hex, digit_of, hex_of, digit_letter}
use Rattle.model_types.specs.declared.Kind.{Kind}
use Rattle.model_types.specs.declared.Kind.TheVariants.{Read, Write, Idle}
use Rattle.model_types.specs.declared.Cycle.{Cycle}
use Rattle.std.specs.Prelude.{Some, None}
use Rattle.trace_lines.specs.Lines.{is_kind, is_at, fits, newline, line_form, is_line, kind_of, five_digits, four_hex, two_hex, cycle_stated, read_line, letter_for, decimal_digit, line_of, Fits}
use Rattle.trace_lines.proofs.Places.{both, form_length, form_at}

-- a line has 20 bytes
pub line_length : (xs : List ℕ) → is_line xs ≡ true → length xs ≡ 20
unfolding is_line
line_length xs e = form_length line_form xs e

-- a line has at each place what the form asks for there
placed : (xs : List ℕ) → is_line xs ≡ true → (i : ℕ) → ltb i 20 ≡ true → is_at (get_or line_form i newline) (get_or xs i 0) ≡ true
unfolding is_line
placed xs e i h = form_at newline line_form xs e i (ltb-true i 20 h)

-- a decimal digit
digit_good : (n : ℕ) → n < 10 → is_digit (48 + n) ≡ true
unfolding is_digit
digit_good n h = both (le-leb 48 (48 + n) (omega arith)) (le-leb (48 + n) 57 (omega arith))

digit_back : (n : ℕ) → n < 10 → digit_of (48 + n) ≡ n
digit_back n h = omega arith

digit_bounds : (b : ℕ) → is_digit b ≡ true → (48 ≤ b) × (b ≤ 57)
unfolding is_digit
digit_bounds b e = (leb-true 48 b (and_left (leb 48 b) (leb b 57) e), leb-true b 57 (and_right (leb 48 b) (leb b 57) e))

digit_form : (b : ℕ) → is_digit b ≡ true → 48 + digit_of b ≡ b
digit_form b e = let h = digit_bounds b e in omega arith

digit_small : (b : ℕ) → is_digit b ≡ true → digit_of b < 10
digit_small b e = let h = digit_bounds b e in omega arith

-- a hexadecimal digit
hex_good : (n : ℕ) → n < 16 → is_hex (digit_letter n) ≡ true
unfolding is_hex digit_letter is_digit
hex_good n h = go (ltb n 10) refl
  where
    go : (t : Bool) → ltb n 10 ≡ t → is_hex (digit_letter n) ≡ true
    go true e = let k : n < 10 = ltb-true n 10 e in simp (e, le-leb 48 (48 + n) (omega arith), le-leb (48 + n) 57 (omega arith))
    go false e = let k : 10 ≤ n = ltb-false n 10 e in simp (e, le-leb 48 (55 + n) (omega arith), lt-leb (55 + n) 57 (omega arith), le-leb 65 (55 + n) (omega arith), le-leb (55 + n) 70 (omega arith))

hex_back : (n : ℕ) → n < 16 → hex_of (digit_letter n) ≡ n
unfolding hex_of digit_letter
hex_back n h = go (ltb n 10) refl
  where
    go : (t : Bool) → ltb n 10 ≡ t → hex_of (digit_letter n) ≡ n
    go true e = let k : n < 10 = ltb-true n 10 e in simp (e, lt-ltb (48 + n) 65 (omega arith)) (omega arith)
    go false e = let k : 10 ≤ n = ltb-false n 10 e in simp (e, le-ltb (55 + n) 65 (omega arith)) (omega arith)

hex_form : (b : ℕ) → is_hex b ≡ true → digit_letter (hex_of b) ≡ b
unfolding is_hex hex_of digit_letter is_digit
hex_form b e = go (leb 48 b && leb b 57) refl
  where
    go : (t : Bool) → (leb 48 b && leb b 57) ≡ t → digit_letter (hex_of b) ≡ b
    go true d =
        let h : 48 ≤ b = leb-true 48 b (and_left (leb 48 b) (leb b 57) d) in
        let k : b ≤ 57 = leb-true b 57 (and_right (leb 48 b) (leb b 57) d) in
        simp (lt-ltb b 65 (omega arith), lt-ltb (b % 16) 10 (omega arith)) (omega arith)
    go false d =
        let f : (leb 65 b && leb b 70) ≡ true = rw d at e in
        let h : 65 ≤ b = leb-true 65 b (and_left (leb 65 b) (leb b 70) f) in
        let k : b ≤ 70 = leb-true b 70 (and_right (leb 65 b) (leb b 70) f) in
        simp (le-ltb b 65 (omega arith), le-ltb ((b + 9) % 16) 10 (omega arith)) (omega arith)

hex_small : (b : ℕ) → hex_of b < 16
unfolding hex_of
hex_small b = go (ltb b 65) refl
  where
    go : (t : Bool) → ltb b 65 ≡ t → hex_of b < 16
    go true e = simp e (omega arith)
    go false e = simp e (omega arith)

-- a kind
kind_good : (k : Kind) → is_kind (letter_for k) ≡ true
unfolding is_kind
kind_good Read = refl
kind_good Write = refl
kind_good Idle = refl

kind_back : (k : Kind) → kind_of (letter_for k) ≡ k
unfolding kind_of
kind_back Read = refl
kind_back Write = refl
kind_back Idle = refl

kind_form : (b : ℕ) → is_kind b ≡ true → letter_for (kind_of b) ≡ b
unfolding is_kind kind_of
kind_form b e = go (eqb b 82) (eqb b 87) refl refl
  where
    go : (s t : Bool) → eqb b 82 ≡ s → eqb b 87 ≡ t → letter_for (kind_of b) ≡ b
    go true t p q = simp p (sym (eqb-true b 82 p))
    go false true p q = simp (p, q) (sym (eqb-true b 87 q))
    go false false p q = let f : eqb b 73 ≡ true = rw (p, q) at e in simp (p, q) (sym (eqb-true b 73 f))

-- a number and its last digit
ten : (v q : ℕ) → q ≡ v / 10 → q * 10 + v % 10 ≡ v
ten v q e = omega arith

sixteen : (v q : ℕ) → q ≡ v / 16 → q * 16 + v % 16 ≡ v
sixteen v q e = omega arith

ten_front : (q r : ℕ) → r < 10 → (q * 10 + r) / 10 ≡ q
ten_front q r h = omega arith

ten_last : (q r : ℕ) → r < 10 → (q * 10 + r) % 10 ≡ r
ten_last q r h = omega arith

sixteen_front : (q r : ℕ) → r < 16 → (q * 16 + r) / 16 ≡ q
sixteen_front q r h = omega arith

sixteen_last : (q r : ℕ) → r < 16 → (q * 16 + r) % 16 ≡ r
sixteen_last q r h = omega arith

hundred : (v : ℕ) → v / 100 ≡ v / 10 / 10
hundred v = omega arith

thousand : (v : ℕ) → v / 1000 ≡ v / 100 / 10
thousand v = omega arith

myriad : (v : ℕ) → v / 10000 ≡ v / 1000 / 10
myriad v = omega arith

page : (v : ℕ) → v / 256 ≡ v / 16 / 16
page v = omega arith

section : (v : ℕ) → v / 4096 ≡ v / 256 / 16
section v = omega arith

-- the elements of a list one by one, k of them from place i on
spelled : ℕ → ℕ → List ℕ → List ℕ
spelled zero i xs = []
spelled (suc k) i xs = get_or xs i 0 ∷ spelled k (i + 1) xs

spelled_rest : (k i : ℕ) (xs : List ℕ) → i + k ≡ length xs → spelled k i xs ≡ drop i xs
unfolding spelled
spelled_rest zero i xs e = let h : i ≡ length xs = omega arith in sym (ap (λ (n : ℕ). drop n xs) h ∙ drop-length xs)
spelled_rest (suc k) i xs e =
    let h : i < length xs = omega arith in
    ap (λ (l : List ℕ). get_or xs i 0 ∷ l) (spelled_rest k (i + 1) xs (omega arith))
    ∙ ap (λ (n : ℕ). get_or xs i 0 ∷ drop n xs) (add-one i) ∙ sym (drop-cons xs i 0 h)

-- what is printed of a cycle that fits is a line, and states that cycle
five_back : (v : ℕ) → v < 100000
    → five_digits (decimal_digit (v / 10000)) (decimal_digit (v / 1000)) (decimal_digit (v / 100)) (decimal_digit (v / 10)) (decimal_digit v) ≡ v
five_back v h =
    let f : (n : ℕ) → digit_of (decimal_digit n) ≡ n % 10 = λ (n : ℕ). digit_back (n % 10) (omega arith) in
    let a : v / 10000 % 10 ≡ v / 1000 / 10 = omega (arith, myriad v) in
    let b : v / 10000 % 10 * 10 + v / 1000 % 10 ≡ v / 1000 = ten (v / 1000) (v / 10000 % 10) a in
    let c : (v / 10000 % 10 * 10 + v / 1000 % 10) * 10 + v / 100 % 10 ≡ v / 100 = ten (v / 100) (v / 10000 % 10 * 10 + v / 1000 % 10) (b ∙ thousand v) in
    let d : ((v / 10000 % 10 * 10 + v / 1000 % 10) * 10 + v / 100 % 10) * 10 + v / 10 % 10 ≡ v / 10 =
    ten (v / 10) ((v / 10000 % 10 * 10 + v / 1000 % 10) * 10 + v / 100 % 10) (c ∙ hundred v) in
    rw (f (v / 10000), f (v / 1000), f (v / 100), f (v / 10), f v) (ten v (((v / 10000 % 10 * 10 + v / 1000 % 10) * 10 + v / 100 % 10) * 10 + v / 10 % 10) d)

four_back : (v : ℕ) → v < 65536 → four_hex (digit_letter (v / 4096 % 16)) (digit_letter (v / 256 % 16)) (digit_letter (v / 16 % 16)) (digit_letter (v % 16)) ≡ v
four_back v h =
    let f : (n : ℕ) → hex_of (digit_letter (n % 16)) ≡ n % 16 = λ (n : ℕ). hex_back (n % 16) (omega arith) in
    let a : v / 4096 % 16 ≡ v / 256 / 16 = omega (arith, section v) in
    let b : v / 4096 % 16 * 16 + v / 256 % 16 ≡ v / 256 = sixteen (v / 256) (v / 4096 % 16) a in
    let c : (v / 4096 % 16 * 16 + v / 256 % 16) * 16 + v / 16 % 16 ≡ v / 16 = sixteen (v / 16) (v / 4096 % 16 * 16 + v / 256 % 16) (b ∙ page v) in
    rw (f (v / 4096), f (v / 256), f (v / 16), f v) (sixteen v ((v / 4096 % 16 * 16 + v / 256 % 16) * 16 + v / 16 % 16) c)

two_back : (v : ℕ) → v < 256 → two_hex (digit_letter (v / 16 % 16)) (digit_letter (v % 16)) ≡ v
two_back v h =
    let f : (n : ℕ) → hex_of (digit_letter (n % 16)) ≡ n % 16 = λ (n : ℕ). hex_back (n % 16) (omega arith) in
    rw (f (v / 16), f v) (sixteen v (v / 16 % 16) (omega arith))

printed_good : (c : Cycle) → Fits c → is_line (line_of c) ≡ true
unfolding is_line fits
printed_good c f =
    let d : (n : ℕ) → is_digit (decimal_digit n) ≡ true = λ (n : ℕ). digit_good (n % 10) (omega arith) in
    let h : (n : ℕ) → is_hex (digit_letter (n % 16)) ≡ true = λ (n : ℕ). hex_good (n % 16) (omega arith) in
    both (kind_good c.kind)
    (both (digit_good c.pins.rp f.0)
    (both (digit_good c.oe f.1)
    (both (d (c.pins.vpp / 10000)) (both (d (c.pins.vpp / 1000)) (both (d (c.pins.vpp / 100)) (both (d (c.pins.vpp / 10)) (both (d c.pins.vpp)
    (both (h (c.address / 4096)) (both (h (c.address / 256)) (both (h (c.address / 16)) (both (h c.address)
    (both (h (c.data / 16)) (both (h c.data) refl)))))))))))))

printed_cycle : (c : Cycle) → Fits c → cycle_stated (line_of c) ≡ c
unfolding cycle_stated
printed_cycle c f = λ i. record {
  kind = kind_back c.kind i;
  pins = record { rp = digit_back c.pins.rp f.0 i; vpp = five_back c.pins.vpp f.2 i; wp = sym f.5 i };
  oe = digit_back c.oe f.1 i;
  address = four_back c.address f.3 i;
  «data» = two_back c.data f.4 i;
}

pub read_back : (c : Cycle) → Fits c → read_line (line_of c) ≡ Some c
unfolding read_line
read_back c f =
    if_true (is_line (line_of c)) (Some (cycle_stated (line_of c))) None (printed_good c f) ∙ ap (λ (x : Cycle). Some x) (printed_cycle c f)

-- what a line states fits, and prints as the line
five_small : (a b c d e : ℕ) → is_digit a ≡ true → is_digit b ≡ true → is_digit c ≡ true → is_digit d ≡ true → is_digit e ≡ true → five_digits a b c d e < 100000
five_small a b c d e p q r s t = omega (arith, digit_small a p, digit_small b q, digit_small c r, digit_small d s, digit_small e t)

four_small : (a b c d : ℕ) → four_hex a b c d < 65536
four_small a b c d = omega (arith, hex_small a, hex_small b, hex_small c, hex_small d)

two_small : (a b : ℕ) → two_hex a b < 256
two_small a b = omega (arith, hex_small a, hex_small b)

line_fits : (xs : List ℕ) → is_line xs ≡ true → Fits (cycle_stated xs)
unfolding cycle_stated
line_fits xs e = (
  digit_small (get_or xs 2 0) (placed xs e 2 refl),
  digit_small (get_or xs 4 0) (placed xs e 4 refl),
  five_small (get_or xs 6 0) (get_or xs 7 0) (get_or xs 8 0) (get_or xs 9 0) (get_or xs 10 0) (placed xs e 6 refl) (placed xs e 7 refl) (placed xs e 8 refl) (placed xs e 9 refl) (placed xs e 10 refl),
  four_small (get_or xs 12 0) (get_or xs 13 0) (get_or xs 14 0) (get_or xs 15 0),
  two_small (get_or xs 17 0) (get_or xs 18 0),
  refl,
)

-- the digits of five digits
module _ (a b c d e : ℕ) (p : is_digit a ≡ true) (q : is_digit b ≡ true) (r : is_digit c ≡ true) (s : is_digit d ≡ true) (t : is_digit e ≡ true) where
  v1 : five_digits a b c d e / 10 ≡ ((digit_of a * 10 + digit_of b) * 10 + digit_of c) * 10 + digit_of d
  v1 = ten_front (((digit_of a * 10 + digit_of b) * 10 + digit_of c) * 10 + digit_of d) (digit_of e) (digit_small e t)

  v2 : five_digits a b c d e / 100 ≡ (digit_of a * 10 + digit_of b) * 10 + digit_of c
  v2 = hundred (five_digits a b c d e) ∙ ap (λ (n : ℕ). n / 10) v1 ∙ ten_front ((digit_of a * 10 + digit_of b) * 10 + digit_of c) (digit_of d) (digit_small d s)

  v3 : five_digits a b c d e / 1000 ≡ digit_of a * 10 + digit_of b
  v3 = thousand (five_digits a b c d e) ∙ ap (λ (n : ℕ). n / 10) v2 ∙ ten_front (digit_of a * 10 + digit_of b) (digit_of c) (digit_small c r)

  v4 : five_digits a b c d e / 10000 ≡ digit_of a
  v4 = myriad (five_digits a b c d e) ∙ ap (λ (n : ℕ). n / 10) v3 ∙ ten_front (digit_of a) (digit_of b) (digit_small b q)

  five_0 : decimal_digit (five_digits a b c d e / 10000) ≡ a
  five_0 = ap (λ (n : ℕ). 48 + n % 10) v4 ∙ ap (λ (n : ℕ). 48 + n) (let z : digit_of a % 10 ≡ digit_of a = omega (arith, digit_small a p) in z) ∙ digit_form a p

  five_1 : decimal_digit (five_digits a b c d e / 1000) ≡ b
  five_1 = ap (λ (n : ℕ). 48 + n % 10) v3 ∙ ap (λ (n : ℕ). 48 + n) (ten_last (digit_of a) (digit_of b) (digit_small b q)) ∙ digit_form b q

  five_2 : decimal_digit (five_digits a b c d e / 100) ≡ c
  five_2 = ap (λ (n : ℕ). 48 + n % 10) v2 ∙ ap (λ (n : ℕ). 48 + n) (ten_last (digit_of a * 10 + digit_of b) (digit_of c) (digit_small c r)) ∙ digit_form c r

  five_3 : decimal_digit (five_digits a b c d e / 10) ≡ d
  five_3 = ap (λ (n : ℕ). 48 + n % 10) v1 ∙ ap (λ (n : ℕ). 48 + n) (ten_last ((digit_of a * 10 + digit_of b) * 10 + digit_of c) (digit_of d) (digit_small d s)) ∙ digit_form d s

  five_4 : decimal_digit (five_digits a b c d e) ≡ e
  five_4 = ap (λ (n : ℕ). 48 + n) (ten_last (((digit_of a * 10 + digit_of b) * 10 + digit_of c) * 10 + digit_of d) (digit_of e) (digit_small e t)) ∙ digit_form e t

-- the digits of four
module _ (a b c d : ℕ) (p : is_hex a ≡ true) (q : is_hex b ≡ true) (r : is_hex c ≡ true) (s : is_hex d ≡ true) where
  w1 : four_hex a b c d / 16 ≡ (hex_of a * 16 + hex_of b) * 16 + hex_of c
  w1 = sixteen_front ((hex_of a * 16 + hex_of b) * 16 + hex_of c) (hex_of d) (hex_small d)

  w2 : four_hex a b c d / 256 ≡ hex_of a * 16 + hex_of b
  w2 = page (four_hex a b c d) ∙ ap (λ (n : ℕ). n / 16) w1 ∙ sixteen_front (hex_of a * 16 + hex_of b) (hex_of c) (hex_small c)

  w3 : four_hex a b c d / 4096 ≡ hex_of a
  w3 = section (four_hex a b c d) ∙ ap (λ (n : ℕ). n / 16) w2 ∙ sixteen_front (hex_of a) (hex_of b) (hex_small b)

  four_0 : digit_letter (four_hex a b c d / 4096 % 16) ≡ a
  four_0 = ap (λ (n : ℕ). digit_letter (n % 16)) w3 ∙ ap (λ (n : ℕ). digit_letter n) (let z : hex_of a % 16 ≡ hex_of a = omega (arith, hex_small a) in z) ∙ hex_form a p

  four_1 : digit_letter (four_hex a b c d / 256 % 16) ≡ b
  four_1 = ap (λ (n : ℕ). digit_letter (n % 16)) w2 ∙ ap (λ (n : ℕ). digit_letter n) (sixteen_last (hex_of a) (hex_of b) (hex_small b)) ∙ hex_form b q

  four_2 : digit_letter (four_hex a b c d / 16 % 16) ≡ c
  four_2 = ap (λ (n : ℕ). digit_letter (n % 16)) w1 ∙ ap (λ (n : ℕ). digit_letter n) (sixteen_last (hex_of a * 16 + hex_of b) (hex_of c) (hex_small c)) ∙ hex_form c r

  four_3 : digit_letter (four_hex a b c d % 16) ≡ d
  four_3 = ap (λ (n : ℕ). digit_letter n) (sixteen_last ((hex_of a * 16 + hex_of b) * 16 + hex_of c) (hex_of d) (hex_small d)) ∙ hex_form d s

two_0 : (a b : ℕ) → is_hex a ≡ true → digit_letter (two_hex a b / 16 % 16) ≡ a
two_0 a b p =
    ap (λ (n : ℕ). digit_letter (n % 16)) (sixteen_front (hex_of a) (hex_of b) (hex_small b))
    ∙ ap (λ (n : ℕ). digit_letter n) (let z : hex_of a % 16 ≡ hex_of a = omega (arith, hex_small a) in z) ∙ hex_form a p

two_1 : (a b : ℕ) → is_hex b ≡ true → digit_letter (two_hex a b % 16) ≡ b
two_1 a b q = ap (λ (n : ℕ). digit_letter n) (sixteen_last (hex_of a) (hex_of b) (hex_small b)) ∙ hex_form b q

line_spelled : (xs : List ℕ) → is_line xs ≡ true → line_of (cycle_stated xs) ≡ spelled 20 0 xs
unfolding cycle_stated spelled
line_spelled xs e = λ i.
    (kind_form (get_or xs 0 0) (placed xs e 0 refl) i)
    ∷ ((sym (eqb-true (get_or xs 1 0) 32 (placed xs e 1 refl))) i)
    ∷ (digit_form (get_or xs 2 0) (placed xs e 2 refl) i)
    ∷ ((sym (eqb-true (get_or xs 3 0) 32 (placed xs e 3 refl))) i)
    ∷ (digit_form (get_or xs 4 0) (placed xs e 4 refl) i)
    ∷ ((sym (eqb-true (get_or xs 5 0) 32 (placed xs e 5 refl))) i)
    ∷ (five_0 (get_or xs 6 0) (get_or xs 7 0) (get_or xs 8 0) (get_or xs 9 0) (get_or xs 10 0) (placed xs e 6 refl) (placed xs e 7 refl) (placed xs e 8 refl) (placed xs e 9 refl) (placed xs e 10 refl) i)
    ∷ (five_1 (get_or xs 6 0) (get_or xs 7 0) (get_or xs 8 0) (get_or xs 9 0) (get_or xs 10 0) (placed xs e 6 refl) (placed xs e 7 refl) (placed xs e 8 refl) (placed xs e 9 refl) (placed xs e 10 refl) i)
    ∷ (five_2 (get_or xs 6 0) (get_or xs 7 0) (get_or xs 8 0) (get_or xs 9 0) (get_or xs 10 0) (placed xs e 6 refl) (placed xs e 7 refl) (placed xs e 8 refl) (placed xs e 9 refl) (placed xs e 10 refl) i)
    ∷ (five_3 (get_or xs 6 0) (get_or xs 7 0) (get_or xs 8 0) (get_or xs 9 0) (get_or xs 10 0) (placed xs e 6 refl) (placed xs e 7 refl) (placed xs e 8 refl) (placed xs e 9 refl) (placed xs e 10 refl) i)
    ∷ (five_4 (get_or xs 6 0) (get_or xs 7 0) (get_or xs 8 0) (get_or xs 9 0) (get_or xs 10 0) (placed xs e 6 refl) (placed xs e 7 refl) (placed xs e 8 refl) (placed xs e 9 refl) (placed xs e 10 refl) i)
    ∷ ((sym (eqb-true (get_or xs 11 0) 32 (placed xs e 11 refl))) i)
    ∷ (four_0 (get_or xs 12 0) (get_or xs 13 0) (get_or xs 14 0) (get_or xs 15 0) (placed xs e 12 refl) (placed xs e 13 refl) (placed xs e 14 refl) (placed xs e 15 refl) i)
    ∷ (four_1 (get_or xs 12 0) (get_or xs 13 0) (get_or xs 14 0) (get_or xs 15 0) (placed xs e 12 refl) (placed xs e 13 refl) (placed xs e 14 refl) (placed xs e 15 refl) i)
    ∷ (four_2 (get_or xs 12 0) (get_or xs 13 0) (get_or xs 14 0) (get_or xs 15 0) (placed xs e 12 refl) (placed xs e 13 refl) (placed xs e 14 refl) (placed xs e 15 refl) i)
    ∷ (four_3 (get_or xs 12 0) (get_or xs 13 0) (get_or xs 14 0) (get_or xs 15 0) (placed xs e 12 refl) (placed xs e 13 refl) (placed xs e 14 refl) (placed xs e 15 refl) i)
    ∷ ((sym (eqb-true (get_or xs 16 0) 32 (placed xs e 16 refl))) i)
    ∷ (two_0 (get_or xs 17 0) (get_or xs 18 0) (placed xs e 17 refl) i)
    ∷ (two_1 (get_or xs 17 0) (get_or xs 18 0) (placed xs e 18 refl) i)
    ∷ ((sym (eqb-true (get_or xs 19 0) 10 (placed xs e 19 refl))) i)
    ∷ []

line_again : (xs : List ℕ) → is_line xs ≡ true → line_of (cycle_stated xs) ≡ xs
line_again xs e = line_spelled xs e ∙ spelled_rest 20 0 xs (let z : 0 + 20 ≡ length xs = sym (line_length xs e) in z)

-- a line that is read is of the form
pub read_good : (xs : List ℕ) (c : Cycle) → read_line xs ≡ Some c → (is_line xs ≡ true) × (cycle_stated xs ≡ c)
unfolding read_line
read_good xs c q = go (is_line xs) refl
  where
    go : (b : Bool) → is_line xs ≡ b → (is_line xs ≡ true) × (cycle_stated xs ≡ c)
    go true e = let z : Some (cycle_stated xs) ≡ Some c = sym (if_true (is_line xs) (Some (cycle_stated xs)) None e) ∙ q in (e, cc)
    go false e =
        let z : None ≡ Some c = sym (if_false (is_line xs) (Some (cycle_stated xs)) None e) ∙ q in
        absurd (let w : ◌≡◌ {A = ℕ} 0 1 = cc in omega arith)

pub read_prints : (xs : List ℕ) (c : Cycle) → read_line xs ≡ Some c → Fits c × (line_of c ≡ xs)
read_prints xs c q =
    let k = read_good xs c q in
    (subst (λ (x : Cycle). Fits x) k.1 (line_fits xs k.0), subst (λ (x : Cycle). line_of x ≡ xs) k.1 (line_again xs k.0))

pub read_exactly : (xs : List ℕ) (c : Cycle) → (read_line xs ≡ Some c) ↔ (Fits c × (line_of c ≡ xs))
read_exactly xs c = (
  read_prints xs c,
  λ (f : Fits c × (line_of c ≡ xs)). subst (λ (l : List ℕ). read_line l ≡ Some c) f.1 (read_back c f.0),
)

pub read_once : (c d : Cycle) → Fits c → Fits d → line_of c ≡ line_of d → c ≡ d
read_once c d f g e =
    let z : Some c ≡ Some d = sym (read_back c f) ∙ ap (λ (l : List ℕ). read_line l) e ∙ read_back d g in cc

pub line_read : (xs : List ℕ) → is_line xs ≡ true → read_line xs ≡ Some (cycle_stated xs)
unfolding read_line
line_read xs e = if_true (is_line xs) (Some (cycle_stated xs)) None e

unread : (xs : List ℕ) → is_line xs ≡ false → read_line xs ≡ None
unfolding read_line
unread xs e = if_false (is_line xs) (Some (cycle_stated xs)) None e

pub not_read : (xs : List ℕ) → (read_line xs ≡ None) ↔ ((c : Cycle) → Fits c → line_of c ≡ xs → ⊥)
not_read xs = (
  λ (e : read_line xs ≡ None) (c : Cycle) (f : Fits c) (q : line_of c ≡ xs).
      let z : Some c ≡ None = sym (read_back c f) ∙ ap (λ (l : List ℕ). read_line l) q ∙ e in
      let w : ◌≡◌ {A = ℕ} 0 1 = cc in omega arith,
  λ (h : (c : Cycle) → Fits c → line_of c ≡ xs → ⊥). go h (is_line xs) refl,
)
  where
    go : ((c : Cycle) → Fits c → line_of c ≡ xs → ⊥) → (b : Bool) → is_line xs ≡ b → read_line xs ≡ None
    go h true e = let k = read_prints xs (cycle_stated xs) (line_read xs e) in absurd (h (cycle_stated xs) k.0 k.1)
    go h false e = unread xs e
