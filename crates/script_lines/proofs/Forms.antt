-- Each line's printed form and its word, both ways.
use mathlib.Core.Path.{◌≡◌, refl, sym, ap, ◌∙◌}
use mathlib.Core.Bool.{true, false}
use mathlib.Core.List.{List, [], ◌∷◌, ◌++◌}
use Prim.Native.Nat.{ℕ, ◌+◌, ◌*◌, ◌/◌, ◌%◌, ◌≤◌, ◌<◌, min}
use native.Mathlib.Omega.{arith}
use lib.Dec.{eqb, leb}
use lib.ListN.{length, take, drop, length-take, take-append-drop}
use borrow.Author.Tests.{eqb-true, leb-true, ne_eqb, le-leb}
use Rattle.common.proofs.Choice.{and_left, and_right}
use Rattle.model_types.specs.declared.Kind.{Kind}
use Rattle.model_types.specs.declared.Kind.TheVariants.{Read, Write, Idle}
use Rattle.model_types.specs.declared.Cycle.{Cycle}
use Rattle.text.specs.Digits.{is_digit, digit_of}
use Rattle.trace_lines.specs.Lines.{Place, is_kind, fits, newline, line_form, is_line, decimal_digit, letter_for, line_of, Fits, cycle_stated}
use Rattle.trace_lines.proofs.Places.{both, form_length, form_at}
use Rattle.trace_lines.proofs.Claims.{read_exactly, read_once, line_read}
use Rattle.trace_lines.proofs.Forms.{read_good}
use Rattle.script_lines.specs.declared.Word.TheVariants.{Ends, Traced, Opens, Closes}
use Rattle.script_lines.specs.Scripts.{open_by, close_by}
use Rattle.script_lines.specs.Words.{open_form, close_form, is_traced, is_opening, is_closing, count_stated, word_in}
use Rattle.script_lines.proofs.Words.{traced_says, closes_says, opens_says}

-- a text that begins with a line of a form is as long
long : (ps : List Place) (text : List ℕ) → fits ps (take (length ps) text) ≡ true → length ps ≤ length text
long ps text e = let l : min (length ps) (length text) ≡ length ps = sym (length-take (length ps) text) ∙ form_length ps (take (length ps) text) e in omega arith

pub word_traced : (n : ℕ) (text : List ℕ) → word_in n text ≡ Traced → (1 ≤ n) × (20 ≤ length text)
unfolding is_traced is_line
word_traced n text h = let f = traced_says n text h in (f.0, long line_form text f.1)

pub word_closes : (n : ℕ) (text : List ℕ) → word_in n text ≡ Closes → (1 ≤ n) × (2 ≤ length text)
unfolding is_closing
word_closes n text h = let f = closes_says n text h in (f.0, long close_form text f.1)

-- ---- digits
digit_is : (x : ℕ) → is_digit x ≡ true → (digit_of x < 10) × (48 + digit_of x ≡ x)
unfolding is_digit
digit_is x h =
    let a = leb-true 48 x (and_left (leb 48 x) (leb x 57) h) in
    let b = leb-true x 57 (and_right (leb 48 x) (leb x 57) h) in
    (omega arith, omega arith)

ten_front : (q r : ℕ) → r < 10 → (q * 10 + r) / 10 ≡ q
ten_front q r h = omega arith

ten_last : (q r : ℕ) → r < 10 → (q * 10 + r) % 10 ≡ r
ten_last q r h = omega arith

hundred : (v : ℕ) → v / 100 ≡ v / 10 / 10
hundred v = omega arith

small : (a : ℕ) → a < 10 → a % 10 ≡ a
small a h = omega arith

-- the three digits of a number of three digits
module _ (a b c : ℕ) (p : a < 10) (q : b < 10) (r : c < 10) where
  three_0 : decimal_digit (((a * 10 + b) * 10 + c) / 100) ≡ 48 + a
  three_0 =
      ap (λ (n : ℕ). 48 + n % 10) (hundred ((a * 10 + b) * 10 + c) ∙ ap (λ (n : ℕ). n / 10) (ten_front (a * 10 + b) c r) ∙ ten_front a b q)
      ∙ ap (λ (n : ℕ). 48 + n) (small a p)

  three_1 : decimal_digit (((a * 10 + b) * 10 + c) / 10) ≡ 48 + b
  three_1 = ap (λ (n : ℕ). 48 + n % 10) (ten_front (a * 10 + b) c r) ∙ ap (λ (n : ℕ). 48 + n) (ten_last a b q)

  three_2 : decimal_digit ((a * 10 + b) * 10 + c) ≡ 48 + c
  three_2 = ap (λ (n : ℕ). 48 + n) (ten_last (a * 10 + b) c r)

  three_low : (a * 10 + b) * 10 + c ≤ 999
  three_low = omega arith

digit_back : (v : ℕ) → digit_of (decimal_digit v) ≡ v % 10
digit_back v = omega arith

digit_good : (v : ℕ) → is_digit (decimal_digit v) ≡ true
unfolding is_digit
digit_good v = both (le-leb 48 (48 + v % 10) (omega arith)) (le-leb (48 + v % 10) 57 (omega arith))

split : (m : ℕ) → m / 10 * 10 + m % 10 ≡ m
split m = omega arith

low : (m : ℕ) → m ≤ 999 → m / 10 / 10 ≤ 9
low m l = omega arith

-- a count up to 999 is read back
count_back : (m : ℕ) → m ≤ 999 → (digit_of (decimal_digit (m / 100)) * 10 + digit_of (decimal_digit (m / 10))) * 10 + digit_of (decimal_digit m) ≡ m
count_back m l =
    let h : m / 100 % 10 ≡ m / 10 / 10 = ap (λ (n : ℕ). n % 10) (hundred m) ∙ small (m / 10 / 10) (let z = low m l in omega arith) in
    ap (λ (n : ℕ). (n * 10 + digit_of (decimal_digit (m / 10))) * 10 + digit_of (decimal_digit m)) (digit_back (m / 100) ∙ h)
    ∙ ap (λ (n : ℕ). (m / 10 / 10 * 10 + n) * 10 + digit_of (decimal_digit m)) (digit_back (m / 10))
    ∙ ap (λ (n : ℕ). n * 10 + digit_of (decimal_digit m)) (split (m / 10))
    ∙ ap (λ (n : ℕ). m / 10 * 10 + n) (digit_back m)
    ∙ split m

-- two counts that print alike are one
pub same_count : (m n : ℕ) → m ≤ 999 → n ≤ 999 → (x y : List ℕ) → open_by m ++ x ≡ open_by n ++ y → m ≡ n
same_count m n a b x y e =
    sym (count_back m a) ∙ ap (λ (l : List ℕ). count_stated l) e ∙ count_back n b

-- ---- from the word to the text
pub closes_text : (n : ℕ) (text : List ℕ) → word_in n text ≡ Closes → text ≡ close_by ++ drop 2 text
unfolding is_closing
closes_text n text h = go text (closes_says n text h).1 (word_closes n text h).1 where
  go : (text : List ℕ) → fits close_form (take 2 text) ≡ true → 2 ≤ length text → text ≡ close_by ++ drop 2 text
  go [] e l = absurd (omega arith)
  go (a ∷ []) e l = absurd (omega arith)
  go (a ∷ b ∷ xs) e l = λ i.
      (eqb-true a 41 (form_at newline close_form (a ∷ b ∷ []) e 0 (omega arith)) i)
      ∷ (eqb-true b 10 (form_at newline close_form (a ∷ b ∷ []) e 1 (omega arith)) i)
      ∷ xs

opening : (text : List ℕ) → is_opening text ≡ true → (6 ≤ length text) × (count_stated text ≤ 999) × (text ≡ open_by (count_stated text) ++ drop 6 text)
unfolding is_opening
opening text e = go text e (long open_form text e) where
  go : (text : List ℕ) → fits open_form (take 6 text) ≡ true → 6 ≤ length text → (6 ≤ length text) × (count_stated text ≤ 999) × (text ≡ open_by (count_stated text) ++ drop 6 text)
  go [] e l = absurd (omega arith)
  go (a ∷ []) e l = absurd (omega arith)
  go (a ∷ b ∷ []) e l = absurd (omega arith)
  go (a ∷ b ∷ c ∷ []) e l = absurd (omega arith)
  go (a ∷ b ∷ c ∷ d ∷ []) e l = absurd (omega arith)
  go (a ∷ b ∷ c ∷ d ∷ f ∷ []) e l = absurd (omega arith)
  go (a ∷ b ∷ c ∷ d ∷ f ∷ g ∷ xs) e l =
      let c' = digit_is c (form_at newline open_form (a ∷ b ∷ c ∷ d ∷ f ∷ g ∷ []) e 2 (omega arith)) in
      let d' = digit_is d (form_at newline open_form (a ∷ b ∷ c ∷ d ∷ f ∷ g ∷ []) e 3 (omega arith)) in
      let f' = digit_is f (form_at newline open_form (a ∷ b ∷ c ∷ d ∷ f ∷ g ∷ []) e 4 (omega arith)) in
      let a' : a ≡ 40 = eqb-true a 40 (form_at newline open_form (a ∷ b ∷ c ∷ d ∷ f ∷ g ∷ []) e 0 (omega arith)) in
      let b' : b ≡ 32 = eqb-true b 32 (form_at newline open_form (a ∷ b ∷ c ∷ d ∷ f ∷ g ∷ []) e 1 (omega arith)) in
      let g' : g ≡ 10 = eqb-true g 10 (form_at newline open_form (a ∷ b ∷ c ∷ d ∷ f ∷ g ∷ []) e 5 (omega arith)) in
      let x : c ≡ decimal_digit (((digit_of c * 10 + digit_of d) * 10 + digit_of f) / 100) = sym (three_0 (digit_of c) (digit_of d) (digit_of f) c'.0 d'.0 f'.0 ∙ c'.1) in
      let y : d ≡ decimal_digit (((digit_of c * 10 + digit_of d) * 10 + digit_of f) / 10) = sym (three_1 (digit_of c) (digit_of d) (digit_of f) c'.0 d'.0 f'.0 ∙ d'.1) in
      let z : f ≡ decimal_digit ((digit_of c * 10 + digit_of d) * 10 + digit_of f) = sym (three_2 (digit_of c) (digit_of d) (digit_of f) c'.0 d'.0 f'.0 ∙ f'.1) in
      (l, three_low (digit_of c) (digit_of d) (digit_of f) c'.0 d'.0 f'.0, λ i. a' i ∷ b' i ∷ x i ∷ y i ∷ z i ∷ g' i ∷ xs)

pub word_opens : (n : ℕ) (text : List ℕ) (v : ℕ) → word_in n text ≡ Opens v → (1 ≤ n) × (6 ≤ length text) × (v ≤ 999) × (1 ≤ v)
word_opens n text v h =
    let f = opens_says n text v h in let o = opening text f.1 in
    let e = f.2 in let k = o.1 in
    (f.0, o.0, omega arith, f.3)

pub opens_text : (n : ℕ) (text : List ℕ) (v : ℕ) → word_in n text ≡ Opens v → text ≡ open_by v ++ drop 6 text
opens_text n text v h =
    let f = opens_says n text v h in
    (opening text f.1).2 ∙ ap (λ (m : ℕ). open_by m ++ drop 6 text) f.2

pub traced_text : (n : ℕ) (text : List ℕ) → word_in n text ≡ Traced → (text ≡ line_of (cycle_stated (take 20 text)) ++ drop 20 text) × Fits (cycle_stated (take 20 text))
unfolding is_traced
traced_text n text h =
    let e = (traced_says n text h).1 in
    let r = (read_exactly (take 20 text) (cycle_stated (take 20 text))).0 (line_read (take 20 text) e) in
    (sym (take-append-drop 20 text) ∙ ap (λ (l : List ℕ). l ++ drop 20 text) (sym r.1), r.0)

-- ---- from the printed form to the word
full : (n : ℕ) → 1 ≤ n → eqb n 0 ≡ false
full n l = ne_eqb n 0 (λ z. absurd (omega arith))

-- a printed cycle is a line, and states it
pub printed_line : (c : Cycle) → Fits c → (is_line (line_of c) ≡ true) × (cycle_stated (line_of c) ≡ c)
printed_line c f = read_good (line_of c) c ((read_exactly (line_of c) c).1 (f, refl))

pub traced_word : (n : ℕ) (c : Cycle) (text : List ℕ) → 1 ≤ n → Fits c → word_in n (line_of c ++ text) ≡ Traced
unfolding word_in is_traced
traced_word n c text l f = simp (full n l, full (length (line_of c ++ text)) (omega arith), (printed_line c f).0)

pub closes_word : (n : ℕ) (text : List ℕ) → 1 ≤ n → word_in n (close_by ++ text) ≡ Closes
unfolding word_in is_traced is_line is_kind is_closing fits
closes_word n text l = simp (full n l, full (length (close_by ++ text)) (omega arith))

opening_form : (m : ℕ) (text : List ℕ) → is_opening (open_by m ++ text) ≡ true
unfolding is_opening fits
opening_form m text = simp (digit_good (m / 100), digit_good (m / 10), digit_good m)

not_traced : (m : ℕ) (text : List ℕ) → is_traced (open_by m ++ text) ≡ false
unfolding is_traced is_line fits is_kind
not_traced m text = refl

not_closing : (m : ℕ) (text : List ℕ) → is_closing (open_by m ++ text) ≡ false
unfolding is_closing fits
not_closing m text = refl

pub opens_word : (n m : ℕ) (text : List ℕ) → 1 ≤ n → 1 ≤ m → m ≤ 999 → word_in n (open_by m ++ text) ≡ Opens m
unfolding word_in
opens_word n m text l a b =
    simp (full n l, full (length (open_by m ++ text)) (omega arith), not_traced m text, not_closing m text, opening_form m text, count_back m b, full m a)

pub empty_word : (n : ℕ) → word_in n [] ≡ Ends
unfolding word_in
empty_word n = refl

-- ---- two lines that begin alike
-- a trace line begins with a letter
pub line_high : (c : Cycle) → 73 ≤ letter_for c.kind
line_high c = go c.kind where
  go : (k : Kind) → 73 ≤ letter_for k
  go Read = omega arith
  go Write = omega arith
  go Idle = omega arith

pub same_line : (c d : Cycle) (x y : List ℕ) → Fits c → Fits d → line_of c ++ x ≡ line_of d ++ y → (c ≡ d) × (x ≡ y)
same_line c d x y f g e = (read_once c d f g (ap (λ (l : List ℕ). take 20 l) e), ap (λ (l : List ℕ). drop 20 l) e)
