-- A text letter by letter: one letter more, the end, and how large a number and a scan grow.
use mathlib.Core.Path.{◌≡◌, refl, sym, ◌∙◌, ap, ap₂}
use mathlib.Core.Bool.{true, false, not, ◌||◌}
use mathlib.Core.List.{List, [], ◌∷◌, append-nil, ◌++◌}
use Prim.Native.Nat.{ℕ, ◌+◌, ◌-◌, ◌*◌, ◌/◌, ◌%◌, ◌≤◌, ◌<◌}
use native.Mathlib.Omega.{arith}
use native.Mathlib.Numerals.{add-one}
use lib.Dec.{leb, eqb}
use lib.ListN.{length, get_or, take, drop, drop_of_length-le}
use lib.Seq.{drop-cons}
use borrow.Author.Tests.{leb-false}
use borrow.Rule.Slice.PartMut.{put_mid}
use Rattle.std.specs.List.{fold}
use Rattle.std.specs.Prelude.{if◌then◌else◌}
use Rattle.common.specs.Lists.{overlaid}
use Rattle.common.proofs.Choice.{if_ind, if_true, if_false, or_right}
use Rattle.reading_text.specs.declared.Number.{Number}
use Rattle.reading_text.specs.declared.Scan.{Scan}
use Rattle.text.specs.Digits.{is_digit}
use Rattle.reading_text.specs.Numbers.{fed_digit, fed_minus, fed_other, fed, fed_all, number_start, number_fed, is_number}
use Rattle.reading_text.specs.Tables.{Scanned, line_wrong, fits_tenths, gap_wrong, stopped_scan, next_number, next_line, next_letter, at_gap, within_line, end_line, with_knot, scan_more, scan_all, six_of}

-- numbers
pub fed_fold : (n : Number) (bs : List ℕ) → fold fed n bs ≡ fed_all n bs
fed_fold n [] = refl
fed_fold n (b ∷ bs) = fed_fold (fed n b) bs

-- a number stays small
abbrev Small : Number → Type 0
Small n = n.size < 2147483648

digit_small : (n : Number) (b : ℕ) → Small (fed_digit n b)
unfolding fed_digit
digit_small n b =
    if_ind Small (leb 100000000 n.size) (record { minus = n.minus; some = true; none = true; size = 0 }) (record { minus = n.minus; some = true; none = n.none; size = 10 * n.size + b % 16 })
    (λ e. omega arith)
    (λ e. let l = leb-false 100000000 n.size e in omega (arith, l))

fed_small : (n : Number) (b : ℕ) → Small n → Small (fed n b)
unfolding fed
fed_small n b h = if_ind Small (is_digit b) (fed_digit n b) (if eqb b 45 then fed_minus n else fed_other n) (λ e. digit_small n b) (λ e. if_ind Small (eqb b 45) (fed_minus n) (fed_other n) (λ q. h) (λ q. h))

all_small : (n : Number) (bs : List ℕ) → Small n → Small (fed_all n bs)
all_small n [] h = h
all_small n (b ∷ bs) h = all_small (fed n b) bs (fed_small n b h)

pub number_small : (bs : List ℕ) → (number_fed bs).size < 2147483648
unfolding number_fed
number_small bs = all_small number_start bs (omega arith)

-- tables
pub step_next : (q : Scanned) (bs : List ℕ) (i : ℕ) → i < length bs → scan_all (drop i bs) q ≡ scan_all (drop (i + 1) bs) (scan_more q.scan (get_or bs i 0) q.payload)
step_next q bs i h = rw (add-one i, drop-cons bs i 0 h) refl

pub step_end : (q : Scanned) (bs : List ℕ) (i : ℕ) → length bs ≤ i → scan_all (drop i bs) q ≡ q
step_end q bs i h = rw (drop_of_length-le bs {i = i} h) refl

-- a line that is not wrong has room for its knot
pub line_room : (s : Scan) (room : ℕ) → line_wrong s room ≡ false → s.knots < room / 6
unfolding line_wrong
line_room s room e = leb-false (room / 6) s.knots (or_right ((not s.second || not (is_number s.number)) || not (fits_tenths s.number)) (leb (room / 6) s.knots) e)

-- no more knots than there is room for
module _ (s : Scan) (out : List ℕ) (h : s.knots ≤ length out / 6) where
  abbrev Few : Scan → Type 0
  Few t = t.knots ≤ length out / 6

  within_few : (b : ℕ) → Few (within_line s b)
  unfolding within_line at_gap
  within_few b = if_ind Few (eqb b 32) (if gap_wrong s then stopped_scan s else next_number s) (next_letter s b) (λ e. if_ind Few (gap_wrong s) (stopped_scan s) (next_number s) (λ q. h) (λ q. h)) (λ e. h)

  end_few : Few (end_line s out).scan
  unfolding end_line
  end_few =
      if_ind (λ (q : Scanned). Few q.scan) (line_wrong s (length out)) (record { scan = stopped_scan s; payload = out })
      (record { scan = next_line s; payload = with_knot out s.knots s.volts s.number }) (λ e. h)
      (λ e. let l = line_room s (length out) e in omega (arith, l))

  pub step_few : (b : ℕ) → Few (scan_more s b out).scan
  unfolding scan_more
  step_few b =
      if_ind (λ (q : Scanned). Few q.scan) s.wrong (record { scan = s; payload = out }) (if eqb b 10 then end_line s out else record { scan = within_line s b; payload = out })
      (λ e. h) (λ e. if_ind (λ (q : Scanned). Few q.scan) (eqb b 10) (end_line s out) (record { scan = within_line s b; payload = out }) (λ q. end_few) (λ q. within_few b))

-- each way out of a line and of a step
pub end_wrong : (s : Scan) (out : List ℕ) → line_wrong s (length out) ≡ true → end_line s out ≡ record { scan = stopped_scan s; payload = out }
unfolding end_line
end_wrong s out e = if_true (line_wrong s (length out)) (record { scan = stopped_scan s; payload = out }) (record { scan = next_line s; payload = with_knot out s.knots s.volts s.number }) e

pub end_right : (s : Scan) (out : List ℕ) → line_wrong s (length out) ≡ false → end_line s out ≡ record { scan = next_line s; payload = with_knot out s.knots s.volts s.number }
unfolding end_line
end_right s out e = if_false (line_wrong s (length out)) (record { scan = stopped_scan s; payload = out }) (record { scan = next_line s; payload = with_knot out s.knots s.volts s.number }) e

pub step_wrong : (s : Scan) (b : ℕ) (out : List ℕ) → s.wrong ≡ true → scan_more s b out ≡ record { scan = s; payload = out }
unfolding scan_more
step_wrong s b out e = if_true s.wrong (record { scan = s; payload = out }) (if eqb b 10 then end_line s out else record { scan = within_line s b; payload = out }) e

pub step_line : (s : Scan) (b : ℕ) (out : List ℕ) → s.wrong ≡ false → eqb b 10 ≡ true → scan_more s b out ≡ end_line s out
unfolding scan_more
step_line s b out e f =
    if_false s.wrong (record { scan = s; payload = out }) (if eqb b 10 then end_line s out else record { scan = within_line s b; payload = out }) e
    ∙ if_true (eqb b 10) (end_line s out) (record { scan = within_line s b; payload = out }) f

pub step_within : (s : Scan) (b : ℕ) (out : List ℕ) → s.wrong ≡ false → eqb b 10 ≡ false → scan_more s b out ≡ record { scan = within_line s b; payload = out }
unfolding scan_more
step_within s b out e f =
    if_false s.wrong (record { scan = s; payload = out }) (if eqb b 10 then end_line s out else record { scan = within_line s b; payload = out }) e
    ∙ if_false (eqb b 10) (end_line s out) (record { scan = within_line s b; payload = out }) f

-- a part put back
pub put_over : (xs ys : List ℕ) (a k : ℕ) → length ys ≡ k → put_mid a k xs ys ≡ overlaid xs a ys
put_over xs ys a k h = ap (λ (n : ℕ). take a xs ++ (ys ++ drop n (drop a xs))) (sym h)

-- all six bytes written leave those six
pub six_only : (ys xs : List ℕ) → length xs ≤ length ys → take 0 xs ++ (ys ++ drop (0 + length ys) xs) ≡ ys
six_only ys xs h = ap (λ (z : List ℕ). ys ++ z) (drop_of_length-le xs {i = 0 + length ys} (omega (arith, h))) ∙ append-nil ys

pub put_knot_over : (xs ys : List ℕ) (k v t v' t' : ℕ) → ys ≡ six_of v t → v ≡ v' → t ≡ t' → put_mid (6 * k) (6 * k + 6 - 6 * k) xs ys ≡ overlaid xs (6 * k) (six_of v' t')
put_knot_over xs ys k v t v' t' e a b =
    let l : length ys ≡ 6 * k + 6 - 6 * k = ap length e ∙ (let q : 6 ≡ 6 * k + 6 - 6 * k = omega arith in q) in
    put_over xs ys (6 * k) (6 * k + 6 - 6 * k) l ∙ ap (overlaid xs (6 * k)) (e ∙ ap₂ six_of a b)
