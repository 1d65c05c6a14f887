-- A text has no more knots than letters, and what it says of a table counts one more line at most.
use mathlib.Core.Path.{◌≡◌, ap}
use mathlib.Core.List.{List, [], ◌∷◌}
use Prim.Native.Nat.{ℕ, ◌+◌, ◌≤◌}
use native.Mathlib.Omega.{arith}
use lib.Dec.{eqb}
use lib.ListN.{length}
use Rattle.std.specs.Prelude.{Result, Ok, Err, if◌then◌else◌}
use Rattle.common.proofs.Choice.{if_ind}
use Rattle.reading_text.specs.declared.Scan.{Scan}
use Rattle.reading_text.specs.declared.WrongLine.{WrongLine}
use Rattle.reading_text.specs.Tables.{Scanned, gap_wrong, line_wrong, scan_start, stopped_scan, next_number, next_line, next_letter, at_gap, within_line, with_knot, end_line, scan_more, scan_all, table_scanned, is_begun, table_read}

module _ (s : Scan) (out : List ℕ) where
  abbrev One : Scan → Type 0
  One t = t.knots ≤ s.knots + 1

  within_one : (b : ℕ) → One (within_line s b)
  unfolding within_line at_gap
  within_one b = if_ind One (eqb b 32) (if gap_wrong s then stopped_scan s else next_number s) (next_letter s b) (λ e. if_ind One (gap_wrong s) (stopped_scan s) (next_number s) (λ q. omega arith) (λ q. omega arith)) (λ e. omega arith)

  end_one : One (end_line s out).scan
  unfolding end_line
  end_one =
      if_ind (λ (q : Scanned). One q.scan) (line_wrong s (length out)) (record { scan = stopped_scan s; payload = out })
      (record { scan = next_line s; payload = with_knot out s.knots s.volts s.number }) (λ e. omega arith) (λ e. omega arith)

  scan_one : (b : ℕ) → One (scan_more s b out).scan
  unfolding scan_more
  scan_one b =
      if_ind (λ (q : Scanned). One q.scan) s.wrong (record { scan = s; payload = out }) (if eqb b 10 then end_line s out else record { scan = within_line s b; payload = out })
      (λ e. omega arith) (λ e. if_ind (λ (q : Scanned). One q.scan) (eqb b 10) (end_line s out) (record { scan = within_line s b; payload = out }) (λ q. end_one) (λ q. within_one b))

all_few : (bs : List ℕ) (q : Scanned) → (scan_all bs q).scan.knots ≤ q.scan.knots + length bs
all_few [] q = omega arith
all_few (b ∷ bs) q =
    let h = all_few bs (scan_more q.scan b q.payload) in
    let k = scan_one q.scan q.payload b in
    omega (arith, h, k)

pub table_few : (text out : List ℕ) → (table_scanned text out).scan.knots ≤ length text
unfolding table_scanned
table_few text out = let h = all_few text (record { scan = scan_start; payload = out }) in omega (arith, h)

-- what is counted
abbrev counted : Result ℕ WrongLine → ℕ
counted (Ok n) = n
counted (Err w) = w.line

counted_few : (s : Scan) → counted (table_read s) ≤ s.knots + 1
unfolding table_read
counted_few s =
    if_ind (λ (r : Result ℕ WrongLine). counted r ≤ s.knots + 1) s.wrong (Err (record { line = s.knots + 1 })) (if is_begun s then Err (record { line = s.knots + 1 }) else Ok s.knots) (λ e. omega arith)
    (λ e. if_ind (λ (r : Result ℕ WrongLine). counted r ≤ s.knots + 1) (is_begun s) (Err (record { line = s.knots + 1 })) (Ok s.knots) (λ q. omega arith) (λ q. omega arith))

module _ (text out : List ℕ) (h : length text ≤ 327679) where
  pub knots_few : (n : ℕ) → table_read (table_scanned text out).scan ≡ Ok n → n ≤ 327680
  knots_few n e =
      let c : counted (table_read (table_scanned text out).scan) ≡ n = ap counted e in
      let f = counted_few (table_scanned text out).scan in
      let t = table_few text out in
      omega (arith, c, f, t, h)

  pub line_few : (w : WrongLine) → table_read (table_scanned text out).scan ≡ Err w → w.line ≤ 327680
  line_few w e =
      let c : counted (table_read (table_scanned text out).scan) ≡ w.line = ap counted e in
      let f = counted_few (table_scanned text out).scan in
      let t = table_few text out in
      omega (arith, c, f, t, h)
