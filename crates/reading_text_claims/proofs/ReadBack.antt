-- A table that was printed is read again, line by line.
use mathlib.Core.Path.{◌≡◌, sym, ap, ap₂, ◌∙◌}
use mathlib.Core.List.{List, ◌++◌}
use Prim.Native.Nat.{ℕ, zero, suc, ◌+◌, ◌-◌, ◌*◌, ◌/◌, ◌≤◌, ◌<◌}
use native.Mathlib.Omega.{arith}
use lib.Dec.{leb}
use lib.IntN.{nat_abs}
use lib.ListN.{length, take, drop, length-append, length-drop}
use lib.Seq.{length-take-le, take_all}
use borrow.Author.Tests.{lt-leb}
use borrow.Rule.Slice.PartMut.{put_mid}
use Rattle.common.specs.Lists.{Bytes, overlaid, overwritten}
use Rattle.common.proofs.Choice.{if_false}
use Rattle.common.proofs.Pieces.{overwritten_piece}
use Rattle.reading_table.specs.Table.{knots, volts_of, tenths_of}
use Rattle.reading_table.proofs.Knots.{tenths_size}
use Rattle.std.specs.Prelude.{Ok}
use Rattle.reading_text.specs.Tables.{Scanned, six_of, bits_of, with_knot, scan_all, table_scanned, is_begun, table_read}
use Rattle.reading_text.proofs.Walks.{put_over}
use Rattle.reading_claims.specs.Tables.{Table}
use Rattle.reading_claims.proofs.Judged.{size}
use Rattle.table_text.specs.Printed.{lines_of, table_text}
use Rattle.reading_text_claims.proofs.Lines.{wholly, at_line, line, knot_bytes, tenths_fit_lem}

module _ (p out : List ℕ) (bytes : Bytes p) (t : Table p) (room : length p ≤ length out) where
  -- the payload after k knots
  abbrev so_far : ℕ → List ℕ
  so_far k = overwritten (6 * k) p out

  so_long : (k : ℕ) → k ≤ knots p → length (so_far k) ≡ length out
  so_long k h =
      length-append (take (6 * k) p) (drop (6 * k) out)
      ∙ ap₂ ◌+◌ (length-take-le (6 * k) p (omega (arith, h))) (length-drop (6 * k) out)
      ∙ (let q : 6 * k + (length out - 6 * k) ≡ length out = omega (arith, h, room) in q)

  one_more : (k : ℕ) → k < knots p → with_knot (so_far k) k (wholly (volts_of p k)) (wholly (tenths_of p k)) ≡ so_far (k + 1)
  unfolding with_knot
  one_more k h =
      let O = so_far k in
      let Y = six_of (bits_of (wholly (volts_of p k)) 4294967296) (bits_of (wholly (tenths_of p k)) 65536) in
      let l = so_long k (omega (arith, h)) in
      let e : 6 * k + 6 - 6 * k ≡ 6 = omega arith in
      let g : 6 * k + 6 ≡ 6 * (k + 1) = omega arith in
      if_false (leb (length O / 6) k) O (overlaid O (6 * k) Y) (lt-leb (length O / 6) k (omega (arith, l, h, room)))
      ∙ sym (put_over O Y (6 * k) (6 * k + 6 - 6 * k) (sym e))
      ∙ ap (λ (z : List ℕ). put_mid (6 * k) (6 * k + 6 - 6 * k) O z) (knot_bytes p bytes k h ∙ ap (λ (n : ℕ). take n (drop (6 * k) p)) (sym e))
      ∙ overwritten_piece p out (6 * k) (6 * k + 6) (omega arith) (omega (arith, h))
      ∙ ap (λ (n : ℕ). overwritten n p out) g

  all_lines : (left k : ℕ) → k + left ≡ knots p → scan_all (lines_of left k p) (at_line k (so_far k)) ≡ at_line (knots p) (so_far (knots p))
  all_lines zero k e = let q : k ≡ knots p = omega (arith, e) in ap (λ (n : ℕ). at_line n (so_far n)) q
  all_lines (suc left) k e =
      let h : k < knots p = omega (arith, e) in
      let l = so_long k (omega (arith, h)) in
      let v : nat_abs (volts_of p k) < 1000000000 = let s = size p t k h in omega (arith, s) in
      let u : nat_abs (tenths_of p k) < 1000000000 = let s = tenths_size p k in omega (arith, s) in
      line (volts_of p k) (tenths_of p k) k (so_far k) (lines_of left (k + 1) p) v u (tenths_fit_lem p bytes k h) (omega (arith, l, h, room))
      ∙ ap (λ (z : List ℕ). scan_all (lines_of left (k + 1) p) (at_line (k + 1) z)) (one_more k h)
      ∙ all_lines left (k + 1) (omega (arith, e))

  whole : so_far (knots p) ≡ p ++ drop (length p) out
  whole =
      let w = t.whole in
      let e : 6 * knots p ≡ length p = omega (arith, w) in
      ap (λ (n : ℕ). overwritten n p out) e ∙ ap (λ (z : List ℕ). z ++ drop (length p) out) (take_all (length p) p (omega arith))

  scanned : table_scanned (table_text p) out ≡ at_line (knots p) (p ++ drop (length p) out)
  unfolding table_scanned
  scanned = all_lines (knots p) 0 (omega arith) ∙ ap (at_line (knots p)) whole

  -- every line is a knot, and the knots are the payload
  pub read_back : (table_read (table_scanned (table_text p) out).scan ≡ Ok (knots p)) × ((table_scanned (table_text p) out).payload ≡ p ++ drop (length p) out)
  unfolding table_read is_begun
  read_back = (ap (λ (q : Scanned). table_read q.scan) scanned, ap (λ (q : Scanned). q.payload) scanned)
