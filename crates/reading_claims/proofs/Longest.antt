-- Tables of every length up to the most that a file holds: each is a table, is written and is read.
use mathlib.Core.Path.{◌≡◌, refl, sym, ap, ◌∙◌, subst}
use mathlib.Core.List.{List}
use Prim.Native.Nat.{ℕ, zero, suc, ◌+◌, ◌-◌, ◌*◌, ◌/◌, ◌%◌, ◌≤◌, ◌<◌}
use native.Mathlib.Omega.{arith}
use lib.Dec.{T, ltb, le→leb, lt→ltb}
use lib.IntN.{ℤ, pos, negsuc}
use lib.Signed.{lt_z}
use lib.ListN.{length, get_or, drop}
use lib.Seq.{drop-drop, get_or-drop}
use borrow.Author.Tests.{lt-ltb}
use Rattle.common.proofs.Choice.{if_true}
use Rattle.file_block.specs.Block.{is_letter}
use Rattle.file_codec.specs.File.{limit, made, file_of, writer_of}
use Rattle.file_claims.proofs.Claims as file-claims
use Rattle.reading_table.specs.Table.{signed32, word32, knots, most_knots, volts_of, in_range, table_number}
use Rattle.reading_table.proofs.Places.{volts_in}
use Rattle.reading.specs.declared.ReadingAnswer.TheVariants.{Read}
use Rattle.reading.specs.Readings.{reading_of, table_answer}
use Rattle.reading_claims.specs.Tables.{Table}
use Rattle.reading_claims.specs.Answers.{answer_from}
use Rattle.reading_claims.specs.Longest.{knots_from}
use Rattle.reading_claims.proofs.FirstRow.{reads_by}
use Rattle.reading_claims.proofs.Judged.{table_judged}
use Rattle.reading_claims.proofs.Files.{written_reads}

from_length : (n i : ℕ) → length (knots_from n i) ≡ 6 * n
from_length zero i = refl
from_length (suc n) i = let r = from_length n (i + 1) in omega (arith, r)

-- what stands behind the first j knots
drop_from : (j n i : ℕ) → drop (6 * j) (knots_from (j + n) i) ≡ knots_from n (i + j)
drop_from zero n i =
    let a : 0 + n ≡ n = omega arith in
    let b : i ≡ i + 0 = omega arith in
    ap (λ (m : ℕ). knots_from m i) a ∙ ap (knots_from n) b
drop_from (suc j) n i =
    let a : 6 * suc j ≡ 6 + 6 * j = omega arith in
    let b : suc j + n ≡ suc (j + n) = omega arith in
    let c : i + 1 + j ≡ i + suc j = omega arith in
    ap (λ (k : ℕ). drop k (knots_from (suc j + n) i)) a ∙ sym (drop-drop (6 * j) 6 (knots_from (suc j + n) i)) ∙ ap (λ (m : ℕ). drop (6 * j) (drop 6 (knots_from m i))) b
    ∙ drop_from j n (i + 1) ∙ ap (knots_from n) c

module _ (n i j : ℕ) (h : j < n) where
  abbrev p : List ℕ
  p = knots_from n i

  -- byte c of knot j
  byte_at_lem : (c : ℕ) → get_or p (6 * j + c) 0 ≡ get_or (knots_from (suc (n - suc j)) (i + j)) c 0
  byte_at_lem c =
      let a : n ≡ j + suc (n - suc j) = omega (arith, h) in
      sym (get_or-drop (6 * j) p c 0) ∙ ap (λ (l : List ℕ). get_or l c 0) (ap (λ (m : ℕ). drop (6 * j) (knots_from m i)) a ∙ drop_from j (suc (n - suc j)) i)

  first_byte : get_or p (6 * j) 0 ≡ 0
  first_byte = let a : 6 * j ≡ 6 * j + 0 = omega arith in ap (λ (k : ℕ). get_or p k 0) a ∙ byte_at_lem 0

  volts_are : i + j < 2147483648 → volts_of p j ≡ pos (i + j)
  unfolding signed32
  volts_are l =
      let k : length p ≡ 6 * n = from_length n i in
      let w : ((0 * 256 + 0) * 256 + (i + j) / 256) * 256 + (i + j) % 256 ≡ i + j = omega arith in
      volts_in p j (omega (arith, h, k)) ∙ (λ t. signed32 (word32 (first_byte t) (byte_at_lem 1 t) (byte_at_lem 2 t) (byte_at_lem 3 t)))
      ∙ ap signed32 w ∙ if_true (ltb (i + j) 2147483648) (pos (i + j)) (negsuc (4294967295 - (i + j))) (lt-ltb (i + j) 2147483648 l)

-- from 0 microvolts on
module _ (n : ℕ) (two : 2 ≤ n) (most : n ≤ most_knots) where
  abbrev q : List ℕ
  q = knots_from n 0

  size : length q ≡ 6 * n
  size = from_length n 0

  pub count : knots q ≡ n
  count = omega (arith, size)

  volts : (j : ℕ) → j < n → volts_of q j ≡ pos j
  volts j h = let z : 0 + j ≡ j = omega arith in volts_are n 0 j h (omega (arith, h, most)) ∙ ap pos z

  in_range_lem : (j : ℕ) → j < n → T (in_range (pos j))
  unfolding in_range
  in_range_lem j h = le→leb j 80000 (omega (arith, h, most))

  pub is_table : Table q
  is_table =
      record {
        whole = omega (arith, size);
        two = omega (arith, count, two);
        range = λ j h. subst (λ (v : ℤ). T (in_range v)) (sym (volts j (omega (arith, h, count)))) (in_range_lem j (omega (arith, h, count)));
        rises = λ j h.
            let b : j + 1 < n = omega (arith, h, count) in
            subst (λ (v : ℤ). T (lt_z v (volts_of q (j + 1)))) (sym (volts j (omega (arith, b)))) (subst (λ (v : ℤ). T (lt_z (pos j) v)) (sym (volts (j + 1) b)) (lt→ltb j (j + 1) (omega arith)));
      }

  -- a file under K holds it, and gives its readings
  pub written : writer_of limit 75 q ≡ made (file_of 75 q)
  unfolding is_letter
  written = (file-claims.writes_exactly limit 75 q (file_of 75 q)).1 (refl, omega (arith, size, two), omega (arith, size, most), refl)

  pub read : (room : List ℕ) (x : ℤ) → 6 * n ≤ length room → answer_from (file_of 75 q) 75 room x ≡ Read (reading_of q x)
  unfolding table_answer
  read room x h = written_reads 75 q (file_of 75 q) room x written (omega (arith, size, h)) ∙ reads_by (table_number q) (reading_of q x) (table_judged q is_table)
