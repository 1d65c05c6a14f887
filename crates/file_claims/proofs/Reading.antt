-- What is read could have been written: one block, then all.
use mathlib.Core.Path.{◌≡◌, sym, ◌∙◌, ap}
use mathlib.Core.List.{List, [], ◌∷◌, ◌++◌, append-nil}
use mathlib.Core.Bool.{true, false, not}
use Prim.Native.Nat.{ℕ, zero, suc, ◌+◌, ◌*◌, ◌/◌, ◌%◌, ◌-◌, ◌≤◌, ◌<◌}
use native.Mathlib.Omega.{arith}
use lib.ListN.{length, get_or, take, drop, replicate, length-drop, take-append-drop}
use lib.Seq.{take_at, drop_at, take_all, take-add, drop-drop, drop-cons, drop-length, length-take-le}
use lib.Dec.{eqb}
use borrow.Author.Tests.{eqb-true, not-false}
use Rattle.common.specs.Numbers.{given}
use Rattle.file_check.specs.Check.{check_of, check_wrong, stored_of}
use Rattle.file_block.specs.Block.{is_letter, used_of, piece, letter_wrong, place_wrong, padding_wrong}
use Rattle.file_block.proofs.Tables.{Right, right, none_of_two, used_last, used_other}
use Rattle.file_codec.specs.Layout.{head_of, front_of, sealed, block_written}
use Rattle.file_codec.specs.File.{count_of, blocks_of, file_of, blocks_rows, payload_of, blocks_in, made, reader_of, writer_of}
use Rattle.file_codec.proofs.Sizes.{sized}
use Rattle.file_codec.proofs.Outcomes.{length_right, payload_fits, reader_lets, writer_made}
use Rattle.common.specs.Lists.{Bytes}
use Rattle.file_claims.proofs.Bytes.{bytes_drop, byte_take, all_repeated, first_five}

-- one right block of bytes
module _ (first i n : ℕ) (b : List ℕ) (r : Right first i n b) (long : length b ≡ 512) (few : used_of b ≤ 505)
    (h₃ : get_or b 3 0 < 256) (h₄ : get_or b 4 0 < 256) (h₅ : get_or b 511 0 < 256) where
  chunk_size : length (take (used_of b) (drop 5 b)) ≡ used_of b
  chunk_size = length-take-le (used_of b) (drop 5 b) (let q : length (drop 5 b) ≡ length b - 5 = length-drop 5 b in omega arith)

  pub letter_is : (is_letter (get_or b 0 0) ≡ true) × (get_or b 0 0 ≡ first)
  unfolding letter_wrong
  letter_is =
      let w : letter_wrong first b ≡ false = r.letter in
      let t = none_of_two (not (is_letter (get_or b 0 0))) (not (eqb (get_or b 0 0) first)) w in
      (not-false _ t.0, eqb-true _ _ (not-false _ t.1))

  place_is : (get_or b 1 0 ≡ i) × (get_or b 2 0 ≡ n)
  unfolding place_wrong
  place_is =
      let w : place_wrong i n b ≡ false = r.place in
      let t = none_of_two (not (eqb (get_or b 1 0) i)) (not (eqb (get_or b 2 0) n)) w in
      (eqb-true _ _ (not-false _ t.0), eqb-true _ _ (not-false _ t.1))

  check_is : check_of (take 510 b) ≡ stored_of b
  unfolding check_wrong
  check_is = let w : check_wrong b ≡ false = r.check in eqb-true _ _ (not-false _ w)

  padding_is : piece (5 + used_of b) 510 b ≡ replicate (505 - used_of b) 255
  unfolding padding_wrong
  padding_is =
      let w : padding_wrong b ≡ false = r.padding in
      let u = used_of b in
      let d : length (drop (5 + u) b) ≡ length b - (5 + u) = length-drop (5 + u) b in
      let l : length (piece (5 + u) 510 b) ≡ 510 - (5 + u) = length-take-le (510 - (5 + u)) (drop (5 + u) b) (omega arith) in
      let e : 510 - (5 + u) ≡ 505 - u = omega arith in
      all_repeated 255 (piece (5 + u) 510 b) (not-false _ w) ∙ ap (λ (k : ℕ). replicate {A = ℕ} k 255) (l ∙ e)

  rest_is : take 505 (drop 5 b) ≡ take (used_of b) (drop 5 b) ++ replicate (505 - used_of b) 255
  rest_is =
      let u = used_of b in
      let e : 505 ≡ u + (505 - u) = omega arith in
      let d : 505 - u ≡ 510 - (5 + u) = omega arith in
      ap (λ (k : ℕ). take k (drop 5 b)) e
      ∙ take-add u (505 - u) (drop 5 b)
      ∙ ap (λ (x : List ℕ). take u (drop 5 b) ++ take (505 - u) x) (drop-drop u 5 b)
      ∙ ap (λ (k : ℕ). take u (drop 5 b) ++ take k (drop (5 + u) b)) d
      ∙ ap (λ (x : List ℕ). take u (drop 5 b) ++ x) padding_is

  head_is : get_or b 0 0 ∷ get_or b 1 0 ∷ get_or b 2 0 ∷ get_or b 3 0 ∷ get_or b 4 0 ∷ [] ≡ head_of first i n (used_of b)
  head_is =
      let a : get_or b 3 0 ≡ used_of b / 256 = omega arith in
      let c : get_or b 4 0 ≡ used_of b % 256 = omega arith in
      λ j. letter_is.1 j ∷ place_is.0 j ∷ place_is.1 j ∷ a j ∷ c j ∷ []

  front_is : take 510 b ≡ front_of first i n (take (used_of b) (drop 5 b))
  front_is =
      ap (take 510) (first_five b (omega arith))
      ∙ ap (λ (x : List ℕ). (get_or b 0 0 ∷ get_or b 1 0 ∷ get_or b 2 0 ∷ get_or b 3 0 ∷ get_or b 4 0 ∷ []) ++ x) rest_is
      ∙ ap (λ (x : List ℕ). x ++ (take (used_of b) (drop 5 b) ++ replicate (505 - used_of b) 255)) head_is
      ∙ ap (λ (k : ℕ). head_of first i n k ++ (take (used_of b) (drop 5 b) ++ replicate (505 - k) 255)) (sym chunk_size)

  tail_is : drop 510 b ≡ check_of (take 510 b) / 256 ∷ check_of (take 510 b) % 256 ∷ []
  tail_is =
      let c = check_of (take 510 b) in
      let e : c ≡ stored_of b = check_is in
      let h : get_or b 510 0 ≡ c / 256 = omega arith in
      let l : get_or b 511 0 ≡ c % 256 = omega arith in
      drop-cons b 510 0 (omega arith)
      ∙ ap (λ (x : List ℕ). get_or b 510 0 ∷ x) (drop-cons b 511 0 (omega arith) ∙ ap (λ (x : List ℕ). get_or b 511 0 ∷ x) (ap (λ (k : ℕ). drop k b) (sym long) ∙ drop-length b))
      ∙ (λ j. h j ∷ l j ∷ [])

  -- it is the block that would be written
  pub block_is : b ≡ block_written first i n (take (used_of b) (drop 5 b))
  unfolding block_written
  block_is =
      sym (take-append-drop 510 b)
      ∙ ap (λ (x : List ℕ). take 510 b ++ x) tail_is
      ∙ ap sealed front_is

-- right blocks of bytes are the blocks of their payload
pub blocks_are : (left first i n : ℕ) (f : List ℕ) → 0 < left → i + left ≡ n → length f ≡ 512 * left → Bytes f
    → given (blocks_rows left first i n f []) ≡ 0 → (f ≡ blocks_of left first i n (payload_of left f)) × (is_letter first ≡ true)
blocks_are zero first i n f z s l bytes g = absurd (omega arith)
blocks_are (suc zero) first i n f z s l bytes g =
    let B = take 512 f in
    let C = take (used_of B) (drop 5 B) in
    let r = (right first i n B [] g).0 in
    let u = used_last i n B s r.used in
    let t : B ≡ f = take_all 512 f (omega arith) in
    let lB : length B ≡ 512 = length-take-le 512 f (omega arith) in
    let w = block_is first i n B r lB u.1 (byte_take 512 f 3 (omega arith) bytes) (byte_take 512 f 4 (omega arith) bytes) (byte_take 512 f 511 (omega arith) bytes) in
    let x = letter_is first i n B r lB u.1 (byte_take 512 f 3 (omega arith) bytes) (byte_take 512 f 4 (omega arith) bytes) (byte_take 512 f 511 (omega arith) bytes) in
    let lC : length C ≤ 505 = (let q : length C ≡ used_of B = length-take-le (used_of B) (drop 5 B) (let d : length (drop 5 B) ≡ length B - 5 = length-drop 5 B in omega arith) in omega arith) in
    let c : take 505 (C ++ []) ≡ C = ap (take 505) (append-nil C) ∙ take_all 505 C lC in (
      sym t ∙ w ∙ ap (block_written first i n) (sym c) ∙ sym (append-nil _),
      ap is_letter (sym x.1) ∙ x.0,
    )
blocks_are (suc (suc left)) first i n f z s l bytes g =
    let B = take 512 f in
    let C = take (used_of B) (drop 5 B) in
    let R = right first i n B (blocks_rows (suc left) first (i + 1) n (drop 512 f) []) g in
    let r = R.0 in
    let u : used_of B ≡ 505 = used_other i n B (λ (q : i + 1 ≡ n). (omega arith)) r.used in
    let lB : length B ≡ 512 = length-take-le 512 f (omega arith) in
    let w = block_is first i n B r lB (omega arith) (byte_take 512 f 3 (omega arith) bytes) (byte_take 512 f 4 (omega arith) bytes) (byte_take 512 f 511 (omega arith) bytes) in
    let x = letter_is first i n B r lB (omega arith) (byte_take 512 f 3 (omega arith) bytes) (byte_take 512 f 4 (omega arith) bytes) (byte_take 512 f 511 (omega arith) bytes) in
    let lC : length C ≡ 505 = length-take-le (used_of B) (drop 5 B) (let d : length (drop 5 B) ≡ length B - 5 = length-drop 5 B in omega arith) ∙ u in
    let lD : length (drop 512 f) ≡ 512 * suc left = length-drop 512 f ∙ (let q : length f - 512 ≡ 512 * suc left = omega arith in q) in
    let P = payload_of (suc left) (drop 512 f) in
    let y = blocks_are (suc left) first (i + 1) n (drop 512 f) (omega arith) (omega arith) lD (bytes_drop 512 f bytes) R.1 in (
      sym (take-append-drop 512 f)
          ∙ ap (λ (k : List ℕ). k ++ drop 512 f) (w ∙ ap (block_written first i n) (sym (take_at C P 505 lC)))
          ∙ ap (λ (k : List ℕ). block_written first i n (take 505 (C ++ P)) ++ k) (y.0 ∙ ap (blocks_of (suc left) first (i + 1) n) (sym (drop_at C P 505 lC))),
      ap is_letter (sym x.1) ∙ x.0,
    )

-- what is read for a letter is what the writer makes of the payload under that letter
pub read_written : (most ℓ : ℕ) (f p : List ℕ) → Bytes f → reader_of most f ℓ ≡ made p → writer_of most ℓ p ≡ made f
read_written most ℓ f p bytes e =
    let o = reader_lets most f ℓ p e in
    let n = blocks_in f in
    let r = length_right most (length f) o.0 in
    let s : 0 + n ≡ n = omega arith in
    let b = blocks_are n (get_or f 0 0) 0 n f r.1 s r.0 bytes o.1 in
    let z = sized n (get_or f 0 0) 0 n f r.1 s r.0 o.1 in
    let lp : length p ≡ length (payload_of n f) = ap length (sym o.3) in
    let up : length p ≤ 505 * n = omega (arith, z.most) in
    let low : 505 * n < length p + 505 = omega (arith, z.least) in
    let k : count_of (length p) ≡ n = omega arith in
    let same : file_of ℓ p ≡ f =
    ap (λ (m : ℕ). blocks_of m ℓ 0 m p) k
    ∙ ap (λ (x : ℕ). blocks_of n x 0 n p) (sym o.2)
    ∙ ap (blocks_of n (get_or f 0 0) 0 n) (sym o.3)
    ∙ sym b.0 in
    writer_made most ℓ p (ap is_letter (sym o.2) ∙ b.1) (payload_fits most (length p) (omega arith) (omega arith)) ∙ ap made same

-- what is read, of any list of numbers: its letter is the one asked, and the payload has 1 byte up to 505 for each block of the limit
pub read_holds : (most ℓ : ℕ) (f p : List ℕ) → reader_of most f ℓ ≡ made p → (get_or f 0 0 ≡ ℓ) × (0 < length p) × (length p ≤ 505 * most)
read_holds most ℓ f p e =
    let o = reader_lets most f ℓ p e in
    let n = blocks_in f in
    let r = length_right most (length f) o.0 in
    let s : 0 + n ≡ n = omega arith in
    let z = sized n (get_or f 0 0) 0 n f r.1 s r.0 o.1 in
    let lp : length p ≡ length (payload_of n f) = ap length (sym o.3) in
    let up : length p ≤ 505 * n = omega (arith, z.most) in
    let low : 505 * n < length p + 505 = omega (arith, z.least) in
    (o.2, omega arith, omega arith)
