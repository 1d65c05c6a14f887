-- What the writer writes is read back: one block, then all.
use mathlib.Core.Path.{◌≡◌, refl, sym, ◌∙◌, ap, subst}
use mathlib.Core.List.{List, [], ◌∷◌, ◌++◌, append_assoc, append-nil}
use mathlib.Core.Bool.{Bool, true, false, not, ◌||◌}
use Prim.Native.Nat.{ℕ, zero, suc, ◌+◌, ◌*◌, ◌/◌, ◌%◌, ◌-◌, ◌≤◌, ◌<◌}
use native.Mathlib.Omega.{arith}
use lib.ListN.{length, get_or, take, drop, replicate, length-append, length-drop, length-replicate, take-append-drop}
use lib.Seq.{take_at, drop_at, get_or_at, get_or-append-add, take_all, length-take-le}
use lib.Dec.{eqb, ltb}
use borrow.Author.Tests.{eq-eqb, ne_eqb, eqb-true, le-ltb}
use Rattle.common.proofs.Choice.{if_true, if_false}
use Rattle.common.specs.Numbers.{given}
use Rattle.file_check.specs.Check.{check_of, check_wrong, stored_of, all_are, pair}
use Rattle.file_block.specs.Block.{is_letter, letters, within, used_of, piece, letter_wrong, place_wrong, used_wrong, padding_wrong, block_rows}
use Rattle.file_block.proofs.Tables.{Right, right_given}
use Rattle.file_codec.specs.Layout.{head_of, front_of, block_written}
use Rattle.file_codec.specs.File.{count_of, blocks_of, file_of, blocks_rows, payload_of, blocks_in, refused, made, length_wrong, reader_of, writer_of}
use Rattle.file_codec.proofs.Sizes.{front_length, block_length, chunk_length, blocks_length}
use Rattle.file_codec.proofs.Outcomes.{payload_right, length_fits, reader_made, reader_35, writer_lets}
use Rattle.common.specs.Lists.{Bytes}
use Rattle.file_claims.proofs.Bytes.{bytes_none, none, more, each_bytes, bytes_append, bytes_take, bytes_drop, bytes_replicate, repeated_all}

-- one block, from its payload bytes
module _ (ℓ i n : ℕ) (chunk : List ℕ) (few : length chunk ≤ 505) where
  F : List ℕ
  F = front_of ℓ i n chunk

  C : ℕ
  C = check_of F

  T : List ℕ
  T = C / 256 ∷ C % 256 ∷ []

  front : take 510 (block_written ℓ i n chunk) ≡ front_of ℓ i n chunk
  unfolding block_written F C T
  front = take_at F T 510 (front_length ℓ i n chunk few)

  stored : stored_of (block_written ℓ i n chunk) ≡ check_of (front_of ℓ i n chunk)
  unfolding block_written F C T
  stored =
      let l : length F ≡ 510 = front_length ℓ i n chunk few in
      let h : get_or (F ++ T) 510 0 ≡ C / 256 = get_or_at F (C / 256) (C % 256 ∷ []) 0 510 l in
      let w : 511 ≡ length F + 1 = omega arith in
      let k : get_or (F ++ T) 511 0 ≡ C % 256 = ap (λ (m : ℕ). get_or (F ++ T) m 0) w ∙ get_or-append-add F T 1 0 in
      (λ j. pair (h j) (k j)) ∙ (let q : C / 256 * 256 + C % 256 ≡ C = omega arith in q)

  check_good : check_wrong (block_written ℓ i n chunk) ≡ false
  unfolding check_wrong
  check_good = ap not (eq-eqb _ _ (ap check_of front ∙ sym stored))

  used_is : used_of (block_written ℓ i n chunk) ≡ length chunk
  unfolding block_written
  used_is = let u = length chunk in let q : u / 256 * 256 + u % 256 ≡ u = omega arith in q

  P : List ℕ
  P = replicate (505 - length chunk) 255

  pad_length : length P ≡ 505 - length chunk
  unfolding P
  pad_length = length-replicate (505 - length chunk) 255

  pad_all : all_are 255 P ≡ true
  unfolding P
  pad_all = repeated_all 255 (505 - length chunk)

  opened : block_written ℓ i n chunk ≡ (head_of ℓ i n (length chunk) ++ chunk) ++ (P ++ T)
  unfolding block_written F C T P
  opened = ap (λ (z : List ℕ). head_of ℓ i n (length chunk) ++ z) (append_assoc chunk P T)

  padding_good : padding_wrong (block_written ℓ i n chunk) ≡ false
  unfolding padding_wrong
  padding_good =
      let u = length chunk in
      let A = head_of ℓ i n u ++ chunk in
      let lP : length P ≡ 510 - (5 + u) = pad_length ∙ (let q : 505 - u ≡ 510 - (5 + u) = omega arith in q) in
      let t : piece (5 + u) 510 (block_written ℓ i n chunk) ≡ P =
      ap (piece (5 + u) 510) opened ∙ ap (take (510 - (5 + u))) (drop_at A (P ++ T) (5 + u) (length-append (head_of ℓ i n u) chunk)) ∙ take_at P T (510 - (5 + u)) lP in
      ap (λ (k : ℕ). not (all_are 255 (piece (5 + k) 510 (block_written ℓ i n chunk)))) used_is ∙ ap (λ (z : List ℕ). not (all_are 255 z)) t ∙ ap not pad_all

  chunk_back : take (used_of (block_written ℓ i n chunk)) (drop 5 (block_written ℓ i n chunk)) ≡ chunk
  chunk_back =
      ap (λ (k : ℕ). take k (drop 5 (block_written ℓ i n chunk))) used_is
      ∙ ap (λ (z : List ℕ). take (length chunk) (drop 5 z)) opened
      ∙ take_at chunk (P ++ T) (length chunk) refl

  letter_good : is_letter ℓ ≡ true → letter_wrong ℓ (block_written ℓ i n chunk) ≡ false
  unfolding letter_wrong block_written
  letter_good e = let q : eqb ℓ ℓ ≡ true = eq-eqb ℓ ℓ refl in simp (e, q)

  place_good : place_wrong i n (block_written ℓ i n chunk) ≡ false
  unfolding place_wrong block_written
  place_good = let q : eqb i i ≡ true = eq-eqb i i refl in let r : eqb n n ≡ true = eq-eqb n n refl in simp (q, r)

  used_good_last : i + 1 ≡ n → 0 < length chunk → used_wrong i n (block_written ℓ i n chunk) ≡ false
  unfolding used_wrong
  used_good_last e z =
      let a : eqb (used_of (block_written ℓ i n chunk)) 0 ≡ false = ne_eqb (used_of (block_written ℓ i n chunk)) 0 (λ (q : used_of (block_written ℓ i n chunk) ≡ 0). (omega (arith, used_is))) in
      let b : ltb 505 (used_of (block_written ℓ i n chunk)) ≡ false = le-ltb 505 (used_of (block_written ℓ i n chunk)) (omega (arith, used_is)) in
      if_true (eqb (i + 1) n) _ _ (eq-eqb _ _ e) ∙ ap (λ (t : Bool). t || ltb 505 (used_of (block_written ℓ i n chunk))) a ∙ b

  used_good_other : (i + 1 ≡ n → ⊥) → length chunk ≡ 505 → used_wrong i n (block_written ℓ i n chunk) ≡ false
  unfolding used_wrong
  used_good_other e z = if_false (eqb (i + 1) n) _ _ (ne_eqb _ _ e) ∙ ap not (eq-eqb _ 505 (used_is ∙ z))

  pub block_right_last : is_letter ℓ ≡ true → i + 1 ≡ n → 0 < length chunk → Right ℓ i n (block_written ℓ i n chunk)
  block_right_last e l z = record { check = check_good; letter = letter_good e; place = place_good; used = used_good_last l z; padding = padding_good }

  pub block_right_other : is_letter ℓ ≡ true → (i + 1 ≡ n → ⊥) → length chunk ≡ 505 → Right ℓ i n (block_written ℓ i n chunk)
  block_right_other e l z = record { check = check_good; letter = letter_good e; place = place_good; used = used_good_other l z; padding = padding_good }

  pub chunk_of : take (used_of (block_written ℓ i n chunk)) (drop 5 (block_written ℓ i n chunk)) ≡ chunk
  chunk_of = chunk_back

-- all blocks of a payload: nothing is refused, and the payload comes back
pub blocks_right : (left ℓ i n : ℕ) (p : List ℕ) → is_letter ℓ ≡ true → 0 < left → i + left ≡ n → length p ≤ 505 * left → 505 * left < length p + 505
    → (given (blocks_rows left ℓ i n (blocks_of left ℓ i n p) []) ≡ 0) × (payload_of left (blocks_of left ℓ i n p) ≡ p)
blocks_right zero ℓ i n p e z s h k = absurd (omega arith)
blocks_right (suc zero) ℓ i n p e z s h k =
    let c = take 505 p in
    let B = block_written ℓ i n c in
    let few = chunk_length p in
    let t : take 512 (B ++ []) ≡ B = take_at B [] 512 (block_length ℓ i n c few) in
    let whole : c ≡ p = take_all 505 p (omega arith) in
    let lc : length c ≡ length p = ap length whole in (
      ap (λ (x : List ℕ). given (block_rows ℓ i n x [])) t ∙ right_given ℓ i n B [] (block_right_last ℓ i n c few e s (omega arith)),
      append-nil _ ∙ ap (λ (x : List ℕ). take (used_of x) (drop 5 x)) t ∙ chunk_of ℓ i n c few ∙ whole,
    )
blocks_right (suc (suc left)) ℓ i n p e z s h k =
    let c = take 505 p in
    let B = block_written ℓ i n c in
    let few = chunk_length p in
    let R = blocks_of (suc left) ℓ (i + 1) n (drop 505 p) in
    let t : take 512 (B ++ R) ≡ B = take_at B R 512 (block_length ℓ i n c few) in
    let d : drop 512 (B ++ R) ≡ R = drop_at B R 512 (block_length ℓ i n c few) in
    let lc : length c ≡ 505 = length-take-le 505 p (omega arith) in
    let ld : length (drop 505 p) ≡ length p - 505 = length-drop 505 p in
    let r = blocks_right (suc left) ℓ (i + 1) n (drop 505 p) e (omega arith) (omega arith) (omega arith) (omega arith) in (
      ap (λ (x : List ℕ). given (block_rows ℓ i n x (blocks_rows (suc left) ℓ (i + 1) n (drop 512 (B ++ R)) []))) t
          ∙ ap (λ (x : List ℕ). given (block_rows ℓ i n B (blocks_rows (suc left) ℓ (i + 1) n x []))) d
          ∙ right_given ℓ i n B (blocks_rows (suc left) ℓ (i + 1) n R []) (block_right_other ℓ i n c few e (λ (q : i + 1 ≡ n). (omega arith)) lc)
          ∙ r.0,
      ap (λ (x : List ℕ). take (used_of x) (drop 5 x) ++ payload_of (suc left) (drop 512 (B ++ R))) t
          ∙ ap (λ (x : List ℕ). take (used_of B) (drop 5 B) ++ payload_of (suc left) x) d
          ∙ ap (λ (x : List ℕ). x ++ payload_of (suc left) R) (chunk_of ℓ i n c few)
          ∙ ap (λ (x : List ℕ). c ++ x) r.1
          ∙ take-append-drop 505 p,
    )

-- the file of a payload has as many blocks as it takes, and begins with its letter
pub file_size : (ℓ : ℕ) (p : List ℕ) → blocks_in (file_of ℓ p) ≡ count_of (length p)
file_size ℓ p =
    let k = count_of (length p) in
    let l : length (file_of ℓ p) ≡ 512 * k = blocks_length k ℓ 0 k p in
    ap (λ (m : ℕ). m / 512) l ∙ (let q : 512 * k / 512 ≡ k = omega arith in q)

first_letter : (left ℓ i n : ℕ) (p : List ℕ) → get_or (blocks_of (suc left) ℓ i n p) 0 0 ≡ ℓ
unfolding block_written
first_letter left ℓ i n p = refl

pub file_letter : (ℓ : ℕ) (p : List ℕ) → 0 < length p → get_or (file_of ℓ p) 0 0 ≡ ℓ
file_letter ℓ p z =
    let k = count_of (length p) in
    let s : k ≡ suc (k - 1) = omega arith in
    ap (λ (m : ℕ). get_or (blocks_of m ℓ 0 k p) 0 0) s ∙ first_letter (k - 1) ℓ 0 k p

-- a file that the writer makes: its length and its blocks are right
module _ (most ℓ : ℕ) (p f : List ℕ) (w : writer_of most ℓ p ≡ made f) where
  pub written_length : length_wrong most (length f) ≡ false
  written_length =
      let o = writer_lets most ℓ p f w in
      let r = payload_right most (length p) o.1 in
      let k = count_of (length p) in
      let l : length f ≡ 512 * k = sym (ap length o.2) ∙ blocks_length k ℓ 0 k p in
      ap (length_wrong most) l ∙ length_fits most k (omega arith) (omega arith)

  pub written_right : (given (blocks_rows (blocks_in f) (get_or f 0 0) 0 (blocks_in f) f []) ≡ 0) × (payload_of (blocks_in f) f ≡ p)
  written_right =
      let o = writer_lets most ℓ p f w in
      let r = payload_right most (length p) o.1 in
      let k = count_of (length p) in
      let g = blocks_right k ℓ 0 k p o.0 (omega arith) (let q : 0 + k ≡ k = omega arith in q) (omega arith) (omega arith) in
      let n : blocks_in f ≡ k = ap blocks_in (sym o.2) ∙ file_size ℓ p in
      let x : get_or f 0 0 ≡ ℓ = ap (λ (y : List ℕ). get_or y 0 0) (sym o.2) ∙ file_letter ℓ p r.0 in (
        ap (λ (m : ℕ). given (blocks_rows m (get_or f 0 0) 0 m f [])) n
            ∙ ap (λ (y : ℕ). given (blocks_rows k y 0 k f [])) x
            ∙ ap (λ (y : List ℕ). given (blocks_rows k ℓ 0 k y [])) (sym o.2)
            ∙ g.0,
        ap (λ (m : ℕ). payload_of m f) n ∙ ap (payload_of k) (sym o.2) ∙ g.1,
      )

  pub written_letter : get_or f 0 0 ≡ ℓ
  written_letter =
      let o = writer_lets most ℓ p f w in
      ap (λ (y : List ℕ). get_or y 0 0) (sym o.2) ∙ file_letter ℓ p (payload_right most (length p) o.1).0

  -- it is read for its letter, and refused 35 for every other
  pub written_read : reader_of most f ℓ ≡ made p
  written_read = reader_made most f ℓ written_length written_right.0 written_letter ∙ ap made written_right.1

  pub written_other : (asked : ℕ) → (ℓ ≡ asked → ⊥) → reader_of most f asked ≡ refused 35
  written_other asked z = reader_35 most f asked written_length written_right.0 (λ (q : get_or f 0 0 ≡ asked). z (sym written_letter ∙ q))

-- what the writer makes of bytes are bytes, as long as the count of blocks fits a byte
within_bytes : (x : ℕ) (ys : List ℕ) → Bytes ys → within x ys ≡ true → x < 256
within_bytes x [] h e = absurd (let z : ◌≡◌ {A = ℕ} 0 1 = cc in omega arith)
within_bytes x (y ∷ ys) h e = go (eqb x y) refl (within_bytes x ys (λ (k : ℕ). h (suc k)))
  where
    go : (t : Bool) → eqb x y ≡ t → (within x ys ≡ true → x < 256) → x < 256
    go true q rest = subst (λ (z : ℕ). z < 256) (sym (eqb-true x y q)) (h 0)
    go false q rest = rest (sym (if_false (eqb x y) true (within x ys) q) ∙ e)

letter_byte : (ℓ : ℕ) → is_letter ℓ ≡ true → ℓ < 256
unfolding is_letter
letter_byte ℓ e =
    within_bytes ℓ letters
    (each_bytes (more (omega arith) (more (omega arith) (more (omega arith) (more (omega arith) (more (omega arith) (more (omega arith) (more (omega arith) (more (omega arith) none))))))))) e

block_bytes : (ℓ i n : ℕ) (chunk : List ℕ) → ℓ < 256 → i < 256 → n < 256 → length chunk ≤ 505 → Bytes chunk → Bytes (block_written ℓ i n chunk)
unfolding block_written check_of
block_bytes ℓ i n chunk a b c few h =
    let u = length chunk in
    let F = front_of ℓ i n chunk in
    let x : check_of F < 65521 = omega arith in
    bytes_append F (check_of F / 256 ∷ check_of F % 256 ∷ [])
    (bytes_append (head_of ℓ i n u) (chunk ++ replicate (505 - u) 255)
    (each_bytes (more a (more b (more c (more (omega arith) (more (omega arith) none))))))
    (bytes_append chunk (replicate (505 - u) 255) h (bytes_replicate (505 - u) 255 (omega arith))))
    (each_bytes (more (omega arith) (more (omega arith) none)))

blocks_bytes : (left ℓ i n : ℕ) (p : List ℕ) → ℓ < 256 → i + left ≤ n → n < 256 → Bytes p → Bytes (blocks_of left ℓ i n p)
blocks_bytes zero ℓ i n p a b c h = bytes_none
blocks_bytes (suc left) ℓ i n p a b c h =
    bytes_append (block_written ℓ i n (take 505 p)) (blocks_of left ℓ (i + 1) n (drop 505 p))
    (block_bytes ℓ i n (take 505 p) a (omega arith) c (chunk_length p) (bytes_take 505 p h))
    (blocks_bytes left ℓ (i + 1) n (drop 505 p) a (omega arith) c (bytes_drop 505 p h))

pub written_bytes : (most ℓ : ℕ) (p f : List ℕ) → most < 256 → Bytes p → writer_of most ℓ p ≡ made f → Bytes f
written_bytes most ℓ p f m h w =
    let o = writer_lets most ℓ p f w in
    let r = payload_right most (length p) o.1 in
    let k = count_of (length p) in
    subst Bytes o.2 (blocks_bytes k ℓ 0 k p (letter_byte ℓ o.0) (omega arith) (omega arith) h)
