-- Laws of the outcomes of reader and writer: one for each way out, and the ways back.
use mathlib.Core.Path.{◌≡◌, refl, sym, ◌∙◌, ap}
use mathlib.Core.List.{List, [], ◌∷◌}
use mathlib.Core.Bool.{Bool, true, false, not, ◌||◌}
use Prim.Native.Nat.{ℕ, ◌*◌, ◌/◌, ◌%◌, ◌≤◌, ◌<◌}
use native.Mathlib.Omega.{arith}
use lib.ListN.{length, get_or}
use lib.Dec.{eqb, ltb}
use borrow.Author.Tests.{eq-eqb, ne_eqb, eqb-true, eqb-false, ltb-false, not-false, le-ltb, lt-ltb}
use Rattle.std.specs.Prelude.{if◌then◌else◌}
use Rattle.common.proofs.Choice.{if_true, if_false}
use Rattle.common.specs.Numbers.{Row, row, given}
use Rattle.file_block.specs.Block.{is_letter}
use Rattle.file_block.proofs.Tables.{none_of_two, not_given}
use Rattle.file_codec.specs.File.{refused, made, outcome_by, in_room, file_of, blocks_rows, blocks_in, payload_of, length_wrong, payload_wrong, read_rows, write_rows, reader_of, writer_of}
use Rattle.file_codec.proofs.Tables.{after_blocks}

-- a number other than 0 refuses, 0 lets through
pub outcome_refused : (n : ℕ) (bytes : List ℕ) → (n ≡ 0 → ⊥) → outcome_by n bytes ≡ refused n
outcome_refused n bytes z = if_false (eqb n 0) (made bytes) (refused n) (ne_eqb n 0 z)

pub outcome_made : (n : ℕ) (bytes : List ℕ) → n ≡ 0 → outcome_by n bytes ≡ made bytes
outcome_made n bytes z = if_true (eqb n 0) (made bytes) (refused n) (eq-eqb n 0 z)

pub outcome_lets : (n : ℕ) (bytes p : List ℕ) → outcome_by n bytes ≡ made p → (n ≡ 0) × (bytes ≡ p)
outcome_lets n bytes p e = go (eqb n 0) refl
  where
    go : (t : Bool) → eqb n 0 ≡ t → (n ≡ 0) × (bytes ≡ p)
    go true q = (eqb-true n 0 q, let w : made bytes ≡ made p = sym (if_true (eqb n 0) (made bytes) (refused n) q) ∙ e in cc)
    go false q = absurd (let w : refused n ≡ made p = sym (if_false (eqb n 0) (made bytes) (refused n) q) ∙ e in let z : ◌≡◌ {A = ℕ} 0 1 = cc in omega arith)

pub outcome_refuses : (n m : ℕ) (bytes : List ℕ) → outcome_by n bytes ≡ refused m → n ≡ m
outcome_refuses n m bytes e = go (eqb n 0) refl
  where
    go : (t : Bool) → eqb n 0 ≡ t → n ≡ m
    go true q = absurd (let w : made bytes ≡ refused m = sym (if_true (eqb n 0) (made bytes) (refused n) q) ∙ e in let z : ◌≡◌ {A = ℕ} 0 1 = cc in omega arith)
    go false q = let w : refused n ≡ refused m = sym (if_false (eqb n 0) (made bytes) (refused n) q) ∙ e in cc

-- a length that is not refused: so many whole blocks, from 1 up to the limit
pub length_right : (most size : ℕ) → length_wrong most size ≡ false → (size ≡ 512 * (size / 512)) × (0 < size / 512) × (size / 512 ≤ most)
unfolding length_wrong
length_right most size e =
    let a = none_of_two (eqb size 0 || ltb (512 * most) size) (not (eqb (size % 512) 0)) e in
    let b = none_of_two (eqb size 0) (ltb (512 * most) size) a.0 in
    let z : size ≡ 0 → ⊥ = eqb-false size 0 b.0 in
    let l : size ≤ 512 * most = ltb-false (512 * most) size b.1 in
    let r : size % 512 ≡ 0 = eqb-true (size % 512) 0 (not-false (eqb (size % 512) 0) a.1) in
    (omega arith, omega arith, omega arith)

pub length_fits : (most k : ℕ) → 0 < k → k ≤ most → length_wrong most (512 * k) ≡ false
unfolding length_wrong
length_fits most k z l =
    let a : eqb (512 * k) 0 ≡ false = ne_eqb (512 * k) 0 (λ (q : 512 * k ≡ 0). (omega arith)) in
    let b : ltb (512 * most) (512 * k) ≡ false = le-ltb (512 * most) (512 * k) (omega arith) in
    let c : eqb (512 * k % 512) 0 ≡ true = eq-eqb (512 * k % 512) 0 (omega arith) in
    simp (a, b, c)

-- a payload that is not refused
pub payload_right : (most size : ℕ) → payload_wrong most size ≡ false → (0 < size) × (size ≤ 505 * most)
unfolding payload_wrong
payload_right most size e =
    let b = none_of_two (eqb size 0) (ltb (505 * most) size) e in
    let z : size ≡ 0 → ⊥ = eqb-false size 0 b.0 in
    (omega arith, ltb-false (505 * most) size b.1)

pub payload_fits : (most size : ℕ) → 0 < size → size ≤ 505 * most → payload_wrong most size ≡ false
unfolding payload_wrong
payload_fits most size z l =
    let a : eqb size 0 ≡ false = ne_eqb size 0 (λ (q : size ≡ 0). (omega arith)) in
    let b : ltb (505 * most) size ≡ false = le-ltb (505 * most) size l in
    simp (a, b)

-- the reader's ways out
module _ (most : ℕ) (f : List ℕ) (asked : ℕ) where
  pub reader_30 : length_wrong most (length f) ≡ true → reader_of most f asked ≡ refused 30
  unfolding reader_of
  reader_30 w =
      let g : given (read_rows most f asked []) ≡ 30 = if_true (length_wrong most (length f)) 30 _ w in
      ap (λ (k : ℕ). outcome_by k (payload_of (blocks_in f) f)) g

  rest_is : length_wrong most (length f) ≡ false → (rest : List Row)
      → given (read_rows most f asked rest)
      ≡ (if eqb (given (blocks_rows (blocks_in f) (get_or f 0 0) 0 (blocks_in f) f [])) 0
      then given (row 35 (not (eqb (get_or f 0 0) asked)) ∷ rest)
      else given (blocks_rows (blocks_in f) (get_or f 0 0) 0 (blocks_in f) f []))
  rest_is w rest = if_false (length_wrong most (length f)) 30 _ w ∙ after_blocks (blocks_in f) (get_or f 0 0) 0 (blocks_in f) f (row 35 (not (eqb (get_or f 0 0) asked)) ∷ rest)

  pub reader_block : length_wrong most (length f) ≡ false → (r : ℕ) → r ≡ given (blocks_rows (blocks_in f) (get_or f 0 0) 0 (blocks_in f) f []) → (r ≡ 0 → ⊥)
      → reader_of most f asked ≡ refused r
  unfolding reader_of
  reader_block w r e z =
      let G = given (blocks_rows (blocks_in f) (get_or f 0 0) 0 (blocks_in f) f []) in
      let g : given (read_rows most f asked []) ≡ r = rest_is w [] ∙ if_false (eqb G 0) _ G (ne_eqb G 0 (λ (q : G ≡ 0). z (e ∙ q))) ∙ sym e in
      ap (λ (k : ℕ). outcome_by k (payload_of (blocks_in f) f)) g ∙ outcome_refused r (payload_of (blocks_in f) f) z

  pub reader_35 : length_wrong most (length f) ≡ false → given (blocks_rows (blocks_in f) (get_or f 0 0) 0 (blocks_in f) f []) ≡ 0 → (get_or f 0 0 ≡ asked → ⊥)
      → reader_of most f asked ≡ refused 35
  unfolding reader_of
  reader_35 w e z =
      let G = given (blocks_rows (blocks_in f) (get_or f 0 0) 0 (blocks_in f) f []) in
      let g : given (read_rows most f asked []) ≡ 35 =
      rest_is w [] ∙ if_true (eqb G 0) _ G (eq-eqb G 0 e)
      ∙ if_true (not (eqb (get_or f 0 0) asked)) 35 0 (ap not (ne_eqb (get_or f 0 0) asked z)) in
      ap (λ (k : ℕ). outcome_by k (payload_of (blocks_in f) f)) g

  pub reader_made : length_wrong most (length f) ≡ false → given (blocks_rows (blocks_in f) (get_or f 0 0) 0 (blocks_in f) f []) ≡ 0 → get_or f 0 0 ≡ asked
      → reader_of most f asked ≡ made (payload_of (blocks_in f) f)
  unfolding reader_of
  reader_made w e z =
      let G = given (blocks_rows (blocks_in f) (get_or f 0 0) 0 (blocks_in f) f []) in
      let g : given (read_rows most f asked []) ≡ 0 =
      rest_is w [] ∙ if_true (eqb G 0) _ G (eq-eqb G 0 e)
      ∙ if_false (not (eqb (get_or f 0 0) asked)) 35 0 (ap not (eq-eqb (get_or f 0 0) asked z)) in
      outcome_made (given (read_rows most f asked [])) (payload_of (blocks_in f) f) g

  -- and back from bytes that were let through
  pub reader_lets : (p : List ℕ) → reader_of most f asked ≡ made p
      → (length_wrong most (length f) ≡ false) × (given (blocks_rows (blocks_in f) (get_or f 0 0) 0 (blocks_in f) f []) ≡ 0) × (get_or f 0 0 ≡ asked) × (payload_of (blocks_in f) f ≡ p)
  unfolding reader_of
  reader_lets p e =
      let o = outcome_lets (given (read_rows most f asked [])) (payload_of (blocks_in f) f) p e in
      let a = not_given (length_wrong most (length f)) 29 _ o.0 in
      let G = given (blocks_rows (blocks_in f) (get_or f 0 0) 0 (blocks_in f) f []) in
      let r : (if eqb G 0 then given (row 35 (not (eqb (get_or f 0 0) asked)) ∷ []) else G) ≡ 0 = sym (rest_is a.0 []) ∙ o.0 in
      let g : G ≡ 0 = zero_both G _ (eqb G 0) refl r in
      let s = not_given (not (eqb (get_or f 0 0) asked)) 34 0 (sym (if_true (eqb G 0) _ G (eq-eqb G 0 g)) ∙ r) in
      (a.0, g, eqb-true (get_or f 0 0) asked (not-false (eqb (get_or f 0 0) asked) s.0), o.1)
    where
      zero_both : (n k : ℕ) (t : Bool) → eqb n 0 ≡ t → (if eqb n 0 then k else n) ≡ 0 → n ≡ 0
      zero_both n k true q r = eqb-true n 0 q
      zero_both n k false q r = sym (if_false (eqb n 0) k n q) ∙ r

-- the writer's ways out
module _ (most ℓ : ℕ) (p : List ℕ) where
  pub writer_32 : is_letter ℓ ≡ false → writer_of most ℓ p ≡ refused 32
  unfolding writer_of
  writer_32 w =
      let g : given (write_rows most ℓ p []) ≡ 32 = if_true (not (is_letter ℓ)) 32 _ (ap not w) in
      ap (λ (k : ℕ). outcome_by k (file_of ℓ p)) g

  pub writer_36 : is_letter ℓ ≡ true → payload_wrong most (length p) ≡ true → writer_of most ℓ p ≡ refused 36
  unfolding writer_of
  writer_36 w v =
      let g : given (write_rows most ℓ p []) ≡ 36 = if_false (not (is_letter ℓ)) 32 _ (ap not w) ∙ if_true (payload_wrong most (length p)) 36 0 v in
      ap (λ (k : ℕ). outcome_by k (file_of ℓ p)) g

  pub writer_made : is_letter ℓ ≡ true → payload_wrong most (length p) ≡ false → writer_of most ℓ p ≡ made (file_of ℓ p)
  unfolding writer_of
  writer_made w v =
      let g : given (write_rows most ℓ p []) ≡ 0 = if_false (not (is_letter ℓ)) 32 _ (ap not w) ∙ if_false (payload_wrong most (length p)) 36 0 v in
      outcome_made (given (write_rows most ℓ p [])) (file_of ℓ p) g

  pub writer_lets : (f : List ℕ) → writer_of most ℓ p ≡ made f → (is_letter ℓ ≡ true) × (payload_wrong most (length p) ≡ false) × (file_of ℓ p ≡ f)
  unfolding writer_of
  writer_lets f e =
      let o = outcome_lets (given (write_rows most ℓ p [])) (file_of ℓ p) f e in
      let a = not_given (not (is_letter ℓ)) 31 _ o.0 in
      let b = not_given (payload_wrong most (length p)) 35 0 a.1 in
      (not-false (is_letter ℓ) a.0, b.0, o.1)

-- room, for an outcome that is known
pub room_37 : (room : ℕ) (bytes : List ℕ) → room < length bytes → in_room room (made bytes) ≡ refused 37
room_37 room bytes h = if_true (ltb room (length bytes)) (refused 37) (made bytes) (lt-ltb room (length bytes) h)

pub room_made : (room : ℕ) (bytes : List ℕ) → length bytes ≤ room → in_room room (made bytes) ≡ made bytes
room_made room bytes h = if_false (ltb room (length bytes)) (refused 37) (made bytes) (le-ltb room (length bytes) h)
