-- A higher limit of blocks: what was read and written below the lower one stays.
use mathlib.Core.Path.{◌≡◌, refl, ap}
use mathlib.Core.Bool.{Bool, true, false, not, ◌||◌}
use mathlib.Core.List.{List, [], ◌∷◌}
use Prim.Native.Nat.{ℕ, ◌*◌, ◌%◌, ◌≤◌, ◌<◌}
use native.Mathlib.Omega.{arith}
use lib.Dec.{eqb}
use lib.ListN.{length, get_or}
use borrow.Author.Tests.{lt-ltb, le-ltb}
use Rattle.common.specs.Numbers.{row, given}
use Rattle.file_block.specs.Block.{is_letter}
use Rattle.file_codec.specs.File.{refused, outcome_by, file_of, payload_wrong, writer_of, length_wrong, blocks_in, blocks_rows, payload_of, reader_of}

-- a length up to the lower limit is judged alike, one past it is wrong
pub same_length : (m n size : ℕ) → m ≤ n → size ≤ 512 * m → length_wrong m size ≡ length_wrong n size
unfolding length_wrong
same_length m n size l h = simp (le-ltb (512 * m) size h, le-ltb (512 * n) size (omega arith))

pub long_wrong : (m size : ℕ) → 512 * m < size → length_wrong m size ≡ true
unfolding length_wrong
long_wrong m size h = simp (lt-ltb (512 * m) size h) (go (eqb size 0) (not (eqb (size % 512) 0)))
  where
    go : (a b : Bool) → ((a || true) || b) ≡ true
    go true b = refl
    go false b = refl

pub reads_alike : (m n asked : ℕ) (f : List ℕ) → m ≤ n → length f ≤ 512 * m → reader_of m f asked ≡ reader_of n f asked
unfolding reader_of
reads_alike m n asked f l h =
    let rest = blocks_rows (blocks_in f) (get_or f 0 0) 0 (blocks_in f) f (row 35 (not (eqb (get_or f 0 0) asked)) ∷ []) in
    ap (λ (b : Bool). outcome_by (given (row 30 b ∷ rest)) (payload_of (blocks_in f) f)) (same_length m n (length f) l h)

pub longer_30 : (m asked : ℕ) (f : List ℕ) → 512 * m < length f → reader_of m f asked ≡ refused 30
unfolding reader_of
longer_30 m asked f h =
    let rest = blocks_rows (blocks_in f) (get_or f 0 0) 0 (blocks_in f) f (row 35 (not (eqb (get_or f 0 0) asked)) ∷ []) in
    ap (λ (b : Bool). outcome_by (given (row 30 b ∷ rest)) (payload_of (blocks_in f) f)) (long_wrong m (length f) h)

-- a payload up to the lower limit is written alike
same_payload : (m n size : ℕ) → m ≤ n → size ≤ 505 * m → payload_wrong m size ≡ payload_wrong n size
unfolding payload_wrong
same_payload m n size l h = simp (le-ltb (505 * m) size h, le-ltb (505 * n) size (omega arith))

pub writes_alike : (m n ℓ : ℕ) (p : List ℕ) → m ≤ n → length p ≤ 505 * m → writer_of m ℓ p ≡ writer_of n ℓ p
unfolding writer_of
writes_alike m n ℓ p l h =
    ap (λ (b : Bool). outcome_by (given (row 32 (not (is_letter ℓ)) ∷ row 36 b ∷ [])) (file_of ℓ p)) (same_payload m n (length p) l h)
