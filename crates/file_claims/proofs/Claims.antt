-- The claims about the load file, for any limit of blocks; `limit` is the one that the promises use.
use mathlib.Core.Path.{◌≡◌, refl, sym, ◌∙◌, ap}
use mathlib.Core.List.{List, [], ◌∷◌, ◌++◌}
use mathlib.Core.Bool.{true, false}
use mathlib.Core.Logic.{◌↔◌}
use Prim.Native.Nat.{ℕ, ◌+◌, ◌*◌, ◌%◌, ◌≤◌, ◌<◌}
use native.Mathlib.Omega.{arith}
use lib.ListN.{length, get_or, take, drop, set, replicate, length-set}
use lib.Seq.{drop-append_seam, get_or-set_other}
use lib.Dec.{ltb}
use Rattle.common.specs.Numbers.{Row, row, numbered}
use Rattle.file_check.specs.Check.{wsum, check_of, check_wrong, stored_of, is_blank, check_number}
use Rattle.file_check.proofs.Verdicts as verdicts
use Rattle.file_block.specs.Block.{is_letter}
use Rattle.file_codec.specs.File.{limit, refused, made, count_of, file_of, reader_of, writer_of, in_room, left_in, length_wrong, blocks_in, payload_of, read_rows, write_rows}
use Rattle.file_codec.proofs.Outcomes.{payload_right, payload_fits, writer_lets, writer_made}
use Rattle.common.specs.Lists.{Bytes}
use Rattle.file_claims.proofs.Written.{written_read, written_other, written_bytes}
use Rattle.file_claims.proofs.Reading as reading
use Rattle.file_claims.proofs.Damage.{damaged, wsum_set}
use Rattle.file_claims.specs.Tabled.{Ordered}
use Rattle.file_claims.specs.Before.{reader_before, told_before}
use Rattle.file_claims.specs.Roomy.{ReadsInto, WritesGivenRoom}
use Rattle.file_claims.proofs.OwnAnswers as own-answers
use Rattle.file_claims.proofs.Raised as raised
use Rattle.file_claims.proofs.Blank as blank
use Rattle.file_claims.proofs.Order as order
use Rattle.file_claims.proofs.Checked as checked

-- what the writer makes of a payload, the reader gives back for that letter
pub comes_back : (most ℓ : ℕ) (p f : List ℕ) → writer_of most ℓ p ≡ made f → reader_of most f ℓ ≡ made p
comes_back = written_read

-- what the reader gives for a letter, the writer makes into that same file
pub goes_back : (most ℓ : ℕ) (f p : List ℕ) → Bytes f → reader_of most f ℓ ≡ made p → writer_of most ℓ p ≡ made f
goes_back = reading.read_written

-- the writer writes exactly the payloads of 1 byte up to 505 for each block of the limit, under one of the eight letters
pub writes_exactly : (most ℓ : ℕ) (p f : List ℕ)
    → writer_of most ℓ p ≡ made f ↔ ((is_letter ℓ ≡ true) × (0 < length p) × (length p ≤ 505 * most) × (f ≡ file_of ℓ p))
writes_exactly most ℓ p f = (
  λ (w : writer_of most ℓ p ≡ made f). let o = writer_lets most ℓ p f w in let r = payload_right most (length p) o.1 in (o.0, r.0, r.1, sym o.2),
  λ (h : (is_letter ℓ ≡ true) × (0 < length p) × (length p ≤ 505 * most) × (f ≡ file_of ℓ p)).
      writer_made most ℓ p h.0 (payload_fits most (length p) h.1 h.2) ∙ ap made (sym h.3),
)

-- a list of bytes is read for a letter, giving p, exactly when the writer could have written it of p under that letter
pub reads_exactly : (most ℓ : ℕ) (f p : List ℕ) → Bytes f
    → reader_of most f ℓ ≡ made p ↔ ((is_letter ℓ ≡ true) × (0 < length p) × (length p ≤ 505 * most) × (f ≡ file_of ℓ p))
reads_exactly most ℓ f p bytes = (
  λ (e : reader_of most f ℓ ≡ made p). (writes_exactly most ℓ p f).0 (reading.read_written most ℓ f p bytes e),
  λ (h : (is_letter ℓ ≡ true) × (0 < length p) × (length p ≤ 505 * most) × (f ≡ file_of ℓ p)). written_read most ℓ p f ((writes_exactly most ℓ p f).1 h),
)

-- What is read, whatever numbers f has: its letter is the one asked, and the payload has 1 byte up to 505 for each block of the limit.
pub read_holds : (most ℓ : ℕ) (f p : List ℕ) → reader_of most f ℓ ≡ made p → (get_or f 0 0 ≡ ℓ) × (0 < length p) × (length p ≤ 505 * most)
read_holds = reading.read_holds

-- A written file has one block for every 505 bytes of the payload that are begun: 4,040 bytes make eight, 4,041 nine, and 113,120 make 224.
pub written_blocks : (most ℓ : ℕ) (p f : List ℕ) → writer_of most ℓ p ≡ made f → length f ≡ 512 * count_of (length p)
written_blocks = checked.written_length

pub blocks_are : (count_of 4040 ≡ 8) × (count_of 4041 ≡ 9) × (count_of 113120 ≡ 224)
blocks_are = (refl, refl, refl)

-- Given room, on the functions' own answers at the limit: bytes f are read for a letter into `out`, with p's length as the answer and
-- p left at the front, exactly when p has room there and the writer, given room, makes f of p under that letter.
pub given_room : (f : List ℕ) (ℓ : ℕ) (out p : List ℕ) → Bytes f → ReadsInto f ℓ out p ↔ ((length p ≤ length out) × WritesGivenRoom ℓ p f)
given_room = own-answers.given_room

-- a file written under one letter is refused 35 for every other byte that is asked
pub other_letter : (most ℓ : ℕ) (p f : List ℕ) → writer_of most ℓ p ≡ made f → (asked : ℕ) → (ℓ ≡ asked → ⊥) → reader_of most f asked ≡ refused 35
other_letter = written_other

-- a written file with one byte changed to any other byte is refused 31, whatever letter is asked
pub changed_byte : (most ℓ : ℕ) (p f : List ℕ) → most < 256 → Bytes p → writer_of most ℓ p ≡ made f
    → (k v : ℕ) → k < length f → v < 256 → (v ≡ get_or f k 0 → ⊥) → (asked : ℕ) → reader_of most (set f k v) asked ≡ refused 31
changed_byte most ℓ p f m bytes w = damaged most ℓ f p (written_bytes most ℓ p f m bytes w) (written_read most ℓ p f w)

-- the same at the limit of the promises
pub changed_byte_here : (ℓ : ℕ) (p f : List ℕ) → Bytes p → writer_of limit ℓ p ≡ made f
    → (k v : ℕ) → k < length f → v < 256 → (v ≡ get_or f k 0 → ⊥) → (asked : ℕ) → reader_of limit (set f k v) asked ≡ refused 31
changed_byte_here ℓ p f = changed_byte limit ℓ p f (omega arith)

-- A limit that is raised leaves what there was: a reader with a lower limit m and one with a higher limit n say the same of every file of
-- at most 512 bytes for each block of m, refusals included; a longer file the lower one refuses 30 ..
pub raised_reads : (m n asked : ℕ) (f : List ℕ) → m ≤ n
    → (length f ≤ 512 * m → reader_of m f asked ≡ reader_of n f asked) × (512 * m < length f → reader_of m f asked ≡ refused 30)
raised_reads m n asked f l = (raised.reads_alike m n asked f l, raised.longer_30 m asked f)

-- (30 alone, which a load asks together with its own)
pub raised_length : (m n size : ℕ) → m ≤ n → (size ≤ 512 * m → length_wrong m size ≡ length_wrong n size) × (512 * m < size → length_wrong m size ≡ true)
raised_length m n size l = (raised.same_length m n size l, raised.long_wrong m size)

-- .. and the files of payloads of at most 505 bytes for each block of m are the same.
pub raised_writes : (m n ℓ : ℕ) (p : List ℕ) → m ≤ n → length p ≤ 505 * m → writer_of m ℓ p ≡ writer_of n ℓ p
raised_writes = raised.writes_alike

-- So the rules at eight blocks and at the limit say the same of files of up to 4,096 bytes, refuse a longer one 30 at eight, and make the
-- same files of payloads of up to 4,040 bytes. The reader as it stood, which did not tell a blank block apart: `stored_before`.
pub stored_files : (asked : ℕ) (f : List ℕ) → (length f ≤ 4096 → reader_of 8 f asked ≡ reader_of limit f asked) × (4096 < length f → reader_of 8 f asked ≡ refused 30)
stored_files asked f = raised_reads 8 limit asked f (omega arith)

pub written_files : (ℓ : ℕ) (p : List ℕ) → length p ≤ 4040 → writer_of 8 ℓ p ≡ writer_of limit ℓ p
written_files ℓ p = raised_writes 8 limit ℓ p (omega arith)

-- the limit in bytes: of a payload and of a file
pub limits_are : (505 * limit ≡ 113120) × (512 * limit ≡ 114688)
limits_are = (refl, refl)

-- but two changes can cancel out: byte 5 up by 2 and byte 11 down by 1 leave the check as it was
pub two_cancel : (xs : List ℕ) (b : ℕ) → 11 < length xs → get_or xs 11 0 ≡ b + 1 → check_of (set (set xs 5 (get_or xs 5 0 + 2)) 11 b) ≡ check_of xs
unfolding check_of
two_cancel xs b h e =
    let ys = set xs 5 (get_or xs 5 0 + 2) in
    let l : length ys ≡ length xs = length-set xs 5 (get_or xs 5 0 + 2) in
    let o : get_or ys 11 0 ≡ get_or xs 11 0 = get_or-set_other xs 5 11 (get_or xs 5 0 + 2) 0 (λ (q : 11 ≡ 5). (omega arith)) in
    let u = wsum_set 1 xs 5 (get_or xs 5 0 + 2) (omega arith) in
    let v = wsum_set 1 ys 11 b (omega arith) in
    let w : wsum 1 (set ys 11 b) ≡ wsum 1 xs = omega arith in
    ap (λ (s : ℕ). (1 + s) % 65521) w

-- a check of 65,521 or more that a block carries is never right
pub never_right : (b : List ℕ) → 65521 ≤ stored_of b → check_wrong b ≡ true
never_right = verdicts.never_right

-- The check itself gives 38 exactly where the block is blank, and 31 exactly where it carries a wrong check and is not.
pub check_38 : (b : List ℕ) → check_number b ≡ 38 ↔ (is_blank b ≡ true)
check_38 = checked.fault_38

pub check_31 : (b : List ℕ) → check_number b ≡ 31 ↔ ((check_of (take 510 b) ≡ stored_of b → ⊥) × (is_blank b ≡ false))
check_31 = checked.fault_31

-- A blank block's check is wrong. So 38 stands only where 31 stood, what was accepted is accepted still and every other number is the same:
-- with 38 told as 31 the reader is, on every file and letter, the one that had no number for a blank block.
pub blank_wrong : (b : List ℕ) → is_blank b ≡ true → check_wrong b ≡ true
blank_wrong = verdicts.blank_wrong

pub named_apart : (most : ℕ) (f : List ℕ) (asked : ℕ) → told_before (reader_of most f asked) ≡ reader_before most f asked
named_apart = blank.named_apart

pub stood_31 : (most : ℕ) (f : List ℕ) (asked : ℕ) → reader_of most f asked ≡ refused 38 → reader_before most f asked ≡ refused 31
stood_31 = blank.stood_31

pub accepted_still : (most : ℕ) (f : List ℕ) (asked : ℕ) (p : List ℕ) → reader_of most f asked ≡ made p ↔ (reader_before most f asked ≡ made p)
accepted_still = blank.accepted_still

pub others_stay : (most : ℕ) (f : List ℕ) (asked n : ℕ) → (n ≡ 31 → ⊥) → reader_before most f asked ≡ refused n → reader_of most f asked ≡ refused n
others_stay = blank.others_stay

-- And so with the limit from before, 8 blocks: the reader as it stood then says of every file of at most 4,096 bytes what the reader says
-- now, with 38 told as 31, and refuses a longer one 30.
pub stored_before : (asked : ℕ) (f : List ℕ)
    → (length f ≤ 4096 → told_before (reader_of limit f asked) ≡ reader_before 8 f asked) × (4096 < length f → reader_before 8 f asked ≡ refused 30)
stored_before asked f = (
  λ (h : length f ≤ 4096). ap told_before (sym ((stored_files asked f).0 h)) ∙ named_apart 8 f asked,
  λ (h : 4096 < length f). sym (named_apart 8 f asked) ∙ ap told_before ((stored_files asked f).1 h),
)

-- a blank file of n blocks is refused 38, for every n up to the limit and every letter asked
pub blank_file : (most n asked : ℕ) → 0 < n → n ≤ most → reader_of most (replicate (512 * n) 255) asked ≡ refused 38
blank_file = blank.blank_file

-- each number is given exactly when its own condition holds and no earlier one does: the writer 32, 36, 37
pub writer_order : (most ℓ : ℕ) (p : List ℕ) (room : ℕ)
    → Ordered (write_rows most ℓ p (row 37 (ltb room (length (file_of ℓ p))) ∷ [])) (file_of ℓ p) (in_room room (writer_of most ℓ p))
writer_order = order.writes_in_order

-- the judgement: 30, then block by block 38 or else 31, then 32, 33, 34; then 35
pub judge_order : (most : ℕ) (f : List ℕ) (asked : ℕ) → Ordered (read_rows most f asked []) (payload_of (blocks_in f) f) (reader_of most f asked)
judge_order = order.judges_in_order

-- the reader the same, then 37
pub reader_order : (most : ℕ) (f : List ℕ) (asked room : ℕ)
    → Ordered (read_rows most f asked (row 37 (ltb room (length (payload_of (blocks_in f) f))) ∷ [])) (payload_of (blocks_in f) f) (in_room room (reader_of most f asked))
reader_order = order.reads_in_order

-- No row of the reader's table has the number 0, and rows that a caller asks after them stand below them.
pub rows_numbered : (most : ℕ) (f : List ℕ) (asked : ℕ) (after : List Row) → numbered after ≡ true → numbered (read_rows most f asked after) ≡ true
rows_numbered = order.read_numbered

pub rows_below : (most : ℕ) (f : List ℕ) (asked : ℕ) (above after : List Row) → read_rows most f asked (above ++ after) ≡ read_rows most f asked above ++ after
rows_below = order.read_below

-- a refusal leaves the buffer, and bytes past the answer stay
pub untouched : (out : List ℕ) (n : ℕ) → left_in out (refused n) ≡ out
untouched out n = refl

pub past_stays : (out bytes : List ℕ) → drop (length bytes) (left_in out (made bytes)) ≡ drop (length bytes) out
past_stays out bytes = drop-append_seam bytes (drop (length bytes) out)
