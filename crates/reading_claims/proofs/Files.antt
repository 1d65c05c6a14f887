-- A reading from a file: its refusals in their order, what they leave, and the letter.
use mathlib.Core.Path.{◌≡◌, refl, sym, ap, ◌∙◌, subst}
use mathlib.Core.Bool.{Bool, true, false}
use mathlib.Core.Logic.{◌↔◌}
use mathlib.Core.List.{List, [], ◌∷◌, ◌++◌}
use Prim.Native.Nat.{ℕ, ◌*◌, ◌≤◌, ◌<◌}
use native.Mathlib.Omega.{arith}
use lib.Dec.{eqb, ltb}
use lib.IntN.{ℤ}
use lib.ListN.{length, get_or, drop, replicate}
use borrow.Author.Tests.{eqb-true, eqb-false, le-ltb}
use Rattle.std.specs.Prelude.{if◌then◌else◌}
use Rattle.common.proofs.Choice.{if_true, if_false}
use Rattle.common.specs.Numbers.{Row, row, given, Foremost, NoRow, numbered}
use Rattle.common.proofs.Numbers.{given_append, given_foremost, given_no_row}
use Rattle.file_codec.specs.File.{Outcome, refused, made, limit, reader_of, writer_of, in_room, left_in, outcome_by}
use Rattle.file_claims.specs.Tabled.{Ordered}
use Rattle.file_claims.proofs.Claims as file-claims
use Rattle.reading_table.specs.Table.{knots, most_knots, table_rows, table_number}
use Rattle.reading.specs.declared.Reading.{Reading}
use Rattle.reading.specs.declared.ReadingAnswer.{ReadingAnswer}
use Rattle.reading.specs.declared.ReadingAnswer.TheVariants.{Read, Refused}
use Rattle.reading.specs.Readings.{reading_of, answer_by, table_answer, answer_as}
use Rattle.reading_claims.specs.Tables.{Table}
use Rattle.reading_claims.specs.Answers.{degrees, payload_in, answer_from, room_left, reader_rows, answer_rows}
use Rattle.reading_claims.proofs.FirstRow.{by_read, refused_by_rows, read_by_rows}
use Rattle.reading_claims.proofs.Judged.{judged_table}
use Rattle.reading_claims.proofs.Bounds.{Plain, plain_reading}

module _ (f : List ℕ) (letter : ℕ) (room : List ℕ) where
  abbrev outcome : Outcome
  outcome = in_room (length room) (reader_of limit f letter)

  abbrev before : List Row
  before = reader_rows f letter (length room) []

  order : Ordered before (payload_in f) outcome
  order = file-claims.reader_order limit f letter (length room)

  -- no row has the number 0
  rows_numbered : (rest : List Row) → numbered rest ≡ true → numbered (reader_rows f letter (length room) rest) ≡ true
  rows_numbered rest m = file-claims.rows_numbered limit f letter (row 37 (ltb (length room) (length (payload_in f))) ∷ rest) m

  -- the table's rows stand below the reader's
  below_reader : (rest : List Row) → reader_rows f letter (length room) rest ≡ before ++ rest
  below_reader rest = file-claims.rows_below limit f letter (row 37 (ltb (length room) (length (payload_in f))) ∷ []) rest

  -- the reader's outcome by its rows
  outcome_is : outcome ≡ outcome_by (given before) (payload_in f)
  outcome_is = go (eqb (given before) 0) refl
    where
      go : (t : Bool) → eqb (given before) 0 ≡ t → outcome ≡ outcome_by (given before) (payload_in f)
      go true q =
          let z : given before ≡ 0 = eqb-true (given before) 0 q in
          order.lets.1 (given_no_row before (rows_numbered [] refl) z) ∙ sym (if_true (eqb (given before) 0) (made (payload_in f)) (refused (given before)) q)
      go false q =
          let z : given before ≡ 0 → ⊥ = eqb-false (given before) 0 q in
          (order.refuses (given before)).1 (given_foremost before (given before) z refl) ∙ sym (if_false (eqb (given before) 0) (made (payload_in f)) (refused (given before)) q)

  -- the answer by all rows
  answer_is : (x : ℤ) → answer_from f letter room x ≡ answer_by (given (answer_rows f letter (length room))) (reading_of (payload_in f) x)
  unfolding table_answer table_number
  answer_is x =
      ap (answer_as x) outcome_is ∙ plain (given before) (eqb (given before) 0) refl
      ∙ ap (λ (n : ℕ). answer_by n (reading_of (payload_in f) x)) (sym (ap given (below_reader (table_rows (payload_in f))) ∙ given_append before (table_rows (payload_in f)) (rows_numbered [] refl)))
    where
      plain : (G : ℕ) (t : Bool) → eqb G 0 ≡ t → answer_as x (outcome_by G (payload_in f)) ≡ answer_by (if eqb G 0 then given (table_rows (payload_in f)) else G) (reading_of (payload_in f) x)
      plain G true q = simp q
      plain G false q = simp q

  -- refused by a number exactly where its row is the first that holds, read exactly where none holds
  pub refused_exactly : (x : ℤ) (n : ℕ) → (n ≡ 0 → ⊥) → answer_from f letter room x ≡ Refused n ↔ Foremost (answer_rows f letter (length room)) n
  refused_exactly x n z =
      subst (λ (a : ReadingAnswer). a ≡ Refused n ↔ Foremost (answer_rows f letter (length room)) n) (sym (answer_is x))
      (refused_by_rows (answer_rows f letter (length room)) (reading_of (payload_in f) x) n z)

  pub read_exactly : (x : ℤ) (r : Reading) → answer_from f letter room x ≡ Read r ↔ (NoRow (answer_rows f letter (length room)) × (r ≡ reading_of (payload_in f) x))
  read_exactly x r =
      subst (λ (a : ReadingAnswer). a ≡ Read r ↔ (NoRow (answer_rows f letter (length room)) × (r ≡ reading_of (payload_in f) x))) (sym (answer_is x))
      (read_by_rows (answer_rows f letter (length room)) (reading_of (payload_in f) x) (rows_numbered (table_rows (payload_in f)) refl) r)

  -- what is left: nothing is touched where the reader refuses; where it does not, the payload is in the front of the room
  pub reader_leaves : (n : ℕ) → Foremost before n → (x : ℤ) → (answer_from f letter room x ≡ Refused n) × (room_left f letter room ≡ room)
  reader_leaves n h x = let e = (order.refuses n).1 h in (ap (answer_as x) e, ap (left_in room) e)

  pub table_leaves : NoRow before → (x : ℤ) → (answer_from f letter room x ≡ table_answer (payload_in f) x) × (room_left f letter room ≡ payload_in f ++ drop (length (payload_in f)) room)
  table_leaves h x = let e = order.lets.1 h in (ap (answer_as x) e, ap (left_in room) e)

  -- an answer that is a reading comes of bytes that the reader made
  made_of : (x : ℤ) (r : Reading) (o : Outcome) → answer_as x o ≡ Read r → (p : List ℕ) × (o ≡ made p)
  made_of x r (refused n) e = absurd (let z : ◌≡◌ {A = ℕ} 0 1 = cc in omega arith)
  made_of x r (made p) e = (p, refl)

  through : (o : Outcome) (p : List ℕ) → in_room (length room) o ≡ made p → o ≡ made p
  through (refused n) p e = e
  through (made q) p e = go (ltb (length room) (length q)) refl
    where
      go : (t : Bool) → ltb (length room) (length q) ≡ t → made q ≡ made p
      go true w = absurd (let y : refused 37 ≡ made p = sym (if_true (ltb (length room) (length q)) (refused 37) (made q) w) ∙ e in let z : ◌≡◌ {A = ℕ} 0 1 = cc in omega arith)
      go false w = sym (if_false (ltb (length room) (length q)) (refused 37) (made q) w) ∙ e

  -- a reading from a file is that of a table: plain, and never refused by the search
  pub read_table : (x : ℤ) (r : Reading) → answer_from f letter room x ≡ Read r → (p : List ℕ) × (Table p × (r ≡ reading_of p x))
  unfolding table_answer
  read_table x r e =
      let m = made_of x r outcome e in
      let b = by_read (table_number m.0) (reading_of m.0 x) r (sym (ap (answer_as x) m.1) ∙ e) in
      (m.0, (judged_table m.0 b.0, b.1))

  pub read_plain : (x : ℤ) (r : Reading) → answer_from f letter room x ≡ Read r → Plain (degrees r)
  read_plain x r e = let m = read_table x r e in subst (λ (s : Reading). Plain (degrees s)) (sym m.1.1) (plain_reading m.0 x m.1.0)

  -- a file that gives a reading has the letter asked for
  pub letter_is : (x : ℤ) (r : Reading) → answer_from f letter room x ≡ Read r → get_or f 0 0 ≡ letter
  letter_is x r e =
      let m = made_of x r outcome e in
      (file-claims.read_holds limit letter f m.0 (through (reader_of limit f letter) m.0 m.1)).0

-- a payload that the reader gives has at most the knots of the limit
pub few_knots : (f : List ℕ) (letter : ℕ) (p : List ℕ) → reader_of limit f letter ≡ made p → knots p ≤ most_knots
few_knots f letter p e = let h = (file-claims.read_holds limit letter f p e).2 in omega (arith, h)

-- a table written under a letter is read under it, and refused 35 under every other
pub written_reads : (letter : ℕ) (p f room : List ℕ) (x : ℤ) → writer_of limit letter p ≡ made f → length p ≤ length room → answer_from f letter room x ≡ table_answer p x
written_reads letter p f room x w h = ap (λ (o : Outcome). answer_as x (in_room (length room) o)) (file-claims.comes_back limit letter p f w) ∙ ap (answer_as x) (if_false (ltb (length room) (length p)) (refused 37) (made p) (le-ltb (length room) (length p) h))

-- a file that the reader refuses gives no reading, and leaves the room
refuses : (f : List ℕ) (asked : ℕ) (room : List ℕ) (x : ℤ) (n : ℕ) → reader_of limit f asked ≡ refused n → (answer_from f asked room x ≡ Refused n) × (room_left f asked room ≡ room)
refuses f asked room x n e = (ap (λ (o : Outcome). answer_as x (in_room (length room) o)) e, ap (λ (o : Outcome). left_in room (in_room (length room) o)) e)

pub written_other : (letter : ℕ) (p f room : List ℕ) (x : ℤ) → writer_of limit letter p ≡ made f → (asked : ℕ) → (letter ≡ asked → ⊥) → (answer_from f asked room x ≡ Refused 35) × (room_left f asked room ≡ room)
written_other letter p f room x w asked z = refuses f asked room x 35 (file-claims.other_letter limit letter p f w asked z)

pub blank_read : (n asked : ℕ) (room : List ℕ) (x : ℤ) → 0 < n → n ≤ limit
    → (answer_from (replicate (512 * n) 255) asked room x ≡ Refused 38) × (room_left (replicate (512 * n) 255) asked room ≡ room)
blank_read n asked room x z l = refuses (replicate (512 * n) 255) asked room x 38 (file-claims.blank_file limit n asked z l)

-- a stored file, of at most 4,096 bytes, is read as it was at eight blocks; one that was read then gives its reading
pub stored_reads : (f : List ℕ) (letter : ℕ) (room : List ℕ) (x : ℤ) → length f ≤ 4096
    → (answer_as x (in_room (length room) (reader_of 8 f letter)) ≡ answer_from f letter room x) × (left_in room (in_room (length room) (reader_of 8 f letter)) ≡ room_left f letter room)
stored_reads f letter room x h =
    let e = (file-claims.stored_files letter f).0 h in
    (ap (λ (o : Outcome). answer_as x (in_room (length room) o)) e, ap (λ (o : Outcome). left_in room (in_room (length room) o)) e)
