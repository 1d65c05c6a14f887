-- What is said of a payload, of a text and of a call, way by way.
use mathlib.Core.Path.{◌≡◌, refl, sym, ap, ◌∙◌}
use mathlib.Core.Bool.{Bool, true, false}
use mathlib.Core.List.{List, ◌++◌}
use Prim.Native.Nat.{ℕ, ◌+◌, ◌-◌, ◌*◌, ◌≤◌, ◌<◌, min}
use native.Mathlib.Omega.{arith}
use lib.Dec.{eqb, ltb, leb}
use lib.ListN.{length, get_or, take, drop, length-append, length-take}
use lib.Seq.{take_all}
use borrow.Author.Tests.{leb-true, leb-false}
use Rattle.std.specs.Prelude.{Result, Ok, Err, if◌then◌else◌}
use Rattle.common.proofs.Choice.{if_true, if_false}
use Rattle.text.specs.Writing.{laid_at, behind, told_on}
use Rattle.text.proofs.Laying.{laid_whole}
use Rattle.file_codec.specs.File.{limit, Outcome, refused, in_room, writer_of, left_in, answered_told, told_by}
use Rattle.file_codec.proofs.Told.{told_made}
use Rattle.reading_table.specs.Table.{table_number}
use Rattle.reading_text.specs.declared.WrongLine.{WrongLine}
use Rattle.reading_text.specs.Tables.{table_scanned, table_read}
use Rattle.table_file.specs.Files.{longest, Said, complaint, refused_line, table_line, wrong_line, file_said, table_said, read_said, scanned_said, long_line, usage, Made, made_of}

-- a file that is written
pub wrote_said : (out : List ℕ) (o : Outcome) (k : ℕ) (left : List ℕ) → length left ≡ length out → answered_told (Ok k) ≡ told_by o → left ≡ left_in out o
    → (record { used = k; stream = 1 } ≡ told_on (file_said o).stream out (file_said o).line) × (left ≡ laid_at out 0 (file_said o).line)
wrote_said out o k left s e l =
    let t = told_made k o e in
    let file = t.0 in
    let w : left ≡ file ++ drop (length file) out = l ∙ ap (left_in out) t.1 in
    let n : length left ≡ length file + length (drop (length file) out) = ap length w ∙ length-append file (drop (length file) out) in
    let h : length file ≤ length out = omega (arith, n, s) in
    let b : k ≡ min (0 + length file) (length out) = omega (arith, t.2, h) in (
      (λ i. record { used = b i; stream = 1 }) ∙ sym (ap (λ (z : Outcome). told_on (file_said z).stream out (file_said z).line) t.1),
      w ∙ sym (laid_whole out file h) ∙ sym (ap (λ (z : Outcome). laid_at out 0 (file_said z).line) t.1),
    )

-- a complaint told
pub complained : (out o : List ℕ) (line : List ℕ) (s : Said) (r : ℕ) → complaint line ≡ s → r ≡ behind out 0 line → o ≡ laid_at out 0 line
    → (record { used = r; stream = 2 } ≡ told_on s.stream out s.line) × (o ≡ laid_at out 0 s.line)
complained out o line s r e p q = ((λ i. record { used = p i; stream = 2 }) ∙ ap (λ (z : Said). told_on z.stream out z.line) e, q ∙ ap (λ (z : Said). laid_at out 0 z.line) e)

-- a table that is good, and one that is refused
module _ (letter room : ℕ) (p : List ℕ) where
  pub good_table : table_number p ≡ 0 → file_said (in_room room (writer_of limit letter p)) ≡ table_said letter room p
  unfolding table_said
  good_table e = sym (if_true (eqb (table_number p) 0) (file_said (in_room room (writer_of limit letter p))) (complaint (table_line (table_number p) p)) (ap (λ (z : ℕ). eqb z 0) e))

  pub bad_table : (n : ℕ) → n ≡ table_number p → eqb n 0 ≡ false → complaint (table_line n p) ≡ table_said letter room p
  unfolding table_said
  bad_table n e f =
      ap (λ (z : ℕ). complaint (table_line z p)) e
      ∙ sym (if_false (eqb (table_number p) 0) (file_said (in_room room (writer_of limit letter p))) (complaint (table_line (table_number p) p)) (ap (λ (z : ℕ). eqb z 0) (sym e) ∙ f))

-- the front of a payload that holds so many knots, as far as there are
pub front_of : (n k : ℕ) (p : List ℕ) → k ≡ min (6 * n) (length p) → take (k - 0) (drop 0 p) ≡ take (6 * n) p
front_of n k p e = go (leb (6 * n) (length p)) refl
  where
    go : (b : Bool) → leb (6 * n) (length p) ≡ b → take (k - 0) (drop 0 p) ≡ take (6 * n) p
    go true f = let h : 6 * n ≤ length p = leb-true _ _ f in ap (λ (z : ℕ). take z p) (let s : k - 0 ≡ 6 * n = omega (arith, e, h) in s)
    go false f =
        let h : length p < 6 * n = leb-false _ _ f in
        let s : length p ≤ k - 0 = omega (arith, e, h) in
        take_all (k - 0) p s ∙ sym (take_all (6 * n) p (omega (arith, h)))

-- a call: good, with a text that is too long, with a letter that is none
module _ (text letter payload : List ℕ) (room : ℕ) where
  abbrev long : Bool
  long = ltb longest (length text)

  abbrev whole : Made
  whole = record { said = scanned_said (get_or letter 0 0) room (table_scanned text payload); payload = (table_scanned text payload).payload }

  abbrev too_long : Made
  too_long = record { said = complaint long_line; payload = payload }

  abbrev misused : Made
  misused = record { said = complaint usage; payload = payload }

  pub made_good : eqb (length letter) 1 ≡ true → long ≡ false → whole ≡ made_of text letter payload room
  unfolding made_of
  made_good e f = sym (if_true (eqb (length letter) 1) (if long then too_long else whole) misused e ∙ if_false long too_long whole f)

  pub made_long : eqb (length letter) 1 ≡ true → long ≡ true → too_long ≡ made_of text letter payload room
  unfolding made_of
  made_long e f = sym (if_true (eqb (length letter) 1) (if long then too_long else whole) misused e ∙ if_true long too_long whole f)

  pub made_wrong : eqb (length letter) 1 ≡ false → misused ≡ made_of text letter payload room
  unfolding made_of
  made_wrong e = sym (if_false (eqb (length letter) 1) (if long then too_long else whole) misused e)

-- told: a writer's refusal, and a line that is no knot
pub refused_told : (out left o₂ : List ℕ) (o : Outcome) (n r : ℕ) → o ≡ refused n → left ≡ left_in out o → r ≡ behind left 0 (refused_line n) → o₂ ≡ laid_at left 0 (refused_line n)
    → (record { used = r; stream = 2 } ≡ told_on (file_said o).stream out (file_said o).line) × (o₂ ≡ laid_at out 0 (file_said o).line)
refused_told out left o₂ o n r e l p q =
    let w : left ≡ out = l ∙ ap (left_in out) e in
    complained out o₂ (refused_line n) (file_said o) r (sym (ap file_said e)) (p ∙ ap (λ (z : List ℕ). behind z 0 (refused_line n)) w) (q ∙ ap (λ (z : List ℕ). laid_at z 0 (refused_line n)) w)

pub line_told : (letter room r : ℕ) (w : WrongLine) (text payload out o₂ : List ℕ) → table_read (table_scanned text payload).scan ≡ Err w → r ≡ behind out 0 (wrong_line w.line) → o₂ ≡ laid_at out 0 (wrong_line w.line)
    → (record { used = r; stream = 2 } ≡ told_on (scanned_said letter room (table_scanned text payload)).stream out (scanned_said letter room (table_scanned text payload)).line) × (o₂ ≡ laid_at out 0 (scanned_said letter room (table_scanned text payload)).line)
line_told letter room r w text payload out o₂ e p q =
    complained out o₂ (wrong_line w.line) (scanned_said letter room (table_scanned text payload)) r (sym (ap (λ (z : Result ℕ WrongLine). read_said letter room z (table_scanned text payload).payload) e)) p q

-- the knots of a text, in the payload that it left
pub read_good : (letter room n k : ℕ) (text payload left : List ℕ) → k ≡ min (6 * n) (length left) → table_read (table_scanned text payload).scan ≡ Ok n → left ≡ (table_scanned text payload).payload
    → table_said letter room (take (k - 0) (drop 0 left)) ≡ scanned_said letter room (table_scanned text payload)
read_good letter room n k text payload left e f l =
    ap (table_said letter room) (front_of n k left e)
    ∙ ap (λ (z : List ℕ). table_said letter room (take (6 * n) z)) l
    ∙ sym (ap (λ (z : Result ℕ WrongLine). read_said letter room z (table_scanned text payload).payload) f)

pub part_most : (k n : ℕ) (p : List ℕ) → k ≡ min (6 * n) (length p) → n ≤ 327680 → length (take (k - 0) (drop 0 p)) ≤ 1966080
part_most k n p e h = let l = length-take (k - 0) (drop 0 p) in omega (arith, l, e, h)
