-- A table's lines, laid one behind the other, and what is said of a file, way by way.
use mathlib.Core.Path.{◌≡◌, refl, sym, ap, ◌∙◌, subst}
use mathlib.Core.Bool.{true, false}
use mathlib.Core.List.{List, ◌++◌}
use Prim.Native.Nat.{ℕ, suc, ◌+◌, ◌-◌, ◌/◌, ◌≤◌, ◌<◌}
use native.Mathlib.Omega.{arith}
use lib.IntN.{ℤ}
use lib.Dec.{eqb}
use lib.ListN.{length, get_or, take, drop, length-append}
use lib.Seq.{take_at}
use Rattle.common.proofs.Choice.{if_true, if_false}
use Rattle.text.specs.Writing.{laid_at, behind, told_on}
use Rattle.file_codec.specs.File.{limit, Outcome, in_room, left_in, reader_of}
use Rattle.text.proofs.Laying.{Laid, laid_first, laid_more, laid_none, laid_length}
use Rattle.reading_table.specs.Table.{knots, volts_of, tenths_of, table_number}
use Rattle.reading_print.specs.Texts.{knot_text}
use Rattle.table_text.specs.Printed.{lines_of, table_text}
use Rattle.table_text.specs.Shown.{Said, refused_said, table_said, file_said, usage, Shown, shown_of}

-- the lines that are left, laid behind those that stand, are the table's
pub record Goes (xs p now : List ℕ) (n i at : ℕ) : Type 0 where
  pub place : behind now at (lines_of (n - i) i p) ≡ behind xs 0 (table_text p)
  pub bytes : laid_at now at (lines_of (n - i) i p) ≡ laid_at xs 0 (table_text p)
  pub inside : at ≤ length now

pub goes_start : (xs p : List ℕ) → Goes xs p xs (length p / 6) 0 0
goes_start xs p =
    let e : knots p - 0 ≡ knots p = omega arith in
    record {
      place = ap (λ (k : ℕ). behind xs 0 (lines_of k 0 p)) e;
      bytes = ap (λ (k : ℕ). laid_at xs 0 (lines_of k 0 p)) e;
      inside = omega arith;
    }

-- one line more
pub goes_on : (xs p now next : List ℕ) (n i at to : ℕ) (v t : ℤ) → Goes xs p now n i at → i < n → v ≡ volts_of p i → t ≡ tenths_of p i
    → to ≡ behind now at (knot_text v t) → next ≡ laid_at now at (knot_text v t) → Goes xs p next n (i + 1) to
goes_on xs p now next n i at to v t g h ev et ep eb =
    let e : n - i ≡ suc (n - (i + 1)) = omega (arith, h) in
    let K = knot_text (volts_of p i) (tenths_of p i) in
    let R = lines_of (n - (i + 1)) (i + 1) p in
    let k : knot_text v t ≡ K = λ j. knot_text (ev j) (et j) in
    let f : Laid now at K next to = subst (λ (z : List ℕ). Laid now at z next to) k (laid_first now (knot_text v t) next at to ep eb) in
    let l = laid_more now K R next (laid_at next to R) at to (behind next to R) f refl refl in
    let w : K ++ R ≡ lines_of (n - i) i p = sym (ap (λ (m : ℕ). lines_of m i p) e) in
    let m : length next ≡ length now = ap length f.bytes ∙ laid_length now at K in
    let q = f.place in
    record {
      place = l.place ∙ ap (behind now at) w ∙ g.place;
      bytes = l.bytes ∙ ap (laid_at now at) w ∙ g.bytes;
      inside = omega (arith, q, m);
    }

-- no line more
pub goes_end : (xs p now : List ℕ) (n i at : ℕ) → Goes xs p now n i at → n ≤ i → (at ≡ behind xs 0 (table_text p)) × (now ≡ laid_at xs 0 (table_text p))
goes_end xs p now n i at g h =
    let e : n - i ≡ 0 = omega (arith, h) in
    let l = laid_none now at g.inside in
    let w : lines_of 0 i p ≡ lines_of (n - i) i p = sym (ap (λ (m : ℕ). lines_of m i p) e) in
    (l.place ∙ ap (behind now at) w ∙ g.place, l.bytes ∙ ap (laid_at now at) w ∙ g.bytes)

-- what is said: a refusal told
pub complained : (out o : List ℕ) (n : ℕ) (s : Said) (r : ℕ) → refused_said n ≡ s → r ≡ behind out 0 (refused_said n).line → o ≡ laid_at out 0 (refused_said n).line
    → (record { used = r; stream = 2 } ≡ told_on s.stream out s.line) × (o ≡ laid_at out 0 s.line)
complained out o n s r e p q = ((λ i. record { used = p i; stream = 2 }) ∙ ap (λ (z : Said). told_on z.stream out z.line) e, q ∙ ap (λ (z : Said). laid_at out 0 z.line) e)

-- a table that is good, and one that is refused
pub good_table : (p : List ℕ) → table_number p ≡ 0 → record { line = table_text p; stream = 1 } ≡ table_said p
unfolding table_said
good_table p e = sym (if_true (eqb (table_number p) 0) (record { line = table_text p; stream = 1 }) (refused_said (table_number p)) (ap (λ (z : ℕ). eqb z 0) e))

pub bad_table : (p : List ℕ) (n : ℕ) → n ≡ table_number p → eqb n 0 ≡ false → refused_said n ≡ table_said p
unfolding table_said
bad_table p n e f = ap refused_said e ∙ sym (if_false (eqb (table_number p) 0) (record { line = table_text p; stream = 1 }) (refused_said (table_number p)) (ap (λ (z : ℕ). eqb z 0) (sym e) ∙ f))

-- a call: good, and with a letter that is none
module _ (file letter room : List ℕ) where
  abbrev o : Outcome
  o = in_room (length room) (reader_of limit file (get_or letter 0 0))

  abbrev whole : Shown
  whole = record { said = file_said o; room = left_in room o }

  abbrev misused : Shown
  misused = record { said = record { line = usage; stream = 2 }; room = room }

  pub shown_good : eqb (length letter) 1 ≡ true → whole ≡ shown_of file letter room
  unfolding shown_of
  shown_good e = sym (if_true (eqb (length letter) 1) whole misused e)

  pub shown_wrong : eqb (length letter) 1 ≡ false → misused ≡ shown_of file letter room
  unfolding shown_of
  shown_wrong e = sym (if_false (eqb (length letter) 1) whole misused e)
