-- A text is taken as a table exactly where it is of the form and there is room for its knots.
use mathlib.Core.Path.{◌≡◌, refl, sym, ap, ◌∙◌, subst}
use mathlib.Core.Bool.{Bool, true, false, not, ◌||◌}
use mathlib.Core.List.{List, [], ◌∷◌, ◌++◌, append_assoc}
use mathlib.Core.Logic.{◌↔◌}
use Prim.Native.Nat.{ℕ, ◌+◌, ◌*◌, ◌/◌, ◌≤◌, ◌<◌}
use native.Mathlib.Omega.{arith}
use lib.Dec.{eqb, leb}
use lib.ListN.{length}
use borrow.Author.Tests.{lt-leb, leb-true, leb-false, ne_eqb, eqb-true, not-false}
use Rattle.std.specs.Prelude.{if◌then◌else◌}
use Rattle.common.specs.Lists.{overlaid}
use Rattle.common.proofs.Choice.{if_true, if_false, if_ind, and_left, and_right, or_left, or_right, unlike}
use Rattle.common.proofs.Bytes.{overlaid_length}
use Rattle.text.specs.Digits.{is_digit, digit_of}
use Rattle.reading_text.specs.declared.Number.{Number}
use Rattle.reading_text.specs.declared.Scan.{Scan}
use Rattle.reading_text.specs.declared.WrongLine.{WrongLine}
use Rattle.std.specs.Prelude.{Result, Ok, Err}
use Rattle.reading_text.specs.Numbers.{number_start, fed_digit, fed_minus, fed_other, fed, fed_all, number_fed, is_number}
use Rattle.reading_text.specs.Tables.{Scanned, bits_of, six_of, with_knot, fits_tenths, line_wrong, gap_wrong, stopped_scan, next_number, at_gap, within_line, scan_more, scan_all, table_scanned, is_begun, table_read}
use Rattle.reading_text.proofs.Walks.{line_room, end_wrong, end_right, step_wrong, step_line, step_within}
use Rattle.reading_text_claims.specs.Forms.{all_digits, counted_from, NumberForm, tenths_hold, TableForm, done, knot}
use Rattle.reading_text_claims.proofs.Letters.{at_number, within}
use Rattle.reading_text_claims.proofs.Formed.{formed, number_form}

-- a line at its start, and what its end says
abbrev at_line : ℕ → List ℕ → Scanned
at_line k out = at_number number_start number_start false k out

abbrev Reads : List ℕ → Scanned → ℕ → Type 0
Reads text q n = table_read (scan_all text q).scan ≡ Ok n

abbrev is_knots : Result ℕ WrongLine → Bool
is_knots (Ok n) = true
is_knots (Err e) = false

abbrev knots_told : Result ℕ WrongLine → ℕ
knots_told (Ok n) = n
knots_told (Err e) = e.line

-- a knot leaves the payload as long as it was
knot_length : (out : List ℕ) (k : ℕ) (v t : Number) → length (with_knot out k v t) ≡ length out
unfolding with_knot
knot_length out k v t =
    if_ind (λ (z : List ℕ). length z ≡ length out) (leb (length out / 6) k) out (overlaid out (6 * k) (six_of (bits_of v 4294967296) (bits_of t 65536))) (λ e. refl)
    (λ e. let l = leb-false (length out / 6) k e in overlaid_length out (6 * k) (six_of (bits_of v 4294967296) (bits_of t 65536)) (omega (arith, l)))

-- the ways on: over a space, over a newline
gap_on : (n w : Number) (k : ℕ) (out : List ℕ) → is_number n ≡ true → scan_more (at_number n w false k out).scan 32 out ≡ at_number number_start n true k out
unfolding within_line at_gap gap_wrong
gap_on n w k out h =
    let s : Scan = (at_number n w false k out).scan in
    step_within s 32 out refl refl ∙ ap (λ (z : Scan). record { scan = z; payload = out }) (if_false (gap_wrong s) (stopped_scan s) (next_number s) (ap not h))

line_on : (n w : Number) (k : ℕ) (out : List ℕ) → is_number n ≡ true → fits_tenths n ≡ true → k < length out / 6
    → scan_more (at_number n w true k out).scan 10 out ≡ at_line (k + 1) (with_knot out k w n)
unfolding line_wrong
line_on n w k out h f l =
    let s : Scan = (at_number n w true k out).scan in
    let g : line_wrong s (length out) ≡ false = simp (h, f, lt-leb (length out / 6) k l) in
    step_line s 10 out refl refl ∙ end_right s out g

-- letters of a number
digit_within : (b : ℕ) → is_digit b ≡ true → (eqb b 10 ≡ false) × (eqb b 32 ≡ false)
unfolding is_digit
digit_within b d =
    let l = leb-true 48 b (and_left (leb 48 b) (leb b 57) d) in
    (ne_eqb b 10 (λ q. omega (arith, l, q)), ne_eqb b 32 (λ q. omega (arith, l, q)))

module _ (w : Number) (second : Bool) (k : ℕ) (out : List ℕ) where
  digits_on : (bs rest : List ℕ) (n : Number) → all_digits bs ≡ true → scan_all (bs ++ rest) (at_number n w second k out) ≡ scan_all rest (at_number (fed_all n bs) w second k out)
  digits_on [] rest n d = refl
  digits_on (b ∷ bs) rest n d =
      let p = digit_within b (and_left (is_digit b) (all_digits bs) d) in
      ap (scan_all (bs ++ rest)) (within n w second k out b p.0 p.1) ∙ digits_on bs rest (fed n b) (and_right (is_digit b) (all_digits bs) d)

  signed_on : (m : Bool) (bs rest : List ℕ) (n : Number) → all_digits bs ≡ true
      → scan_all ((if m then 45 ∷ bs else bs) ++ rest) (at_number n w second k out) ≡ scan_all rest (at_number (fed_all n (if m then 45 ∷ bs else bs)) w second k out)
  signed_on true bs rest n d = ap (scan_all (bs ++ rest)) (within n w second k out 45 refl refl) ∙ digits_on bs rest (fed n 45) d
  signed_on false bs rest n d = digits_on bs rest n d

  number_on : (u rest : List ℕ) → NumberForm u → scan_all (u ++ rest) (at_number number_start w second k out) ≡ scan_all rest (at_number (number_fed u) w second k out)
  unfolding number_fed
  number_on u rest f =
      ap (λ (z : List ℕ). scan_all (z ++ rest) (at_number number_start w second k out)) f.is
      ∙ signed_on f.minus f.digits rest number_start f.all
      ∙ ap (λ (z : List ℕ). scan_all rest (at_number (fed_all number_start z) w second k out)) (sym f.is)

-- from the form
form_most : (text : List ℕ) (k n : ℕ) → TableForm text k n → k ≤ n
form_most text k n (done m) = omega arith
form_most text k n (knot v t rest i m f g h r) = let q = form_most rest (i + 1) m r in omega (arith, q)

pub is_number_lem : (u : List ℕ) (f : NumberForm u) → is_number (number_fed u) ≡ true
is_number_lem u f = ap is_number (formed u f)

fits_number : (u : List ℕ) (f : NumberForm u) → tenths_hold f.minus (counted_from 0 f.digits) ≡ true → fits_tenths (number_fed u) ≡ true
unfolding fits_tenths
fits_number u f h = ap fits_tenths (formed u f) ∙ h

form_read : (text : List ℕ) (k n : ℕ) (out : List ℕ) → TableForm text k n → n ≤ length out / 6 → Reads text (at_line k out) n
unfolding table_read is_begun
form_read text k n out (done m) l = refl
form_read text k n out (knot v t rest i m f g h r) l =
    let N = number_fed v in
    let T = number_fed t in
    let most = form_most rest (i + 1) m r in
    let e : scan_all text (at_line i out) ≡ scan_all rest (at_line (i + 1) (with_knot out i N T)) =
    number_on number_start false i out v (32 ∷ (t ++ (10 ∷ rest))) f
    ∙ ap (scan_all (t ++ (10 ∷ rest))) (gap_on N number_start i out (is_number_lem v f))
    ∙ number_on N true i out t (10 ∷ rest) g
    ∙ ap (scan_all rest) (line_on T N i out (is_number_lem t g) (fits_number t g h) (omega (arith, most, l))) in
    ap (λ (q : Scanned). table_read q.scan) e
    ∙ form_read rest (i + 1) m (with_knot out i N T) r (subst (λ (z : ℕ). m ≤ z / 6) (sym (knot_length out i N T)) l)

-- after a wrong line nothing is taken
wrong_stays : (text : List ℕ) (s : Scan) (out : List ℕ) → s.wrong ≡ true → scan_all text (record { scan = s; payload = out }) ≡ record { scan = s; payload = out }
wrong_stays [] s out e = refl
wrong_stays (b ∷ bs) s out e = ap (scan_all bs) (step_wrong s b out e) ∙ wrong_stays bs s out e

never : (text : List ℕ) (s : Scan) (out : List ℕ) (n : ℕ) → s.wrong ≡ true → Reads text (record { scan = s; payload = out }) n → ⊥
unfolding table_read
never text s out n e r =
    let w = ap (λ (q : Scanned). table_read q.scan) (wrong_stays text s out e)
    ∙ if_true s.wrong (Err (record { line = s.knots + 1 })) (if is_begun s then Err (record { line = s.knots + 1 }) else Ok s.knots) e in
    unlike (sym (ap is_knots r) ∙ ap is_knots w)

-- a letter makes a line begun
mid : (a c : Bool) → ((a || true) || c) ≡ true
mid true c = refl
mid false c = refl

last : (a : Bool) → (a || true) ≡ true
last true = refl
last false = refl

abbrev Begun : Number → Type 0
Begun n = ((n.minus || n.some) || n.none) ≡ true

fed_begun : (n : Number) (b : ℕ) → Begun (fed n b)
unfolding fed fed_digit
fed_begun n b =
    if_ind Begun (is_digit b) (fed_digit n b) (if eqb b 45 then fed_minus n else fed_other n)
    (λ d. if_ind Begun (leb 100000000 n.size) (record { minus = n.minus; some = true; none = true; size = 0 }) (record { minus = n.minus; some = true; none = n.none; size = 10 * n.size + digit_of b }) (λ q. mid n.minus true) (λ q. mid n.minus n.none))
    (λ d. if_ind Begun (eqb b 45) (fed_minus n) (fed_other n) (λ q. refl) (λ q. last (n.minus || n.some)))

all_begun : (bs : List ℕ) (n : Number) → Begun n → Begun (fed_all n bs)
all_begun [] n h = h
all_begun (b ∷ bs) n h = all_begun bs (fed n b) (fed_begun n b)

-- one letter more of a number
fed_more : (u : List ℕ) (n : Number) (b : ℕ) → fed (fed_all n u) b ≡ fed_all n (u ++ (b ∷ []))
fed_more [] n b = refl
fed_more (x ∷ u) n b = fed_more u (fed n x) b

-- a text with what stands before it in its line: the first number and its space, where the second is being read
abbrev whole : Bool → List ℕ → List ℕ → List ℕ
whole true v x = v ++ (32 ∷ x)
whole false v x = x

abbrev Goes : List ℕ → ℕ → ℕ → List ℕ → Type 0
Goes text k n out = TableForm text k n × (n ≤ length out / 6)

fits_back : (u : List ℕ) (f : NumberForm u) → fits_tenths (number_fed u) ≡ true → tenths_hold f.minus (counted_from 0 f.digits) ≡ true
unfolding fits_tenths
fits_back u f h = sym (ap fits_tenths (formed u f)) ∙ h

-- a newline: behind the second number the line is a knot, elsewhere it is wrong
line_case : (bs v u : List ℕ) (w : Number) (k n : ℕ) (out : List ℕ) → NumberForm v
    → ((left : List ℕ) → k + 1 ≤ length left / 6 → Reads bs (at_line (k + 1) left) n → Goes bs (k + 1) n left)
    → Reads bs (scan_more (at_number (number_fed u) w true k out).scan 10 out) n → Goes (v ++ (32 ∷ (u ++ (10 ∷ bs)))) k n out
unfolding line_wrong
line_case bs v u w k n out f ih e = go (line_wrong (at_number (number_fed u) w true k out).scan (length out)) refl
  where
    go : (b : Bool) → line_wrong (at_number (number_fed u) w true k out).scan (length out) ≡ b → Goes (v ++ (32 ∷ (u ++ (10 ∷ bs)))) k n out
    go true x =
        let s : Scan = (at_number (number_fed u) w true k out).scan in
        absurd (never bs (stopped_scan s) out n refl (subst (λ (z : Scanned). Reads bs z n) (step_line s 10 out refl refl ∙ end_wrong s out x) e))
    go false x =
        let s : Scan = (at_number (number_fed u) w true k out).scan in
        let N = number_fed u in
        let y = or_left (not (is_number N) || not (fits_tenths N)) (leb (length out / 6) k) x in
        let F = number_form u (not-false (is_number N) (or_left (not (is_number N)) (not (fits_tenths N)) y)) in
        let h = fits_back u F (not-false (fits_tenths N) (or_right (not (is_number N)) (not (fits_tenths N)) y)) in
        let room = line_room s (length out) x in
        let len = knot_length out k w N in
        let r = ih (with_knot out k w N) (subst (λ (z : ℕ). k + 1 ≤ z / 6) (sym len) (omega (arith, room))) (subst (λ (z : Scanned). Reads bs z n) (step_line s 10 out refl refl ∙ end_right s out x) e) in
        (knot v u bs k n f F h r.0, subst (λ (z : ℕ). n ≤ z / 6) len r.1)

no_line : (bs u : List ℕ) (w : Number) (k n : ℕ) (out : List ℕ) → Reads bs (scan_more (at_number (number_fed u) w false k out).scan 10 out) n → ⊥
unfolding line_wrong
no_line bs u w k n out e =
    let s : Scan = (at_number (number_fed u) w false k out).scan in
    never bs (stopped_scan s) out n refl (subst (λ (z : Scanned). Reads bs z n) (step_line s 10 out refl refl ∙ end_wrong s out refl) e)

-- a space: behind the first number the second begins, elsewhere the line is wrong
no_gap : (bs u : List ℕ) (w : Number) (second : Bool) (k n : ℕ) (out : List ℕ) → gap_wrong (at_number (number_fed u) w second k out).scan ≡ true
    → Reads bs (scan_more (at_number (number_fed u) w second k out).scan 32 out) n → ⊥
unfolding within_line at_gap
no_gap bs u w second k n out g e =
    let s : Scan = (at_number (number_fed u) w second k out).scan in
    never bs (stopped_scan s) out n refl
    (subst (λ (z : Scanned). Reads bs z n) (step_within s 32 out refl refl ∙ ap (λ (z : Scan). record { scan = z; payload = out }) (if_true (gap_wrong s) (stopped_scan s) (next_number s) g)) e)

-- what the rest of the text says, from whatever comes next
abbrev Rest : List ℕ → ℕ → Type 0
Rest bs n =
    (second : Bool) (v u : List ℕ) (w : Number) (k : ℕ) (out : List ℕ) → (second ≡ true → NumberForm v) → k ≤ length out / 6
    → Reads bs (at_number (number_fed u) w second k out) n → Goes (whole second v (u ++ bs)) k n out

gap_case : (bs u : List ℕ) (w : Number) (k n : ℕ) (out : List ℕ) → k ≤ length out / 6 → Rest bs n
    → Reads bs (scan_more (at_number (number_fed u) w false k out).scan 32 out) n → Goes (u ++ (32 ∷ bs)) k n out
unfolding gap_wrong number_fed
gap_case bs u w k n out l ih e = go (is_number (number_fed u)) refl
  where
    go : (b : Bool) → is_number (number_fed u) ≡ b → Goes (u ++ (32 ∷ bs)) k n out
    go true h = ih true u [] (number_fed u) k out (λ x. number_form u h) l (subst (λ (z : Scanned). Reads bs z n) (gap_on (number_fed u) w k out h) e)
    go false h = absurd (no_gap bs u w false k n out (ap not h) e)

letter_case : (b : ℕ) (bs : List ℕ) (second : Bool) (v u : List ℕ) (w : Number) (k n : ℕ) (out : List ℕ) → (second ≡ true → NumberForm v) → k ≤ length out / 6 → Rest bs n
    → (c d : Bool) → eqb b 10 ≡ c → eqb b 32 ≡ d
    → Reads bs (scan_more (at_number (number_fed u) w second k out).scan b out) n → Goes (whole second v (u ++ (b ∷ bs))) k n out
unfolding gap_wrong number_fed
letter_case b bs true v u w k n out f l ih true d x y e =
    let q = eqb-true b 10 x in
    subst (λ (z : ℕ). Goes (v ++ (32 ∷ (u ++ (z ∷ bs)))) k n out) (sym q)
    (line_case bs v u w k n out (f refl) (λ left h r. ih false [] [] number_start (k + 1) left (λ z. absurd (unlike (sym z))) h r)
    (subst (λ (z : ℕ). Reads bs (scan_more (at_number (number_fed u) w true k out).scan z out) n) q e))
letter_case b bs false v u w k n out f l ih true d x y e =
    absurd (no_line bs u w k n out (subst (λ (z : ℕ). Reads bs (scan_more (at_number (number_fed u) w false k out).scan z out) n) (eqb-true b 10 x) e))
letter_case b bs true v u w k n out f l ih false true x y e =
    absurd (no_gap bs u w true k n out refl (subst (λ (z : ℕ). Reads bs (scan_more (at_number (number_fed u) w true k out).scan z out) n) (eqb-true b 32 y) e))
letter_case b bs false v u w k n out f l ih false true x y e =
    let q = eqb-true b 32 y in
    subst (λ (z : ℕ). Goes (u ++ (z ∷ bs)) k n out) (sym q)
    (gap_case bs u w k n out l ih (subst (λ (z : ℕ). Reads bs (scan_more (at_number (number_fed u) w false k out).scan z out) n) q e))
letter_case b bs second v u w k n out f l ih false false x y e =
    let g = within (number_fed u) w second k out b x y ∙ ap (λ (z : Number). at_number z w second k out) (fed_more u number_start b) in
    subst (λ (z : List ℕ). Goes (whole second v z) k n out) (append_assoc u (b ∷ []) bs)
    (ih second v (u ++ (b ∷ [])) w k out f l (subst (λ (z : Scanned). Reads bs z n) g e))

-- from the reader to the form
read_form : (text : List ℕ) (n : ℕ) → Rest text n
unfolding number_fed table_read is_begun
read_form [] n true v u w k out f l e = absurd (unlike (sym (ap is_knots e)))
read_form [] n false v [] w k out f l e = let q = ap knots_told e in (subst (λ (z : ℕ). TableForm [] k z) q (done k), subst (λ (z : ℕ). z ≤ length out / 6) q l)
read_form [] n false v (x ∷ u) w k out f l e =
    let N = fed_all (fed number_start x) u in
    let h = if_true ((N.minus || N.some) || N.none) (Err (record { line = k + 1 })) (Ok k) (all_begun u (fed number_start x) (fed_begun number_start x)) in
    absurd (unlike (sym (ap is_knots e) ∙ ap is_knots h))
read_form (b ∷ bs) n second v u w k out f l e = letter_case b bs second v u w k n out f l (read_form bs n) (eqb b 10) (eqb b 32) refl refl e

-- exactly the texts of the form, with room for their knots
pub taken_exactly : (text out : List ℕ) (n : ℕ) → (table_read (table_scanned text out).scan ≡ Ok n) ↔ (TableForm text 0 n × (n ≤ length out / 6))
unfolding table_scanned number_fed
taken_exactly text out n = (λ e. read_form text n false [] [] number_start 0 out (λ z. absurd (unlike (sym z))) (omega arith) e, λ p. form_read text 0 n out p.0 p.1)
