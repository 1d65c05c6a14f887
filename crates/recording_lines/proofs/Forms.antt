-- Record lines and records: what is printed is read back, and what is read prints as itself.
use Rattle.std.specs.Prelude.{Option, Some, None}
use mathlib.Core.Path.{◌≡◌, refl, sym, ap, ◌∙◌, subst}
use mathlib.Core.Bool.{Bool, true, false, ◌||◌}
use mathlib.Core.List.{List, [], ◌∷◌, ◌++◌}
use mathlib.Core.Logic.{◌↔◌, ◌⊎◌, inl, inr, ⊎_elim}
use Prim.Native.Nat.{ℕ, zero, suc, ◌+◌, ◌/◌, ◌<◌}
use native.Mathlib.Omega.{arith}
use lib.Dec.{eqb, ltb}
use lib.ListN.{length, get_or, take}
use borrow.Author.Tests.{eqb-true, ne_eqb, ltb-true}
use Rattle.common.proofs.Choice.{if_true, if_false, and_left, and_right, unlike}
use Rattle.recording.specs.declared.Noted.{Noted}
use Rattle.model_types.specs.declared.Cycle.{Cycle}
use Rattle.trace_lines.specs.Lines.{Place, is_at, fits, newline, line_form, is_line, five_digits, two_hex, cycle_stated, decimal_digit, line_of, Fits}
use Rattle.text.specs.Digits.{is_digit, is_hex}
use Rattle.trace_lines.proofs.Places.{both, form_length, form_at}
use Rattle.recording_lines.specs.Records.{cycle_form, answer_form, count_form, record_form, is_record, heard_stated, count_stated, record_stated, answer_text, count_text, record_line, record_line_of, HeardFits, CountFits, RecordFits, Prints}
use Rattle.recording_lines.proofs.Spelled.{spelled, spelled_whole}
use Rattle.recording_lines.proofs.Runs.{long}
use Rattle.recording_lines.proofs.Digits.{printed, again, five_back, two_back, placed, digits}

-- a form over a list put together
fits_both : (ps qs : List Place) (xs ys : List ℕ) → fits ps xs ≡ true → fits qs ys ≡ true → fits (ps ++ qs) (xs ++ ys) ≡ true
unfolding fits
fits_both [] qs [] ys e f = f
fits_both [] qs (x ∷ xs) ys e f = absurd (unlike (sym e))
fits_both (p ∷ ps) qs [] ys e f = absurd (unlike (sym e))
fits_both (p ∷ ps) qs (x ∷ xs) ys e f = both (and_left (is_at p x) (fits ps xs) e) (fits_both ps qs xs ys (and_right (is_at p x) (fits ps xs) e) f)

-- the front of a list of a form
fits_front : (n : ℕ) (ps : List Place) (xs : List ℕ) → fits ps xs ≡ true → fits (take n ps) (take n xs) ≡ true
unfolding fits
fits_front zero ps xs e = refl
fits_front (suc n) [] [] e = refl
fits_front (suc n) [] (x ∷ xs) e = absurd (unlike (sym e))
fits_front (suc n) (p ∷ ps) [] e = absurd (unlike (sym e))
fits_front (suc n) (p ∷ ps) (x ∷ xs) e = both (and_left (is_at p x) (fits ps xs) e) (fits_front n ps xs (and_right (is_at p x) (fits ps xs) e))

-- a list of one of the four forms is a record line
pub one_of : (t k : Bool) (xs : List ℕ) → fits (record_form t k) xs ≡ true → is_record xs ≡ true
unfolding is_record
one_of t k xs e = go t k (fits (record_form true true) xs) (fits (record_form true false) xs) (fits (record_form false true) xs) (fits (record_form false false) xs) refl refl refl refl e
  where
    go : (t k : Bool) (a b c d : Bool) → fits (record_form true true) xs ≡ a → fits (record_form true false) xs ≡ b → fits (record_form false true) xs ≡ c → fits (record_form false false) xs ≡ d
        → fits (record_form t k) xs ≡ true → ((a || b) || (c || d)) ≡ true
    go t k true b c d p q r s e = refl
    go t k false true c d p q r s e = refl
    go t k false false true d p q r s e = refl
    go t k false false false true p q r s e = refl
    go true true false false false false p q r s e = absurd (unlike (sym e ∙ p))
    go true false false false false false p q r s e = absurd (unlike (sym e ∙ q))
    go false true false false false false p q r s e = absurd (unlike (sym e ∙ r))
    go false false false false false false p q r s e = absurd (unlike (sym e ∙ s))

-- and a record line is of one of them
pub by_form : {A : Type 0} (xs : List ℕ) → ((t k : Bool) → fits (record_form t k) xs ≡ true → A) → is_record xs ≡ true → A
unfolding is_record
by_form {A} xs f e = go (fits (record_form true true) xs) (fits (record_form true false) xs) (fits (record_form false true) xs) (fits (record_form false false) xs) refl refl refl refl e
  where
    go : (a b c d : Bool) → fits (record_form true true) xs ≡ a → fits (record_form true false) xs ≡ b → fits (record_form false true) xs ≡ c → fits (record_form false false) xs ≡ d
        → ((a || b) || (c || d)) ≡ true → A
    go true b c d p q r s e = f true true p
    go false true c d p q r s e = f true false q
    go false false true d p q r s e = f false true r
    go false false false true p q r s e = f false false s
    go false false false false p q r s e = absurd (unlike (sym e))

-- what is printed is a line
answer_seen : Option ℕ → Bool
answer_seen (Some w) = true
answer_seen None = false

answer_good : (h : Option ℕ) → HeardFits h → fits (answer_form (answer_seen h)) (answer_text h) ≡ true
unfolding fits answer_seen
answer_good (Some w) f = both (placed 0 w (omega arith) f 17 (omega arith)) (both (placed 0 w (omega arith) f 18 (omega arith)) refl)
answer_good None f = refl

count_good : (t : Bool) (n : ℕ) → CountFits t n → fits (count_form t) (count_text t n) ≡ true
unfolding fits
count_good true n f =
    let p : (i : ℕ) → i < 20 → _ = placed n 0 f (omega arith) in
    both (p 6 (omega arith)) (both (p 7 (omega arith)) (both (p 8 (omega arith)) (both (p 9 (omega arith)) (both (p 10 (omega arith)) refl))))
count_good false n f = refl

pub printed_good : (t : Bool) (r : Noted) → RecordFits t r → is_record (record_line t r) ≡ true
unfolding is_line
printed_good t r f =
    one_of (answer_seen r.heard) t (record_line t r)
    (fits_both cycle_form (answer_form (answer_seen r.heard) ++ count_form t) (take 19 (line_of r.cycle)) (answer_text r.heard ++ count_text t r.busy)
    (fits_front 19 line_form (line_of r.cycle) (printed r.cycle f.0).0)
    (fits_both (answer_form (answer_seen r.heard)) (count_form t) (answer_text r.heard) (count_text t r.busy) (answer_good r.heard f.1) (count_good t r.busy f.2)))

-- and states what was printed
abbrev front : Cycle → List ℕ
front c = take 19 (line_of c)

printed_cycle : (c : Cycle) (ys : List ℕ) → Fits c → cycle_stated (front c ++ ys) ≡ c
unfolding cycle_stated
printed_cycle c ys f = (printed c f).1

printed_heard : (c : Cycle) (h : Option ℕ) (ys : List ℕ) → HeardFits h → heard_stated (front c ++ (answer_text h ++ ys)) ≡ h
unfolding heard_stated
printed_heard c (Some w) ys f = ap Some (two_back 0 w (omega arith) f)
printed_heard c None ys f = refl

no_dash : (n : ℕ) → eqb (decimal_digit n) 45 ≡ false
no_dash n = ne_eqb (decimal_digit n) 45 (λ (e : decimal_digit n ≡ 45). omega arith)

printed_count : (c : Cycle) (h : Option ℕ) (t : Bool) (n : ℕ) → CountFits t n → count_stated (front c ++ (answer_text h ++ count_text t n)) ≡ n
unfolding count_stated
printed_count c (Some w) true n f = if_false _ _ _ (no_dash (n / 10000)) ∙ five_back n 0 f (omega arith)
printed_count c None true n f = if_false _ _ _ (no_dash (n / 10000)) ∙ five_back n 0 f (omega arith)
printed_count c (Some w) false n f = sym f
printed_count c None false n f = sym f

pub printed_record : (t : Bool) (r : Noted) → RecordFits t r → record_stated (record_line t r) ≡ r
unfolding record_stated
printed_record t r f = λ j. record {
  cycle = printed_cycle r.cycle (answer_text r.heard ++ count_text t r.busy) f.0 j;
  heard = printed_heard r.cycle r.heard (count_text t r.busy) f.1 j;
  busy = printed_count r.cycle r.heard t r.busy f.2 j;
}

-- a line has at each place what its form asks for
module _ (t k : Bool) (xs : List ℕ) (e : fits (record_form t k) xs ≡ true) where
  on : (i : ℕ) → ltb i 31 ≡ true → is_at (get_or (record_form t k) i newline) (get_or xs i 0) ≡ true
  on i h = form_at newline (record_form t k) xs e i (let l = ltb-true i 31 h in omega (arith, long t k))

  -- its cycle
  front_line : is_line (spelled 19 0 xs ++ (10 ∷ [])) ≡ true
  unfolding is_line fits
  front_line =
      both (on 0 refl) (both (on 1 refl) (both (on 2 refl) (both (on 3 refl) (both (on 4 refl) (both (on 5 refl) (both (on 6 refl) (both (on 7 refl) (both (on 8 refl)
      (both (on 9 refl) (both (on 10 refl) (both (on 11 refl) (both (on 12 refl) (both (on 13 refl) (both (on 14 refl) (both (on 15 refl) (both (on 16 refl)
      (both (on 17 refl) (both (on 18 refl) refl))))))))))))))))))

  cycle_again : Fits (cycle_stated xs) × (front (cycle_stated xs) ≡ spelled 19 0 xs)
  unfolding cycle_stated
  cycle_again = let q = again (spelled 19 0 xs ++ (10 ∷ [])) front_line in (q.0, ap (take 19) q.1)

-- a byte that a place asks for exactly
is : (b x : ℕ) → eqb b x ≡ true → x ≡ b
is b x e = sym (eqb-true b x e)

zero_digit : is_digit 48 ≡ true
unfolding is_digit
zero_digit = refl

zero_hex : is_hex 48 ≡ true
unfolding is_hex is_digit
zero_hex = refl

-- the answer of a line
abbrev AnswerAgain : List ℕ → Type 0
AnswerAgain xs = HeardFits (heard_stated xs) × (answer_text (heard_stated xs) ≡ spelled 5 19 xs)

answer_again : (t k : Bool) (xs : List ℕ) → fits (record_form t k) xs ≡ true → AnswerAgain xs
unfolding heard_stated
answer_again true k xs e =
    let x = get_or xs 22 0 in
    let y = get_or xs 23 0 in
    let q = digits 48 48 48 48 48 x y zero_digit zero_digit zero_digit zero_digit zero_digit (on true k xs e 22 refl) (on true k xs e 23 refl) in
    subst (λ (h : Option ℕ). HeardFits h × (answer_text h ≡ spelled 5 19 xs)) (sym (if_true (eqb (get_or xs 20 0) 68) (Some (two_hex x y)) None (on true k xs e 20 refl))) (
      q.1,
      λ j. is (get_or xs 19 0) 32 (on true k xs e 19 refl) j ∷ is (get_or xs 20 0) 68 (on true k xs e 20 refl) j ∷ is (get_or xs 21 0) 32 (on true k xs e 21 refl) j
          ∷ q.7 j ∷ q.8 j ∷ [],
    )
answer_again false k xs e =
    let n = is (get_or xs 20 0) 78 (on false k xs e 20 refl) in
    subst (λ (h : Option ℕ). HeardFits h × (answer_text h ≡ spelled 5 19 xs))
    (sym (if_false (eqb (get_or xs 20 0) 68) (Some (two_hex (get_or xs 22 0) (get_or xs 23 0))) None (ap (λ (b : ℕ). eqb b 68) (sym n)))) (
      tt,
      λ j. is (get_or xs 19 0) 32 (on false k xs e 19 refl) j ∷ n j ∷ is (get_or xs 21 0) 32 (on false k xs e 21 refl) j
          ∷ is (get_or xs 22 0) 45 (on false k xs e 22 refl) j ∷ is (get_or xs 23 0) 45 (on false k xs e 23 refl) j ∷ [],
    )

-- the count of a line
abbrev CountAgain : Bool → List ℕ → Type 0
CountAgain t xs = CountFits t (count_stated xs) × (count_text t (count_stated xs) ≡ spelled 7 24 xs)

digit_no_dash : (b : ℕ) → is_digit b ≡ true → eqb b 45 ≡ false
unfolding is_digit
digit_no_dash b e = ne_eqb b 45 (λ (q : b ≡ 45). unlike (sym e ∙ ap is_digit q))

-- what stands at its places
abbrev Sits : Bool → List ℕ → Type 0
Sits k xs =
    (is_at (get_or (count_form k) 0 newline) (get_or xs 24 0) ≡ true) × (is_at (get_or (count_form k) 1 newline) (get_or xs 25 0) ≡ true)
    × (is_at (get_or (count_form k) 2 newline) (get_or xs 26 0) ≡ true) × (is_at (get_or (count_form k) 3 newline) (get_or xs 27 0) ≡ true)
    × (is_at (get_or (count_form k) 4 newline) (get_or xs 28 0) ≡ true) × (is_at (get_or (count_form k) 5 newline) (get_or xs 29 0) ≡ true)
    × (is_at (get_or (count_form k) 6 newline) (get_or xs 30 0) ≡ true)

sits : (t k : Bool) (xs : List ℕ) → fits (record_form t k) xs ≡ true → Sits k xs
sits true k xs e =
    let o = on true k xs e in (o 24 refl, o 25 refl, o 26 refl, o 27 refl, o 28 refl, o 29 refl, o 30 refl)
sits false k xs e =
    let o = on false k xs e in (o 24 refl, o 25 refl, o 26 refl, o 27 refl, o 28 refl, o 29 refl, o 30 refl)

count_again : (k : Bool) (xs : List ℕ) → Sits k xs → CountAgain k xs
unfolding count_stated
count_again true xs s =
    let a = get_or xs 25 0 in
    let b = get_or xs 26 0 in
    let c = get_or xs 27 0 in
    let d = get_or xs 28 0 in
    let f = get_or xs 29 0 in
    let q = digits a b c d f 48 48 s.1 s.2 s.3 s.4 s.5 zero_hex zero_hex in
    subst (λ (n : ℕ). CountFits true n × (count_text true n ≡ spelled 7 24 xs)) (sym (if_false (eqb a 45) 0 (five_digits a b c d f) (digit_no_dash a s.1))) (
      q.0,
      λ j. is (get_or xs 24 0) 32 s.0 j ∷ q.2 j ∷ q.3 j ∷ q.4 j ∷ q.5 j ∷ q.6 j ∷ is (get_or xs 30 0) 10 s.6 j ∷ [],
    )
count_again false xs s =
    subst (λ (n : ℕ). CountFits false n × (count_text false n ≡ spelled 7 24 xs))
    (sym (if_true (eqb (get_or xs 25 0) 45) 0 (five_digits (get_or xs 25 0) (get_or xs 26 0) (get_or xs 27 0) (get_or xs 28 0) (get_or xs 29 0)) s.1)) (
      refl,
      λ j. is (get_or xs 24 0) 32 s.0 j ∷ is (get_or xs 25 0) 45 s.1 j ∷ is (get_or xs 26 0) 45 s.2 j ∷ is (get_or xs 27 0) 45 s.3 j
          ∷ is (get_or xs 28 0) 45 s.4 j ∷ is (get_or xs 29 0) 45 s.5 j ∷ is (get_or xs 30 0) 10 s.6 j ∷ [],
    )

-- a record line has 31 bytes
pub record_length : (xs : List ℕ) → is_record xs ≡ true → length xs ≡ 31
record_length xs = by_form xs (λ (t k : Bool) (e : fits (record_form t k) xs ≡ true). form_length (record_form t k) xs e ∙ long t k)

-- what a line states fits, and prints as the line
line_prints : (t k : Bool) (xs : List ℕ) → fits (record_form t k) xs ≡ true → Prints k (record_stated xs) xs
unfolding record_stated
line_prints t k xs e =
    let c = cycle_again t k xs e in
    let h = answer_again t k xs e in
    let n = count_again k xs (sits t k xs e) in (
      (c.0, h.0, n.0),
      (λ j. c.1 j ++ (h.1 j ++ n.1 j)) ∙ spelled_whole 31 xs (form_length (record_form t k) xs e ∙ long t k),
    )

pub prints : (xs : List ℕ) → is_record xs ≡ true → Prints true (record_stated xs) xs ⊎ Prints false (record_stated xs) xs
prints xs = by_form xs told
  where
    told : (t k : Bool) → fits (record_form t k) xs ≡ true → Prints true (record_stated xs) xs ⊎ Prints false (record_stated xs) xs
    told t true e = inl (line_prints t true xs e)
    told t false e = inr (line_prints t false xs e)

-- a line that is printed is read as what was printed
reads : (k : Bool) (r : Noted) (xs : List ℕ) → Prints k r xs → (is_record xs ≡ true) × (record_stated xs ≡ r)
reads k r xs p = subst (λ (l : List ℕ). (is_record l ≡ true) × (record_stated l ≡ r)) p.1 (printed_good k r p.0, printed_record k r p.0)

pub record_exactly : (xs : List ℕ) (r : Noted) → ((is_record xs ≡ true) × (record_stated xs ≡ r)) ↔ (Prints true r xs ⊎ Prints false r xs)
record_exactly xs r = (
  λ (e : (is_record xs ≡ true) × (record_stated xs ≡ r)). subst (λ (s : Noted). Prints true s xs ⊎ Prints false s xs) e.1 (prints xs e.0),
  λ (p : Prints true r xs ⊎ Prints false r xs). ⊎_elim (reads true r xs) (reads false r xs) p,
)

-- the line of a record reads back
pub record_back : (r : Noted) → RecordFits true r → (is_record (record_line_of r) ≡ true) × (record_stated (record_line_of r) ≡ r)
record_back r f = go (eqb r.busy 0) refl
  where
    go : (b : Bool) → eqb r.busy 0 ≡ b → (is_record (record_line_of r) ≡ true) × (record_stated (record_line_of r) ≡ r)
    go true e = rw e (reads false r (record_line false r) ((f.0, f.1, eqb-true r.busy 0 e), refl))
    go false e = rw e (reads true r (record_line true r) (f, refl))
