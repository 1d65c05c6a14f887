-- A record line tested as the code tests it: the length, the cycle as a trace line, the answer, the count.
use mathlib.Core.Path.{◌≡◌, refl, sym, ap, ◌∙◌}
use mathlib.Core.Bool.{Bool, true, false, ◌&&◌, ◌||◌}
use mathlib.Core.List.{List, [], ◌∷◌, ◌++◌}
use Prim.Native.Nat.{ℕ, ◌+◌}
use native.Mathlib.Omega.{arith}
use lib.Dec.{eqb}
use lib.ListN.{length}
use borrow.Author.Tests.{eq-eqb}
use Rattle.trace_lines.specs.Lines.{fits, line_form, is_line}
use Rattle.trace_lines.specs.Inner.{met_from}
use Rattle.trace_lines.proofs.Places.{unfit}
use Rattle.trace_lines.proofs.Runs.{met_and, form_met}
use Rattle.recording_lines.specs.Records.{cycle_form, answer_form, count_form, record_form, is_record}
use Rattle.recording_lines.specs.Inner.{trace_line, answer_met, count_met}
use Rattle.recording_lines.proofs.Spelled.{spelled, spelled_front}

-- each of the four forms has 31 places
pub long : (t k : Bool) → length (record_form t k) ≡ 31
long true true = refl
long true false = refl
long false true = refl
long false false = refl

-- the answer and the count behind a test
behind : (b t k : Bool) (xs : List ℕ) → met_from b (answer_form t ++ count_form k) 19 xs ≡ ((b && met_from true (answer_form t) 19 xs) && met_from true (count_form k) 24 xs)
behind b true k xs =
    met_and (met_from b (answer_form true) 19 xs) (count_form k) 24 xs ∙ ap (λ (x : Bool). x && met_from true (count_form k) 24 xs) (met_and b (answer_form true) 19 xs)
behind b false k xs =
    met_and (met_from b (answer_form false) 19 xs) (count_form k) 24 xs ∙ ap (λ (x : Bool). x && met_from true (count_form k) 24 xs) (met_and b (answer_form false) 19 xs)

-- one form in three runs
form_runs : (t k : Bool) (xs : List ℕ) → fits (record_form t k) xs
    ≡ ((met_from (eqb (length xs) 31) cycle_form 0 xs && met_from true (answer_form t) 19 xs) && met_from true (count_form k) 24 xs)
form_runs t k xs =
    form_met (record_form t k) xs
    ∙ ap (λ (n : ℕ). met_from (eqb (length xs) n) (record_form t k) 0 xs) (long t k)
    ∙ behind (met_from (eqb (length xs) 31) cycle_form 0 xs) t k xs

-- the first run is a trace line's
and_yes : (a : Bool) → (a && true) ≡ a
and_yes true = refl
and_yes false = refl

spelled_line : (xs : List ℕ) → is_line (spelled 19 0 xs ++ (10 ∷ [])) ≡ met_from true cycle_form 0 xs
unfolding is_line
spelled_line xs = form_met line_form (spelled 19 0 xs ++ (10 ∷ [])) ∙ and_yes (met_from true cycle_form 0 xs)

pub front_run : (xs : List ℕ) → length xs ≡ 31 → is_line (trace_line xs) ≡ met_from (eqb (length xs) 31) cycle_form 0 xs
front_run xs e =
    ap (λ (l : List ℕ). is_line (l ++ (10 ∷ []))) (sym (spelled_front 19 xs (omega (arith, e))))
    ∙ spelled_line xs
    ∙ ap (λ (b : Bool). met_from b cycle_form 0 xs) (sym (eq-eqb (length xs) 31 e))

-- either answer with either count
either : (f a b c d : Bool) → ((((f && a) && c) || ((f && a) && d)) || (((f && b) && c) || ((f && b) && d))) ≡ ((f && (a || b)) && (c || d))
either false a b c d = refl
either true true b true d = refl
either true true b false true = refl
either true true true false false = refl
either true true false false false = refl
either true false true c d = refl
either true false false c d = refl

-- the tests of the code are the form
pub record_runs : (xs : List ℕ) → length xs ≡ 31 → is_record xs ≡ ((is_line (trace_line xs) && answer_met xs) && count_met xs)
unfolding is_record
record_runs xs e =
    let f : Bool = met_from (eqb (length xs) 31) cycle_form 0 xs in
    let a : Bool = met_from true (answer_form true) 19 xs in
    let b : Bool = met_from true (answer_form false) 19 xs in
    let c : Bool = met_from true (count_form true) 24 xs in
    let d : Bool = met_from true (count_form false) 24 xs in
    (λ j. (form_runs true true xs j || form_runs true false xs j) || (form_runs false true xs j || form_runs false false xs j))
    ∙ either f a b c d
    ∙ ap (λ (x : Bool). (x && (a || b)) && (c || d)) (sym (front_run xs e))

-- a list of another length is no record line
pub not_record : (xs : List ℕ) → (length xs ≡ 31 → ⊥) → is_record xs ≡ false
unfolding is_record
not_record xs h = λ j. (none true true j || none true false j) || (none false true j || none false false j)
  where
    none : (t k : Bool) → fits (record_form t k) xs ≡ false
    none t k = unfit (record_form t k) xs (λ (e : length xs ≡ length (record_form t k)). h (e ∙ long t k))
