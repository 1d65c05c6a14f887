-- No other line is the first at fault, and none in an allowed script.
use mathlib.Core.Path.{◌≡◌, refl, sym, ap, subst, ◌∙◌}
use mathlib.Core.Bool.{Bool, true, false}
use mathlib.Core.List.{List, [], ◌∷◌, ◌++◌, append_assoc, append-nil}
use Prim.Native.Nat.{ℕ, zero, suc, ◌+◌, ◌*◌, ◌≤◌, ◌<◌}
use native.Mathlib.Omega.{arith}
use lib.Dec.{ltb}
use lib.ListN.{length, drop, get_or, length-append}
use borrow.Author.Tests.{ltb-true, ltb-false}
use Rattle.model_types.specs.declared.Cycle.{Cycle}
use Rattle.trace_lines.specs.Lines.{line_of, Fits}
use Rattle.script_lines.specs.Scripts.{Script, done, line, group, open_by, close_by, print_on, lines_in, written_in, Allowed}
use Rattle.script_lines.proofs.Forms.{same_count, same_line, line_high}
use Rattle.script_judge.specs.Judges.{script_judged}
use Rattle.script_judge.specs.Faults.{Mark, a_line, an_open, a_close, form_of, marks_on, bytes_on, sums, Fine, FaultAt}
use Rattle.script_judge.proofs.Exact.{was_printed}
use Rattle.script_judge.proofs.Starts.{Walks, walks_front, begins_walks, walks_begins}
use Rattle.script_judge.proofs.Fault.{first_fault}

abbrev Proper : Mark → Type 0
Proper (a_line k) = Fits k
Proper (an_open n) = n ≤ 999
Proper a_close = Unit {0}

Propers : List Mark → Type 0
Propers [] = Unit {0}
Propers (m ∷ ms) = Proper m × Propers ms

propers : (ms : List Mark) (h : ℕ) (e : Bool) → Walks h e ms → Propers ms
unfolding Walks Propers
propers [] h e w = tt
propers (a_line k ∷ ms) h e w = (w.0, propers ms h false w.1)
propers (an_open n ∷ ms) h e w = (w.1, propers ms (suc h) true w.3)
propers (a_close ∷ ms) zero e w = absurd w
propers (a_close ∷ ms) (suc h) true w = absurd w
propers (a_close ∷ ms) (suc h) false w = (tt, propers ms h false w)

first : {x y : List ℕ} → x ≡ y → get_or x 0 0 ≡ get_or y 0 0
first e = ap (λ (l : List ℕ). get_or l 0 0) e

line_once : (m m' : Mark) (x x' : List ℕ) → Proper m → Proper m' → form_of m ++ x ≡ form_of m' ++ x' → (m ≡ m') × (x ≡ x')
line_once (a_line k) (a_line k') x x' p p' e = let a = same_line k k' x x' p p' e in (ap (λ (i : Cycle). a_line i) a.0, a.1)
line_once (a_line k) (an_open n) x x' p p' e = let a = line_high k in let b = first e in absurd (omega arith)
line_once (a_line k) a_close x x' p p' e = let a = line_high k in let b = first e in absurd (omega arith)
line_once (an_open n) (a_line k) x x' p p' e = let a = line_high k in let b = first e in absurd (omega arith)
line_once (an_open n) (an_open n') x x' p p' e =
    (ap (λ (i : ℕ). an_open i) (same_count n n' p p' x x' e), ap (λ (l : List ℕ). drop 6 l) e)
line_once (an_open n) a_close x x' p p' e = let b = first e in absurd (omega arith)
line_once a_close (a_line k) x x' p p' e = let a = line_high k in let b = first e in absurd (omega arith)
line_once a_close (an_open n) x x' p p' e = let b = first e in absurd (omega arith)
line_once a_close a_close x x' p p' e = (refl, ap (λ (l : List ℕ). drop 2 l) e)

-- of two readings of one text the longer begins with the shorter
record Longer (ms : List Mark) (rest : List ℕ) (ms' : List Mark) : Type 0 where
  mark : Mark
  after : List Mark
  left : List ℕ
  rest_is : rest ≡ form_of mark ++ left
  marks_are : ms' ≡ ms ++ (mark ∷ after)

longer : (ms ms' : List Mark) (rest rest' : List ℕ) → Propers ms → Propers ms' → bytes_on ms rest ≡ bytes_on ms' rest' → length ms < length ms' → Longer ms rest ms'
unfolding bytes_on Propers
longer [] [] rest rest' p p' e l = absurd (omega arith)
longer [] (m ∷ ms') rest rest' p p' e l = record { mark = m; after = ms'; left = bytes_on ms' rest'; rest_is = e; marks_are = refl }
longer (a ∷ ms) [] rest rest' p p' e l = absurd (omega arith)
longer (a ∷ ms) (b ∷ ms') rest rest' p p' e l =
    let o = line_once a b (bytes_on ms rest) (bytes_on ms' rest') p.0 p'.0 e in
    let i = longer ms ms' rest rest' p.1 p'.1 o.1 (omega arith) in
    record { mark = i.mark; after = i.after; left = i.left; rest_is = i.rest_is; marks_are = ap (λ (x : Mark). x ∷ ms') (sym o.0) ∙ ap (λ (x : List Mark). a ∷ x) i.marks_are }

sums_front : (ms : List Mark) (K : List ℕ) (p : ℕ) (more : List Mark) → sums K p ms ≤ sums K p (ms ++ more)
unfolding sums
sums_front [] K p more = omega arith
sums_front (a_line k ∷ ms) K p more = let i = sums_front ms K p more in omega arith
sums_front (an_open n ∷ ms) K p more = sums_front ms (p ∷ K) (p * n) more
sums_front (a_close ∷ ms) [] p more = sums_front ms [] p more
sums_front (a_close ∷ ms) (q ∷ K) p more = sums_front ms K q more

fine_front : (ms more : List Mark) → Fine (ms ++ more) → Fine ms
fine_front ms more f =
    let a = f.short in let b = f.few in let c = length-append ms more in let d = sums_front ms [] 1 more in
    record { begins = walks_begins ms (walks_front ms 0 false more (begins_walks (ms ++ more) f.begins)); short = omega arith; few = omega arith }

fine_next : (ms : List Mark) (m : Mark) (more : List Mark) → Fine (ms ++ (m ∷ more)) → Fine (ms ++ (m ∷ []))
fine_next ms m more f = fine_front (ms ++ (m ∷ [])) more (subst (λ (x : List Mark). Fine x) (sym (append_assoc ms (m ∷ []) more)) f)

not_longer : (text : List ℕ) (i j : ℕ) (f : FaultAt text i) (ms' : List Mark) (rest' : List ℕ) → text ≡ bytes_on ms' rest' → Fine ms' → length f.before < length ms' → ⊥
not_longer text i j f ms' rest' e g l =
    let o = longer f.before ms' f.behind rest' (propers f.before 0 false (begins_walks f.before f.fine.begins)) (propers ms' 0 false (begins_walks ms' g.begins)) (sym f.text_is ∙ e) l in
    f.not_fine o.mark o.left o.rest_is (fine_next f.before o.mark o.after (subst (λ (x : List Mark). Fine x) o.marks_are g))

pub one_fault : (text : List ℕ) (i j : ℕ) → FaultAt text i → FaultAt text j → i ≡ j
one_fault text i j f g = by (ltb (length f.before) (length g.before)) (ltb (length g.before) (length f.before)) refl refl where
  by : (x y : Bool) → ltb (length f.before) (length g.before) ≡ x → ltb (length g.before) (length f.before) ≡ y → i ≡ j
  by true y a b = absurd (not_longer text i j f g.before g.behind g.text_is g.fine (ltb-true (length f.before) (length g.before) a))
  by false true a b = absurd (not_longer text j i g f.before f.behind f.text_is f.fine (ltb-true (length g.before) (length f.before) b))
  by false false a b =
      let l = ltb-false (length f.before) (length g.before) a in let k = ltb-false (length g.before) (length f.before) b in
      let u = f.number in let v = g.number in omega arith

-- ---- an allowed script has no line at fault
bytes_marks : (s : Script) (ms : List Mark) (rest : List ℕ) → bytes_on (marks_on s ms) rest ≡ print_on s (bytes_on ms rest)
unfolding bytes_on marks_on print_on
bytes_marks done ms rest = refl
bytes_marks (line k r) ms rest = ap (λ (x : List ℕ). line_of k ++ x) (bytes_marks r ms rest)
bytes_marks (group n b r) ms rest = ap (λ (x : List ℕ). open_by n ++ x) (bytes_marks b (a_close ∷ marks_on r ms) rest ∙ ap (λ (x : List ℕ). print_on b (close_by ++ x)) (bytes_marks r ms rest))

length_marks : (s : Script) (ms : List Mark) → length (marks_on s ms) ≡ lines_in s + length ms
unfolding marks_on lines_in
length_marks done ms = omega arith
length_marks (line k r) ms = let i = length_marks r ms in omega arith
length_marks (group n b r) ms = let i = length_marks r ms in let j = length_marks b (a_close ∷ marks_on r ms) in omega arith

sums_marks : (s : Script) (K : List ℕ) (p : ℕ) (ms : List Mark) → sums K p (marks_on s ms) ≡ written_in p s + sums K p ms
unfolding marks_on written_in sums
sums_marks done K p ms = omega arith
sums_marks (line k r) K p ms = let i = sums_marks r K p ms in omega arith
sums_marks (group n b r) K p ms = let i = sums_marks r K p ms in let j = sums_marks b (p ∷ K) (p * n) (a_close ∷ marks_on r ms) in omega arith

pub allowed_fine : (s : Script) → Allowed s → Fine (marks_on s [])
unfolding sums
allowed_fine s a =
    let b = a.short in let c = a.few in let d = length_marks s [] in let e = sums_marks s [] 1 [] in
    record { begins = record { more = []; script = s; formed = a.formed; lines = append-nil (marks_on s []) }; short = omega arith; few = omega arith }

same : (ms ms' : List Mark) (rest rest' : List ℕ) → Propers ms → Propers ms' → bytes_on ms rest ≡ bytes_on ms' rest' → length ms ≡ length ms' → (ms ≡ ms') × (rest ≡ rest')
unfolding bytes_on Propers
same [] [] rest rest' p p' e l = (refl, e)
same [] (m ∷ ms') rest rest' p p' e l = absurd (omega arith)
same (a ∷ ms) [] rest rest' p p' e l = absurd (omega arith)
same (a ∷ ms) (b ∷ ms') rest rest' p p' e l =
    let o = line_once a b (bytes_on ms rest) (bytes_on ms' rest') p.0 p'.0 e in
    let i = same ms ms' rest rest' p.1 p'.1 o.1 (omega arith) in
    (ap (λ (x : Mark). x ∷ ms) o.0 ∙ ap (λ (x : List Mark). b ∷ x) i.0, i.1)

form_some : (m : Mark) (left : List ℕ) → [] ≡ form_of m ++ left → ⊥
form_some (a_line k) left e = let a = ap (λ (l : List ℕ). length l) e in absurd (omega arith)
form_some (an_open n) left e = let a = ap (λ (l : List ℕ). length l) e in absurd (omega arith)
form_some a_close left e = let a = ap (λ (l : List ℕ). length l) e in absurd (omega arith)

pub no_fault_in : (s : Script) (i : ℕ) → Allowed s → FaultAt (print_on s []) i → ⊥
unfolding bytes_on
no_fault_in s i a f = by (ltb (length f.before) (length (marks_on s []))) (ltb (length (marks_on s [])) (length f.before)) refl refl where
  e : print_on s [] ≡ bytes_on (marks_on s []) []
  e = sym (bytes_marks s [] [])

  P : Propers (marks_on s [])
  P = propers (marks_on s []) 0 false (begins_walks (marks_on s []) (allowed_fine s a).begins)

  Q : Propers f.before
  Q = propers f.before 0 false (begins_walks f.before f.fine.begins)

  by : (x y : Bool) → ltb (length f.before) (length (marks_on s [])) ≡ x → ltb (length (marks_on s [])) (length f.before) ≡ y → ⊥
  by true y b c = not_longer (print_on s []) i i f (marks_on s []) [] e (allowed_fine s a) (ltb-true (length f.before) (length (marks_on s [])) b)
  by false true b c =
      let o = longer (marks_on s []) f.before [] f.behind P Q (sym e ∙ f.text_is) (ltb-true (length (marks_on s [])) (length f.before) c) in
      form_some o.mark o.left o.rest_is
  by false false b c =
      let l = ltb-false (length f.before) (length (marks_on s [])) b in let k = ltb-false (length (marks_on s [])) (length f.before) c in
      let o = same f.before (marks_on s []) f.behind [] Q P (sym f.text_is ∙ e) (omega arith) in
      f.not_whole o.1 s a.formed o.0

-- the judge's number, both ways: 0 exactly for the printed allowed scripts, i exactly where line i is the first at fault
pub faulted : (text : List ℕ) (i : ℕ) → FaultAt text i → (script_judged text).fault ≡ i
faulted text i f = by (script_judged text).fault refl where
  by : (r : ℕ) → (script_judged text).fault ≡ r → r ≡ i
  by zero e = let s = was_printed text e in absurd (no_fault_in s.0 i s.2 (subst (λ (x : List ℕ). FaultAt x i) s.1 f))
  by (suc r) e = one_fault text (suc r) i (first_fault text (suc r) e (λ z. absurd (omega arith))) f
