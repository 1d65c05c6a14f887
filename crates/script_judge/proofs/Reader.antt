-- The script that a text states is the one printed there.
use mathlib.Core.Path.{◌≡◌, refl, sym, ap, subst, ◌∙◌}
use mathlib.Core.List.{List, [], ◌++◌}
use mathlib.Core.Logic.{◌↔◌}
use Prim.Native.Nat.{ℕ, zero, suc, ◌*◌, ◌≤◌}
use native.Mathlib.Omega.{arith}
use lib.ListN.{length, drop}
use Rattle.model_types.specs.declared.Cycle.{Cycle}
use Rattle.trace_lines.specs.Lines.{line_of}
use Rattle.script_lines.specs.declared.Word.{Word}
use Rattle.script_lines.specs.declared.Word.TheVariants.{Ends, Traced, Opens, Closes}
use Rattle.script_lines.specs.Scripts.{Script, done, line, group, open_by, close_by, print_on, Formed, lines_in, lines_written, Allowed}
use Rattle.script_lines.specs.Words.{word_in}
use Rattle.script_lines.specs.Inner.{Stop, nothing, closing}
use Rattle.script_lines.proofs.Forms.{traced_word, closes_word, opens_word, empty_word, printed_line}
use Rattle.script_lines.proofs.Written.{written_length}
use Rattle.script_judge.specs.declared.Judged.{Judged}
use Rattle.script_judge.specs.Judges.{fine_as, script_judged}
use Rattle.script_judge.specs.Reads.{Listed, no_item, line_then, group_then, list_by, list_in, script_in}
use Rattle.script_judge.proofs.Exact.{accepted, was_printed}

-- a list and the text behind it
abbrev listed : Script → List ℕ → Listed
listed s tail = record { script = s; behind = tail }

by_word : (n : ℕ) (text : List ℕ) (w : Word) → word_in (suc n) text ≡ w → list_in (suc n) text ≡ list_by w text (λ (t : List ℕ). list_in n t)
unfolding list_in
by_word n text w e = ap (λ (x : Word). list_by x text (λ (t : List ℕ). list_in n t)) e

none_left : (text : List ℕ) → list_in zero text ≡ no_item text
unfolding list_in
none_left text = refl

stopped : (n : ℕ) (tail : List ℕ) → Stop tail → list_in n tail ≡ no_item tail
stopped zero tail o = none_left tail
stopped (suc n) tail nothing = by_word n [] Ends (empty_word (suc n))
stopped (suc n) tail (closing r) = by_word n (close_by ++ r) Closes (closes_word (suc n) r (omega arith))

pub list_back : (s : Script) (d n : ℕ) (tail : List ℕ) → Formed d s → Stop tail → lines_in s ≤ n → list_in n (print_on s tail) ≡ listed s tail
unfolding Formed print_on lines_in
list_back done d n tail f o l = stopped n tail o
list_back (line c r) d zero tail f o l = absurd (omega arith)
list_back (line c r) d (suc n) tail f o l =
    let T = line_of c ++ print_on r tail in
    by_word n T Traced (traced_word (suc n) c (print_on r tail) (omega arith) f.0)
    ∙ ap (λ (x : Listed). line_then T x) (list_back r d n tail f.1 o (omega arith))
    ∙ ap (λ (x : Cycle). listed (line x r) tail) (printed_line c f.0).1
list_back (group m b r) zero n tail f o l = absurd f
list_back (group m b r) (suc d) zero tail f o l = absurd (omega arith)
list_back (group m b r) (suc d) (suc n) tail f o l =
    let B = close_by ++ print_on r tail in
    let T = open_by m ++ print_on b B in
    let i : list_in n (print_on b B) ≡ listed b B = list_back b d n B f.3 (closing (print_on r tail)) (omega arith) in
    let j : list_in n (print_on r tail) ≡ listed r tail = list_back r (suc d) n tail f.4 o (omega arith) in
    by_word n T (Opens m) (opens_word (suc n) m (print_on b B) (omega arith) f.0 f.1)
    ∙ ap (λ (x : Listed). group_then m x.script (list_in n (drop 2 x.behind))) i
    ∙ ap (λ (x : Listed). group_then m b x) j

-- an allowed script is read back
pub read_back : (s : Script) → Allowed s → script_in (print_on s []) ≡ s
unfolding script_in
read_back s a = ap (λ (x : Listed). x.script) (list_back s 8 3000 [] a.formed nothing a.short)

-- it has no fault, and its lines written out are counted
pub judged_fine : (s : Script) → Allowed s → script_judged (print_on s []) ≡ fine_as (length (lines_written s))
judged_fine s a = accepted s a ∙ ap (λ (m : ℕ). fine_as m) (written_length s 1 ∙ (let e : 1 * length (lines_written s) ≡ length (lines_written s) = omega arith in e))

-- what has no fault is the print of the script read, which is allowed
pub read_printed : (text : List ℕ) → (script_judged text).fault ≡ 0 → Allowed (script_in text) × (print_on (script_in text) [] ≡ text)
read_printed text h =
    let p = was_printed text h in
    let e : script_in text ≡ p.0 = ap (λ (t : List ℕ). script_in t) p.1 ∙ read_back p.0 p.2 in
    (subst (λ (s : Script). Allowed s) (sym e) p.2, ap (λ (s : Script). print_on s []) e ∙ sym p.1)

pub read_exactly : (text : List ℕ) (s : Script) → (((script_judged text).fault ≡ 0) × (script_in text ≡ s)) ↔ (Allowed s × (print_on s [] ≡ text))
read_exactly text s = (
  λ (h : ((script_judged text).fault ≡ 0) × (script_in text ≡ s)).
      let p = read_printed text h.0 in
      (subst (λ (x : Script). Allowed x) h.1 p.0, subst (λ (x : Script). print_on x [] ≡ text) h.1 p.1),
  λ (h : Allowed s × (print_on s [] ≡ text)).
      (ap (λ (t : List ℕ). (script_judged t).fault) (sym h.1) ∙ ap (λ (j : Judged). j.fault) (judged_fine s h.0), ap (λ (t : List ℕ). script_in t) (sym h.1) ∙ read_back s h.0),
)

-- a text with a fault is the print of no allowed script
pub not_read : (text : List ℕ) → ((script_judged text).fault ≡ 0 → ⊥) ↔ ((s : Script) → Allowed s → print_on s [] ≡ text → ⊥)
not_read text = (
  λ (h : (script_judged text).fault ≡ 0 → ⊥) (s : Script) (a : Allowed s) (e : print_on s [] ≡ text). h ((read_exactly text s).1 (a, e)).0,
  λ (h : (s : Script) → Allowed s → print_on s [] ≡ text → ⊥) (z : (script_judged text).fault ≡ 0). h (script_in text) (read_printed text z).0 (read_printed text z).1,
)
