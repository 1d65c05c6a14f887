-- The judge gives the first line at fault.
use mathlib.Core.Path.{◌≡◌, refl, sym, ap, subst, ◌∙◌}
use mathlib.Core.Bool.{Bool, true, false}
use mathlib.Core.List.{List, [], ◌∷◌, ◌++◌}
use Prim.Native.Nat.{ℕ, zero, suc, ◌+◌, ◌-◌, ◌*◌, ◌≤◌, ◌<◌}
use native.Mathlib.Omega.{arith}
use native.Mathlib.Nat.{mul-le-mul_left}
use lib.Dec.{ltb, leb}
use lib.ListN.{length, take, drop}
use borrow.Author.Tests.{ltb-true, ltb-false, leb-true, leb-false}
use Rattle.std.specs.Prelude.{if◌then◌else◌}
use Rattle.trace_lines.specs.Lines.{line_of, cycle_stated}
use Rattle.script_lines.specs.declared.Word.{Word}
use Rattle.script_lines.specs.declared.Word.TheVariants.{Ends, Bad, Traced, Opens, Closes}
use Rattle.script_lines.specs.Scripts.{open_by, close_by}
use Rattle.script_lines.specs.Words.{word_in}
use Rattle.script_lines.proofs.Words.{code}
use Rattle.script_lines.proofs.Forms.{word_traced, word_closes, word_opens, traced_text, closes_text, opens_text, traced_word, closes_word, opens_word, empty_word}
use Rattle.script_judge.specs.declared.Judged.{Judged}
use Rattle.script_judge.specs.Judges.{capped, judge, script_judged}
use Rattle.script_judge.specs.Faults.{Mark, a_line, an_open, a_close, form_of, bytes_on, sums, FaultAt}
use Rattle.script_judge.proofs.Rounds.{round, j_bad, j_traced, j_traced_over, j_open, j_open_deep, j_close, j_close_true}
use Rattle.script_judge.proofs.Exact.{capped_under}
use Rattle.script_judge.proofs.Starts.{Walks, Whole, whole_flat, whole_script, begins_walks, walks_begins}

-- ---- a product over 9,999 may stand as 9,999
abbrev pub caps : List ℕ → List ℕ
caps [] = []
caps (q ∷ K) = capped q ∷ caps K

caps_length : (K : List ℕ) → length (caps K) ≡ length K
caps_length [] = refl
caps_length (q ∷ K) = ap (λ (i : ℕ). suc i) (caps_length K)

cap_high : (p : ℕ) → 9999 ≤ p → capped p ≡ 9999
cap_high p l = by (leb p 9999) refl where
  by : (x : Bool) → leb p 9999 ≡ x → (if x then p else 9999) ≡ 9999
  by true e = let a = leb-true p 9999 e in omega arith
  by false e = refl

cap_mul : (p n : ℕ) → 1 ≤ n → capped (capped p * n) ≡ capped (p * n)
cap_mul p n l = by (leb p 9999) refl where
  by : (x : Bool) → leb p 9999 ≡ x → capped ((if x then p else 9999) * n) ≡ capped (p * n)
  by true e = refl
  by false e =
      let a = leb-false p 9999 e in
      let b = mul-le-mul_left 9999 l in let c = mul-le-mul_left p l in
      cap_high (9999 * n) (omega arith) ∙ sym (cap_high (p * n) (omega arith))

cap_over : (t p : ℕ) → 9998 < t + capped p → 9998 < t + p
cap_over t p = by (leb p 9999) refl where
  by : (x : Bool) → leb p 9999 ≡ x → 9998 < t + (if x then p else 9999) → 9998 < t + p
  by true e l = l
  by false e l = let a = leb-false p 9999 e in omega arith

-- ---- a line and its word
abbrev word_for : Mark → Word
word_for (a_line k) = Traced
word_for (an_open n) = Opens n
word_for a_close = Closes

mark_word : (m : Mark) (h n : ℕ) (e : Bool) (rest : List ℕ) → Walks h e (m ∷ []) → 1 ≤ n → word_in n (form_of m ++ rest) ≡ word_for m
unfolding Walks
mark_word (a_line k) h n e rest w l = traced_word n k rest l w.0
mark_word (an_open m) h n e rest w l = opens_word n m rest l w.0 w.1
mark_word a_close h n e rest w l = closes_word n rest l

code_high : (m : Mark) → 2 ≤ code (word_for m)
code_high (a_line k) = omega arith
code_high (an_open n) = omega arith
code_high a_close = omega arith

-- ---- from some line on
pub record From (u : ℕ) (K : List ℕ) (p : ℕ) (e : Bool) (t : ℕ) (text : List ℕ) (ℓ r : ℕ) : Type 0 where
  pub marks : List Mark
  pub rest : List ℕ
  pub text_is : text ≡ bytes_on marks rest
  pub number : r ≡ ℓ + length marks
  pub walks : Walks (length K) e marks
  pub short : u + length marks ≤ 3000
  pub few : t + sums K p marks ≤ 9998
  pub stuck : (m : Mark) (rest' : List ℕ) → rest ≡ form_of m ++ rest' → Walks (length K) e (marks ++ (m ∷ [])) → u + length (marks ++ (m ∷ [])) ≤ 3000 → t + sums K p (marks ++ (m ∷ [])) ≤ 9998 → ⊥
  pub unclosed : rest ≡ [] → Whole (length K) e marks → ⊥

-- the judge stops at this very line, whose word is W
here : (n u : ℕ) (K : List ℕ) (p : ℕ) (e : Bool) (t : ℕ) (text : List ℕ) (ℓ r : ℕ) (W : Word) → u + n ≡ 3000 → t ≤ 9998 → word_in n text ≡ W → r ≡ ℓ
    → ((m : Mark) → code W ≡ code (word_for m) → Walks (length K) e (m ∷ []) → t + sums K p (m ∷ []) ≤ 9998 → ⊥)
    → (code W ≡ 0 → Whole (length K) e [] → ⊥)
    → From u K p e t text ℓ r
unfolding Walks sums bytes_on
here n u K p e t text ℓ r W a c w x f g =
    record {
      marks = [];
      rest = text;
      text_is = refl;
      number = omega arith;
      walks = tt;
      short = omega arith;
      few = omega arith;
      stuck = λ m rest' y z v s. f m (ap code (sym w ∙ ap (λ (q : List ℕ). word_in n q) y ∙ mark_word m (length K) n e rest' z (omega arith))) z s;
      unclosed = λ y z. g (ap code (sym w ∙ ap (λ (q : List ℕ). word_in n q) y ∙ empty_word n)) z;
    }

step : (n u : ℕ) (K : List ℕ) (p : ℕ) (e : Bool) (t : ℕ) (text : List ℕ) (ℓ r : ℕ) → u + n ≡ 3000 → t ≤ 9998 → (r ≡ 0 → ⊥)
    → ((K' : List ℕ) (p' : ℕ) (e' : Bool) (t' : ℕ) (text' : List ℕ) → 1 ≤ n → t' ≤ 9998 → (judge (n - 1) (ℓ + 1) (caps K') (capped p') e' t' text').fault ≡ r → From (u + 1) K' p' e' t' text' (ℓ + 1) r)
    → (w : Word) → word_in n text ≡ w → (judge n ℓ (caps K) (capped p) e t text).fault ≡ r → From u K p e t text ℓ r
unfolding Walks Whole sums bytes_on
step n u [] p true t text ℓ r a c z ih Ends w h = here n u [] p true t text ℓ r Ends a c w (sym h ∙ ap (λ (j : Judged). j.fault) (round n ℓ [] (capped p) true t text Ends w)) (λ m y v s. let k = code_high m in absurd (omega arith)) (λ y v. v)
step n u [] p false t text ℓ r a c z ih Ends w h = absurd (z (sym h ∙ ap (λ (j : Judged). j.fault) (round n ℓ [] (capped p) false t text Ends w)))
step n u (q ∷ K) p e t text ℓ r a c z ih Ends w h = here n u (q ∷ K) p e t text ℓ r Ends a c w (sym h ∙ ap (λ (j : Judged). j.fault) (round n ℓ (caps (q ∷ K)) (capped p) e t text Ends w)) (λ m y v s. let k = code_high m in absurd (omega arith)) (λ y v. v)
step n u K p e t text ℓ r a c z ih Bad w h = here n u K p e t text ℓ r Bad a c w (sym h ∙ ap (λ (j : Judged). j.fault) (j_bad n ℓ (caps K) (capped p) t text e w)) (λ m y v s. let k = code_high m in absurd (omega arith)) (λ y v. absurd (omega arith))
step n u K p e t text ℓ r a c z ih Traced w h = by (ltb 9998 (t + capped p)) refl where
  over : 9998 < t + p → (m : Mark) → 2 ≡ code (word_for m) → Walks (length K) e (m ∷ []) → t + sums K p (m ∷ []) ≤ 9998 → ⊥
  over l (a_line k) y v s = absurd (omega arith)
  over l (an_open n) y v s = absurd (omega arith)
  over l a_close y v s = absurd (omega arith)

  by : (x : Bool) → ltb 9998 (t + capped p) ≡ x → From u K p e t text ℓ r
  by true x =
      let o = ltb-true 9998 (t + capped p) x in
      here n u K p e t text ℓ r Traced a c w (sym h ∙ ap (λ (j : Judged). j.fault) (j_traced_over n ℓ (caps K) (capped p) t text e w o)) (over (cap_over t p o)) (λ y v. absurd (omega arith))
  by false x =
      let o = ltb-false 9998 (t + capped p) x in
      let q : capped p ≡ p = capped_under p (omega arith) in
      let f = ih K p false (t + p) (drop 20 text) (word_traced n text w).0 (omega arith) (ap (λ (i : ℕ). (judge (n - 1) (ℓ + 1) (caps K) (capped p) false (t + i) (drop 20 text)).fault) (sym q) ∙ sym (ap (λ (j : Judged). j.fault) (j_traced n ℓ (caps K) (capped p) t text e w o)) ∙ h) in
      let g = traced_text n text w in
      let k = f.number in let l = f.short in let j = f.few in
      record {
        marks = a_line (cycle_stated (take 20 text)) ∷ f.marks;
        rest = f.rest;
        text_is = g.0 ∙ ap (λ (y : List ℕ). line_of (cycle_stated (take 20 text)) ++ y) f.text_is;
        number = omega arith;
        walks = (g.1, f.walks);
        short = omega arith;
        few = omega arith;
        stuck = λ m rest' y v i s. f.stuck m rest' y v.1 (omega arith) (omega arith);
        unclosed = λ y v. f.unclosed y v;
      }
step n u K p e t text ℓ r a c z ih (Opens x) w h = by (leb 8 (length (caps K))) refl where
  deep : 8 ≤ length K → (m : Mark) → 3 ≡ code (word_for m) → Walks (length K) e (m ∷ []) → t + sums K p (m ∷ []) ≤ 9998 → ⊥
  deep l (a_line k) y v s = absurd (omega arith)
  deep l (an_open n) y v s = let i = v.2 in absurd (omega arith)
  deep l a_close y v s = absurd (omega arith)

  by : (b : Bool) → leb 8 (length (caps K)) ≡ b → From u K p e t text ℓ r
  by true b =
      let o = leb-true 8 (length (caps K)) b in let l = caps_length K in
      here n u K p e t text ℓ r (Opens x) a c w (sym h ∙ ap (λ (j : Judged). j.fault) (j_open_deep n ℓ (caps K) (capped p) t text e x w o)) (deep (omega arith)) (λ y v. absurd (omega arith))
  by false b =
      let o = leb-false 8 (length (caps K)) b in let len = caps_length K in
      let g = word_opens n text x w in
      let f = ih (p ∷ K) (p * x) true t (drop 6 text) g.0 c (ap (λ (i : ℕ). (judge (n - 1) (ℓ + 1) (caps (p ∷ K)) i true t (drop 6 text)).fault) (sym (cap_mul p x g.3)) ∙ sym (ap (λ (j : Judged). j.fault) (j_open n ℓ (caps K) (capped p) t text e x w o)) ∙ h) in
      let k = f.number in let l = f.short in let j = f.few in
      record {
        marks = an_open x ∷ f.marks;
        rest = f.rest;
        text_is = opens_text n text x w ∙ ap (λ (y : List ℕ). open_by x ++ y) f.text_is;
        number = omega arith;
        walks = (g.3, g.2, omega arith, f.walks);
        short = omega arith;
        few = omega arith;
        stuck = λ m rest' y v i s. f.stuck m rest' y v.3 (omega arith) s;
        unclosed = λ y v. f.unclosed y v;
      }
step n u [] p e t text ℓ r a c z ih Closes w h = here n u [] p e t text ℓ r Closes a c w (sym h ∙ ap (λ (j : Judged). j.fault) (round n ℓ [] (capped p) e t text Closes w)) bad (λ y v. absurd (omega arith)) where
  bad : (m : Mark) → 4 ≡ code (word_for m) → Walks 0 e (m ∷ []) → t + sums [] p (m ∷ []) ≤ 9998 → ⊥
  bad (a_line k) y v s = absurd (omega arith)
  bad (an_open n) y v s = absurd (omega arith)
  bad a_close y v s = v
step n u (q ∷ K) p true t text ℓ r a c z ih Closes w h = here n u (q ∷ K) p true t text ℓ r Closes a c w (sym h ∙ ap (λ (j : Judged). j.fault) (j_close_true n ℓ (caps (q ∷ K)) (capped p) t text w)) bad (λ y v. absurd (omega arith)) where
  bad : (m : Mark) → 4 ≡ code (word_for m) → Walks (length (q ∷ K)) true (m ∷ []) → t + sums (q ∷ K) p (m ∷ []) ≤ 9998 → ⊥
  bad (a_line k) y v s = absurd (omega arith)
  bad (an_open n) y v s = absurd (omega arith)
  bad a_close y v s = v
step n u (q ∷ K) p false t text ℓ r a c z ih Closes w h =
    let f = ih K q false t (drop 2 text) (word_closes n text w).0 c (sym (ap (λ (j : Judged). j.fault) (j_close n ℓ (caps K) (capped p) t text (capped q) w)) ∙ h) in
    let k = f.number in let l = f.short in let j = f.few in
    record {
      marks = a_close ∷ f.marks;
      rest = f.rest;
      text_is = closes_text n text w ∙ ap (λ (y : List ℕ). close_by ++ y) f.text_is;
      number = omega arith;
      walks = f.walks;
      short = omega arith;
      few = omega arith;
      stuck = λ m rest' y v i s. f.stuck m rest' y v (omega arith) s;
      unclosed = λ y v. f.unclosed y v;
    }

from : (n u : ℕ) (K : List ℕ) (p : ℕ) (e : Bool) (t : ℕ) (text : List ℕ) (ℓ r : ℕ) → u + n ≡ 3000 → t ≤ 9998 → (r ≡ 0 → ⊥) → (judge n ℓ (caps K) (capped p) e t text).fault ≡ r → From u K p e t text ℓ r
from zero u K p e t text ℓ r a c z h = step 0 u K p e t text ℓ r a c z (λ K' p' e' t' text' y. absurd (omega arith)) (word_in 0 text) refl h
from (suc n) u K p e t text ℓ r a c z h =
    step (suc n) u K p e t text ℓ r a c z
    (λ K' p' e' t' text' y c' h'. from n (u + 1) K' p' e' t' text' (ℓ + 1) r (omega arith) c' z (ap (λ (i : ℕ). (judge i (ℓ + 1) (caps K') (capped p') e' t' text').fault) (pred n) ∙ h'))
    (word_in (suc n) text) refl h
  where
    pred : (n : ℕ) → n ≡ suc n - 1
    pred n = omega arith

pub first_fault : (text : List ℕ) (i : ℕ) → (script_judged text).fault ≡ i → (i ≡ 0 → ⊥) → FaultAt text i
unfolding Whole
first_fault text i h z =
    let f = from 3000 0 [] 1 false 0 text 1 i refl (omega arith) z h in
    let a = f.short in let b = f.few in
    record {
      before = f.marks;
      behind = f.rest;
      text_is = f.text_is;
      number = f.number;
      fine = record { begins = walks_begins f.marks f.walks; short = omega arith; few = omega arith };
      not_fine = λ m rest' y v. let s = v.short in let w = v.few in f.stuck m rest' y (begins_walks (f.marks ++ (m ∷ [])) v.begins) (omega arith) (omega arith);
      not_whole = λ y s g v. f.unclosed y (subst (λ (x : List Mark). Whole 0 false x) (sym v) (whole_script s 8 0 false [] g (whole_flat 0 false s [] tt)));
    }
