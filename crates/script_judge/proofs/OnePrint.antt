-- Each text is the print of one script at most.
use mathlib.Core.Path.{◌≡◌, refl, sym, ap, ◌∙◌}
use mathlib.Core.List.{List, [], ◌++◌}
use Prim.Native.Nat.{ℕ, zero, suc, ◌≤◌}
use native.Mathlib.Omega.{arith}
use lib.ListN.{drop, get_or}
use Rattle.model_types.specs.declared.Cycle.{Cycle}
use Rattle.script_lines.specs.Scripts.{Script, done, line, group, close_by, print_on, Formed}
use Rattle.script_lines.specs.Inner.{Stop, nothing, closing}
use Rattle.script_lines.proofs.Forms.{same_count, same_line, line_high}

first : {x y : List ℕ} → x ≡ y → get_or x 0 0 ≡ get_or y 0 0
first e = ap (λ (l : List ℕ). get_or l 0 0) e

stop_low : (t : List ℕ) → Stop t → (get_or t 0 0 ≡ 40 → ⊥) × (get_or t 0 0 ≤ 41)
stop_low t nothing = (λ z. absurd (omega arith), omega arith)
stop_low t (closing r) = (λ z. absurd (omega arith), omega arith)

pub parts : (d n : ℕ) (b r : Script) → Formed d (group n b r) → (n ≤ 999) × ((d' : ℕ) × Formed d' b) × Formed d r
unfolding Formed
parts zero n b r f = absurd f
parts (suc d) n b r f = (f.1, (d, f.3), f.4)

pub once : (s s' : Script) (d d' : ℕ) (t t' : List ℕ) → Formed d s → Formed d' s' → Stop t → Stop t' → print_on s t ≡ print_on s' t' → (s ≡ s') × (t ≡ t')
unfolding Formed print_on
once done done d d' t t' f f' o o' e = (refl, e)
once done (line k r) d d' t t' f f' o o' e = let a = line_high k in let b = first e in let c = (stop_low t o).1 in absurd (omega arith)
once done (group n b r) d d' t t' f f' o o' e = let h = first e in absurd ((stop_low t o).0 h)
once (line k r) done d d' t t' f f' o o' e = let a = line_high k in let b = first e in let c = (stop_low t' o').1 in absurd (omega arith)
once (line k r) (line k' r') d d' t t' f f' o o' e =
    let a = same_line k k' (print_on r t) (print_on r' t') f.0 f'.0 e in
    let i = once r r' d d' t t' f.1 f'.1 o o' a.1 in
    (ap (λ (x : Cycle). line x r) a.0 ∙ ap (λ (x : Script). line k' x) i.0, i.1)
once (line k r) (group n b r') d d' t t' f f' o o' e = let a = line_high k in let h = first e in absurd (omega arith)
once (group n b r) done d d' t t' f f' o o' e = let h = first e in absurd ((stop_low t' o').0 (sym h))
once (group n b r) (line k r') d d' t t' f f' o o' e = let a = line_high k in let h = first e in absurd (omega arith)
once (group n b r) (group n' b' r') d d' t t' f f' o o' e =
    let x = parts d n b r f in let x' = parts d' n' b' r' f' in
    let c = same_count n n' x.0 x'.0 (print_on b (close_by ++ print_on r t)) (print_on b' (close_by ++ print_on r' t')) e in
    let i = once b b' x.1.0 x'.1.0 (close_by ++ print_on r t) (close_by ++ print_on r' t') x.1.1 x'.1.1 (closing (print_on r t)) (closing (print_on r' t')) (ap (λ (l : List ℕ). drop 6 l) e) in
    let j = once r r' d d' t t' x.2 x'.2 o o' (ap (λ (l : List ℕ). drop 2 l) i.1) in
    (ap (λ (y : ℕ). group y b r) c ∙ ap (λ (y : Script). group n' y r) i.0 ∙ ap (λ (y : Script). group n' b' y) j.0, j.1)

-- two scripts of the form that print alike are one
pub in_one_way : (s s' : Script) → Formed 8 s → Formed 8 s' → print_on s [] ≡ print_on s' [] → s ≡ s'
in_one_way s s' f f' e = (once s s' 8 8 [] [] f f' nothing nothing e).0
