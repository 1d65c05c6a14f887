-- A form tested as the code tests it: the length first, then the places one by one, in runs.
use mathlib.Core.Path.{◌≡◌, refl, sym, ap, ◌∙◌}
use mathlib.Core.Bool.{Bool, true, false, ◌&&◌, and_assoc, and_comm}
use mathlib.Core.List.{List, [], ◌∷◌}
use Prim.Native.Nat.{ℕ, suc}
use lib.Dec.{eqb, eqb-zero-suc, eqb-suc-zero, eqb-suc-suc}
use lib.ListN.{length, get_or}
use Rattle.trace_lines.specs.Lines.{Place, is_at, fits, line_form, is_line}
use Rattle.trace_lines.specs.Inner.{met_from, front_run, supply_run, address_run, back_run}

-- a test before a run of places stands apart
pub met_and : (t : Bool) (ps : List Place) (i : ℕ) (xs : List ℕ) → met_from t ps i xs ≡ (t && met_from true ps i xs)
met_and true [] i xs = refl
met_and false [] i xs = refl
met_and t (p ∷ ps) i xs =
    let a = is_at p (get_or xs i 0) in
    met_and (t && a) ps (suc i) xs ∙ and_assoc t a (met_from true ps (suc i) xs) ∙ ap (λ (b : Bool). t && b) (sym (met_and a ps (suc i) xs))

-- an element put before the list moves the run by one
met_shift : (t : Bool) (ps : List Place) (i x : ℕ) (xs : List ℕ) → met_from t ps (suc i) (x ∷ xs) ≡ met_from t ps i xs
met_shift t [] i x xs = refl
met_shift t (p ∷ ps) i x xs = met_shift (t && is_at p (get_or xs i 0)) ps (suc i) x xs

-- the length and then the places, one by one, are the form
pub form_met : (ps : List Place) (xs : List ℕ) → fits ps xs ≡ met_from (eqb (length xs) (length ps)) ps 0 xs
unfolding fits
form_met [] [] = refl
form_met [] (x ∷ xs) = sym (eqb-suc-zero (length xs))
form_met (p ∷ ps) [] =
    sym (ap (λ (b : Bool). met_from b (p ∷ ps) 0 []) (eqb-zero-suc (length ps)) ∙ met_and false (p ∷ ps) 0 [])
form_met (p ∷ ps) (x ∷ xs) =
    let e = eqb (length xs) (length ps) in
    let m = met_from true ps 0 xs in
    ap (λ (b : Bool). is_at p x && b) (form_met ps xs ∙ met_and e ps 0 xs)
    ∙ sym (and_assoc (is_at p x) e m) ∙ ap (λ (b : Bool). b && m) (and_comm (is_at p x) e)
    ∙ sym (met_and (e && is_at p x) ps 0 xs)
    ∙ sym (met_shift (e && is_at p x) ps 0 x xs)
    ∙ ap (λ (b : Bool). met_from (b && is_at p x) ps 1 (x ∷ xs)) (sym (eqb-suc-suc (length xs) (length ps)))

-- a line's form in the four runs of the code
pub line_runs : (xs : List ℕ) → is_line xs
    ≡ ((((eqb (length xs) 20 && met_from true front_run 0 xs) && met_from true supply_run 6 xs) && met_from true address_run 12 xs) && met_from true back_run 17 xs)
unfolding is_line
line_runs xs =
    let t = eqb (length xs) 20 in
    let f = met_from t front_run 0 xs in
    let s = met_from f supply_run 6 xs in
    let a = met_from s address_run 12 xs in
    form_met line_form xs
    ∙ met_and a back_run 17 xs
    ∙ ap (λ (b : Bool). b && met_from true back_run 17 xs) (met_and s address_run 12 xs)
    ∙ ap (λ (b : Bool). (b && met_from true address_run 12 xs) && met_from true back_run 17 xs) (met_and f supply_run 6 xs)
    ∙ ap (λ (b : Bool). ((b && met_from true supply_run 6 xs) && met_from true address_run 12 xs) && met_from true back_run 17 xs) (met_and t front_run 0 xs)
