-- What lies past 60,001 bytes does not matter to the judge.
use mathlib.Core.Path.{◌≡◌, refl, sym, ap, ◌∙◌}
use mathlib.Core.Bool.{Bool, true, false}
use mathlib.Core.List.{List, [], ◌∷◌}
use Prim.Native.Nat.{ℕ, zero, suc, ◌+◌, ◌-◌, ◌*◌, ◌≤◌, ◌<◌}
use native.Mathlib.Omega.{arith}
use lib.Dec.{ltb, leb}
use lib.ListN.{length, take, drop}
use lib.Seq.{take-nil}
use Rattle.common.proofs.Choice.{if_ind}
use Rattle.script_lines.specs.declared.Word.{Word}
use Rattle.script_lines.specs.declared.Word.TheVariants.{Ends, Bad, Traced, Opens, Closes}
use Rattle.script_lines.specs.Words.{word_in}
use Rattle.script_lines.proofs.Words.{word_cut}
use Rattle.script_judge.specs.declared.Judged.{Judged}
use Rattle.script_judge.specs.Judges.{fault_as, Round, stops, goes, follow, close_of, capped, line_round, judge, script_judged}

drop_take : (u m : ℕ) (xs : List ℕ) → drop u (take m xs) ≡ take (m - u) (drop u xs)
drop_take zero m xs = let e : m ≡ m - 0 = omega arith in ap (λ (n : ℕ). take n xs) e
drop_take (suc u) zero xs = let e : 0 ≡ 0 - suc u = omega arith in ap (λ (n : ℕ). take n (drop (suc u) xs)) e
drop_take (suc u) (suc m) [] = sym (take-nil (suc m - suc u))
drop_take (suc u) (suc m) (x ∷ xs) = let e : m - u ≡ suc m - suc u = omega arith in drop_take u m xs ∙ ap (λ (n : ℕ). take n (drop u xs)) e

-- a round takes 20 bytes at most
abbrev Small : Round → Type 0
Small (stops r) = Unit {0}
Small (goes K p e t u) = u ≤ 20

small_close : (K : List ℕ) (ℓ : ℕ) (e : Bool) (t : ℕ) → Small (close_of K ℓ e t)
small_close [] ℓ e t = tt
small_close (q ∷ K) ℓ true t = tt
small_close (q ∷ K) ℓ false t = omega arith

small_round : (w : Word) (ℓ : ℕ) (K : List ℕ) (p : ℕ) (e : Bool) (t : ℕ) → Small (line_round w ℓ K p e t)
small_round Ends ℓ K p e t = tt
small_round Bad ℓ K p e t = tt
small_round Traced ℓ K p e t = if_ind (λ (x : Round). Small x) (ltb 9998 (t + p)) (stops (fault_as ℓ)) (goes K p false (t + p) 20) (λ z. tt) (λ z. omega arith)
small_round (Opens n) ℓ K p e t = if_ind (λ (x : Round). Small x) (leb 8 (length K)) (stops (fault_as ℓ)) (goes (p ∷ K) (capped (p * n)) true t 6) (λ z. tt) (λ z. omega arith)
small_round Closes ℓ K p e t = small_close K ℓ e t

follow_same : (T : Round) (f g : List ℕ → ℕ → Bool → ℕ → ℕ → Judged) → Small T
    → ((K : List ℕ) (p : ℕ) (e : Bool) (t u : ℕ) → u ≤ 20 → f K p e t u ≡ g K p e t u) → follow T f ≡ follow T g
follow_same (stops r) f g s h = refl
follow_same (goes K p e t u) f g s h = h K p e t u s

judge_cut : (n ℓ : ℕ) (K : List ℕ) (p : ℕ) (e : Bool) (t m : ℕ) (text : List ℕ) → 20 * n < m → judge n ℓ K p e t (take m text) ≡ judge n ℓ K p e t text
unfolding judge
judge_cut zero ℓ K p e t m text h = ap (λ (w : Word). follow (line_round w ℓ K p e t) (λ K' p' e' t' u. fault_as ℓ)) (word_cut 0 m text h)
judge_cut (suc n) ℓ K p e t m text h =
    ap (λ (w : Word). follow (line_round w ℓ K p e t) (λ K' p' e' t' u. judge n (ℓ + 1) K' p' e' t' (drop u (take m text)))) (word_cut (suc n) m text h)
    ∙ follow_same (line_round (word_in (suc n) text) ℓ K p e t) (λ K' p' e' t' u. judge n (ℓ + 1) K' p' e' t' (drop u (take m text))) (λ K' p' e' t' u. judge n (ℓ + 1) K' p' e' t' (drop u text))
    (small_round (word_in (suc n) text) ℓ K p e t)
    (λ K' p' e' t' u l. ap (λ (x : List ℕ). judge n (ℓ + 1) K' p' e' t' x) (drop_take u m text) ∙ judge_cut n (ℓ + 1) K' p' e' t' (m - u) (drop u text) (omega arith))

pub cut_judged : (text : List ℕ) → script_judged (take 60001 text) ≡ script_judged text
cut_judged text = judge_cut 3000 1 [] 1 false 0 60001 text (omega arith)
