-- A block that holds what is wanted, and one that does not: what the walks over it find.
use mathlib.Core.Path.{◌≡◌, refl, sym, ap, ◌∙◌, subst}
use mathlib.Core.Bool.{Bool, true, false}
use mathlib.Core.List.{List}
use Prim.Native.Nat.{ℕ, zero, suc, ◌+◌, ◌-◌, ◌*◌, ◌<◌}
use native.Mathlib.Nat.{not-suc-le-zero, le_of_suc-le-suc}
use native.Mathlib.Omega.{arith}
use lib.ListN.{length, get_or}
use lib.Seq.{ext_get_or}
use lib.Dec.{eqb}
use lib.Bits.{and_self}
use borrow.Author.Tests.{eq-eqb, eqb-true, eqb-false}
use Rattle.std.specs.Prelude.{if◌then◌else◌}
use Rattle.common.proofs.Choice.{unlike}
use Rattle.device.specs.declared.Device.{Device}
use Rattle.model_types.specs.declared.Pins.{Pins}
use Rattle.model_types.specs.declared.Cycle.{Cycle}
use Rattle.loader_walk.specs.Walks.{rises, next_diff, rises_in, diff_from}
use Rattle.loader_run_claims.specs.Wear.{differing, formula}
use Rattle.loader_run_claims.specs.Made.{programs_then}
use Rattle.loader_run_claims.specs.Ends.{as_wanted}

-- where none of k bytes differs, each is the same
same_at : (k i : ℕ) (w s : List ℕ) → differing k i w s ≡ 0 → (m : ℕ) → m < k → get_or s (i + m) 0 ≡ get_or w (i + m) 0
same_at zero i w s e m h = absurd (not-suc-le-zero h)
same_at (suc k) i w s e m h = go (eqb (get_or s i 0) (get_or w i 0)) refl (same_at k (i + 1) w s) e m h
  where
    go : (t : Bool) → eqb (get_or s i 0) (get_or w i 0) ≡ t → (differing k (i + 1) w s ≡ 0 → (m : ℕ) → m < k → get_or s (i + 1 + m) 0 ≡ get_or w (i + 1 + m) 0)
        → (if t then 0 else 1) + differing k (i + 1) w s ≡ 0 → (m : ℕ) → m < suc k → get_or s (i + m) 0 ≡ get_or w (i + m) 0
    go true q more z zero l =
        subst (λ (x : ℕ). get_or s x 0 ≡ get_or w x 0) (let y : i ≡ i + 0 = omega arith in y) (eqb-true (get_or s i 0) (get_or w i 0) q)
    go true q more z (suc m) l =
        subst (λ (x : ℕ). get_or s x 0 ≡ get_or w x 0) (let y : i + 1 + m ≡ i + suc m = omega arith in y) (more (omega arith) m (le_of_suc-le-suc l))
    go false q more z m l = absurd (let y : ⊥ = omega arith in y)

-- a block as wanted is what is wanted
pub same_list : (w s : List ℕ) → length s ≡ length w → as_wanted w s ≡ true → s ≡ w
unfolding as_wanted
same_list w s l e =
    ext_get_or 0 s w l (λ i h. subst (λ (x : ℕ). get_or s x 0 ≡ get_or w x 0) (let y : 0 + i ≡ i = omega arith in y)
    (same_at (length w) 0 w s (eqb-true (differing (length w) 0 w s) 0 e) i (omega arith)))

-- bytes that are wanted already: no bit rises, no byte differs, and none is programmed
none_rise : (k i : ℕ) (w : List ℕ) → rises k i w w ≡ false
none_rise zero i w = refl
none_rise (suc k) i w = rw (and_self (get_or w i 0), eq-eqb (get_or w i 0) (get_or w i 0) refl) (none_rise k (i + 1) w)

pub none_risen : (w : List ℕ) → rises_in w w ≡ false
unfolding rises_in
none_risen w = none_rise (length w) 0 w

-- where some bit must rise, some byte differs
pub risen_differs : (w s : List ℕ) → length s ≡ length w → rises_in w s ≡ true → as_wanted w s ≡ false
risen_differs w s l e = go (as_wanted w s) refl
  where
    go : (t : Bool) → as_wanted w s ≡ t → as_wanted w s ≡ false
    go true q = absurd (unlike (sym (sym (ap (λ (z : List ℕ). rises_in w z) (same_list w s l q) ∙ none_risen w) ∙ e)))
    go false q = q

pub none_differing : (k i : ℕ) (w : List ℕ) → differing k i w w ≡ 0
none_differing zero i w = refl
none_differing (suc k) i w = rw (eq-eqb (get_or w i 0) (get_or w i 0) refl) (let y = none_differing k (i + 1) w in omega arith)

pub none_programmed : (d : Device) (p : Pins) (k a i : ℕ) (w : List ℕ) (cs : List Cycle) → programs_then d p k a i w w cs ≡ cs
none_programmed d p zero a i w cs = refl
none_programmed d p (suc k) a i w cs = rw (eq-eqb (get_or w i 0) (get_or w i 0) refl) (none_programmed d p k a (i + 1) w cs)

none_next : (k i : ℕ) (w : List ℕ) → next_diff k i w w ≡ i + k
none_next zero i w = omega arith
none_next (suc k) i w = rw (eq-eqb (get_or w i 0) (get_or w i 0) refl) (let y = none_next k (i + 1) w in omega arith)

pub none_ahead : (w : List ℕ) → diff_from 0 w w ≡ length w
unfolding diff_from
none_ahead w = none_next (length w - 0) 0 w ∙ (let y : 0 + (length w - 0) ≡ length w = omega arith in y)

-- where some byte differs, the walk finds it
some_next : (k i : ℕ) (w s : List ℕ) → (differing k i w s ≡ 0 → ⊥) → next_diff k i w s < i + k
some_next zero i w s z = absurd (z refl)
some_next (suc k) i w s z = go (eqb (get_or s i 0) (get_or w i 0)) (some_next k (i + 1) w s) z
  where
    go : (t : Bool) → ((differing k (i + 1) w s ≡ 0 → ⊥) → next_diff k (i + 1) w s < i + 1 + k) → ((if t then 0 else 1) + differing k (i + 1) w s ≡ 0 → ⊥) → (if t then next_diff k (i + 1) w s else i) < i + suc k
    go true more y = let x = more (λ q. y (omega arith)) in omega arith
    go false more y = omega arith

pub some_ahead : (w s : List ℕ) → as_wanted w s ≡ false → diff_from 0 w s < length w
unfolding as_wanted diff_from
some_ahead w s e =
    let q : length w - 0 ≡ length w = omega arith in
    let h = some_next (length w) 0 w s (eqb-false (differing (length w) 0 w s) 0 e) in
    rw q (omega arith)

-- with nothing to do the formula is 2n + 3
pub same_formula : (d : Device) (w ys : List ℕ) → length ys ≡ length w → as_wanted w ys ≡ true → formula d w ys ≡ 2 * length w + 3
same_formula d w ys l e =
    let held : ys ≡ w = same_list w ys l e in
    let level : rises_in w ys ≡ false = ap (λ (z : List ℕ). rises_in w z) held ∙ none_risen w in
    rw (level, held, none_differing (length w) 0 w) (omega arith)
