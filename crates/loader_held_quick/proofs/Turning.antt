-- An interruption in the last poll's place with nothing programmed after it is told from the count; and no count is too large.
use mathlib.Core.Path.{◌≡◌, refl, sym, ap, ◌∙◌}
use mathlib.Core.Bool.{Bool, true, false, ◌&&◌}
use mathlib.Core.List.{List}
use Prim.Native.Nat.{ℕ, zero, suc, ◌+◌, ◌*◌, ◌≤◌}
use native.Mathlib.Nat.{zero-mul, one-mul, add-mul}
use native.Mathlib.Omega.{arith}
use lib.ListN.{length}
use lib.Dec.{eqb}
use borrow.Author.Tests.{eq-eqb, ne_eqb}
use Rattle.std.specs.Prelude.{if◌then◌else◌}
use Rattle.common.proofs.Choice.{if_true, if_ind, and_left, and_right}
use Rattle.loader_walk.specs.Walks.{rises_in}
use Rattle.loader_run.specs.declared.Ran.{Ran}
use Rattle.loader_run.specs.declared.Job.{Job}
use Rattle.loader_run_claims.specs.Wear.{programs_in, formula, load_formula, formula_by}
use Rattle.loader_run_claims.specs.Ends.{end_number, well_ran, fault_ran, ran_as}
use Rattle.loader_quick.specs.Quick.{Timed}
use Rattle.loader_quick.proofs.Loading.{formula_most}
use Rattle.loader_held.specs.Holds.{listed}
use Rattle.loader_held_claims.specs.HeldEnds.{erases, ends_turned}
use Rattle.loader_held_quick.specs.HeldQuick.{bare_count, turned_by}

-- a count is the bare one exactly where no product is added to it
bare_if : (base x p : ℕ) → eqb (base + x * (2 + p)) base ≡ eqb x 0
bare_if base zero p = let q = zero-mul (2 + p) in eq-eqb (base + 0 * (2 + p)) base (let y : base + 0 * (2 + p) ≡ base = omega arith in y)
bare_if base (suc x) p =
    let e : suc x * (2 + p) ≡ 2 + p + x * (2 + p) = (let s : suc x ≡ 1 + x = omega arith in rw (s, add-mul 1 x (2 + p), one-mul (2 + p)) refl) in
    ne_eqb (base + suc x * (2 + p)) base (λ (z : base + suc x * (2 + p) ≡ base). omega (arith, e, z)) ∙ sym (ne_eqb (suc x) 0 (λ (z : suc x ≡ 0). omega arith))

and_turn : (a b : Bool) → (a && b) ≡ (b && a)
and_turn true true = refl
and_turn true false = refl
and_turn false true = refl
and_turn false false = refl

module _ (verify : Bool) (j : Job) (w ys ps : List ℕ) where
  abbrev E : ℕ
  E = j.device.erase

  abbrev N : ℕ
  N = end_number j.device j.pins j.block w ys

  abbrev x : ℕ
  x = programs_in j.device.part w ys

  well_count : eqb N 0 ≡ true → (ran_as verify j w ys).count ≡ formula_by verify j.device w ys
  unfolding ran_as
  well_count z =
      ap (λ (r : Ran). r.count) (if_true (eqb N 0) (well_ran verify j.device j.state j.block w ys) (fault_ran j.device j.state j.pins w ys N) z)

  -- the count of a good load that erases, beside the bare one
  bare_told : rises_in w ys ≡ true → eqb (formula_by verify j.device w ys) (bare_count verify (length w) E) ≡ eqb x 0
  unfolding bare_count
  bare_told r = go verify
    where
      o : (if rises_in w ys then 1 else 0) * (2 + E) ≡ 2 + E
      o = rw r (one-mul (2 + E))

      go : (v : Bool) → eqb (if v then formula j.device w ys else load_formula j.device w ys) (if v then 2 * length w + 3 + (2 + E) else length w + 2 + (2 + E)) ≡ eqb x 0
      go true = ap (λ (y : ℕ). eqb (2 * length w + 3 + y + x * (2 + j.device.program)) (2 * length w + 3 + (2 + E))) o ∙ bare_if (2 * length w + 3 + (2 + E)) x j.device.program
      go false = ap (λ (y : ℕ). eqb (length w + 2 + y + x * (2 + j.device.program)) (length w + 2 + (2 + E))) o ∙ bare_if (length w + 2 + (2 + E)) x j.device.program

  pub turned_is : turned_by verify (erases j.device j.pins j.block w ys && listed E ps) (length w) E (ran_as verify j w ys).count
      ≡ ends_turned j.device j.pins j.block w ys ps
  unfolding turned_by ends_turned erases
  turned_is = go (rises_in w ys && eqb N 0) refl
    where
      C : Bool
      C = eqb (ran_as verify j w ys).count (bare_count verify (length w) E)

      go : (t : Bool) → (rises_in w ys && eqb N 0) ≡ t → (((rises_in w ys && eqb N 0) && listed E ps) && C) ≡ (((rises_in w ys && eqb N 0) && eqb x 0) && listed E ps)
      go true q =
          let c : C ≡ eqb x 0 = ap (λ (n : ℕ). eqb n (bare_count verify (length w) E)) (well_count (and_right (rises_in w ys) (eqb N 0) q)) ∙ bare_told (and_left (rises_in w ys) (eqb N 0) q) in
          (λ i. (q i && listed E ps) && c i) ∙ and_turn (listed E ps) (eqb x 0) ∙ (λ i. (sym q i && eqb x 0) && listed E ps)
      go false q = (λ i. (q i && listed E ps) && C) ∙ (λ i. (sym q i && eqb x 0) && listed E ps)

  -- no count is larger
  pub count_most : Timed j.device → length w ≤ 1048576 → (ran_as verify j w ys).count ≤ 4503603929972731
  unfolding ran_as
  count_most t l =
      if_ind (λ (r : Ran). r.count ≤ 4503603929972731) (eqb N 0) (well_ran verify j.device j.state j.block w ys) (fault_ran j.device j.state j.pins w ys N)
      (λ q. go verify (formula_most j.device w ys t l)) (λ q. omega arith)
    where
      go : (v : Bool) → formula j.device w ys ≤ 4503603929972731 → (if v then formula j.device w ys else load_formula j.device w ys) ≤ 4503603929972731
      go true m = m
      go false m = omega arith
