-- What a load leaves, where its number is known, and its numbers by what it leaves.
use mathlib.Core.Path.{◌≡◌, refl, sym, ap, ◌∙◌, subst}
use mathlib.Core.Bool.{Bool, true, false}
use mathlib.Core.List.{List}
use mathlib.Core.Logic.{◌↔◌}
use Prim.Native.Nat.{ℕ, ◌<◌}
use native.Mathlib.Omega.{arith}
use lib.ListN.{length}
use lib.Dec.{eqb}
use borrow.Author.Tests.{eq-eqb, ne_eqb, eqb-true, eqb-false}
use Rattle.common.proofs.Choice.{if_true, if_false}
use Rattle.common.specs.Numbers.{Foremost, NoRow}
use Rattle.common.proofs.Numbers.{given_foremost, foremost_given, given_no_row, no_row_given}
use Rattle.loader_run.specs.declared.Ran.{Ran}
use Rattle.loader_run.specs.Runs.{lent_rows, lent_number, run_first, lent_run}
use Rattle.loader_run.proofs.Borders.{lent_accepted}
use Rattle.common.specs.Lists.{Bytes}
use Rattle.loader_quick.specs.declared.Made.{Made}
use Rattle.loader_quick.specs.Quick.{tested_left, Timed}
use Rattle.loader_quick.proofs.Tested.{tested_run}
use Rattle.loader_from_file.specs.Loads.{load_rows, load_number, wanted_of, LoadLeft, load_made, load_refused, wanted_by, load_left}
use Rattle.loader_from_file.proofs.Filling.{wanted_length, wanted_filled, wanted_stays}
use Rattle.loader_from_file.proofs.Judging.{load_numbered, none_refuses, short_file}
use Rattle.loader_run.specs.declared.Job.{Job}

-- a run's number 0 says that none of its rows holds
run_rows_none : (j : Job) (array w sc : ℕ) → lent_number j array w sc ≡ 0 → NoRow (lent_rows j array w sc)
unfolding run_first
run_rows_none j array w sc e = given_no_row (lent_rows j array w sc) refl e

module _ (j : Job) (xs w sc f : List ℕ) (asked : ℕ) where
  abbrev number : ℕ
  number = load_number j (length xs) (length w) (length sc) f asked

  -- what is wanted of the run
  abbrev wish : List ℕ
  wish = wanted_of f (length w)

  -- nothing refused: what the run leaves, and wanted filled
  pub made_left : number ≡ 0 → load_left j xs w sc f asked ≡ load_made (lent_run j xs wish sc) wish
  unfolding load_left
  made_left z = if_true (eqb number 0) (load_made (lent_run j xs wish sc) wish) (load_refused number j.state xs w sc) (eq-eqb number 0 z)

  -- refused: what was lent
  pub refused_left : (number ≡ 0 → ⊥) → load_left j xs w sc f asked ≡ load_refused number j.state xs w sc
  unfolding load_left
  refused_left z = if_false (eqb number 0) (load_made (lent_run j xs wish sc) wish) (load_refused number j.state xs w sc) (ne_eqb number 0 z)

  -- what is returned and left of a run with wanted filled, and of a refusal
  abbrev Told : Ran → List ℕ → List ℕ → List ℕ → Type 0
  Told r x v u =
      (r ≡ (load_left j xs w sc f asked).ran)
      × ((x ≡ (load_left j xs w sc f asked).bytes)
      × ((v ≡ (load_left j xs w sc f asked).wanted) × (u ≡ (load_left j xs w sc f asked).scratch)))

  told_made : number ≡ 0 → (v : List ℕ) → v ≡ wanted_by number f w → (r : Ran) (x u : List ℕ) → r ≡ (lent_run j xs v sc).ran
      → x ≡ (lent_run j xs v sc).bytes → u ≡ (lent_run j xs v sc).scratch → Told r x v u
  told_made z v e r x u a b c =
      let q : v ≡ wish = e ∙ wanted_filled number f w z in
      let m = made_left z in (
        a ∙ ap (λ (y : List ℕ). (lent_run j xs y sc).ran) q ∙ sym (ap (λ (y : LoadLeft). y.ran) m),
        (
          b ∙ ap (λ (y : List ℕ). (lent_run j xs y sc).bytes) q ∙ sym (ap (λ (y : LoadLeft). y.bytes) m),
          (q ∙ sym (ap (λ (y : LoadLeft). y.wanted) m), c ∙ ap (λ (y : List ℕ). (lent_run j xs y sc).scratch) q ∙ sym (ap (λ (y : LoadLeft). y.scratch) m)),
        ),
      )

  -- the run by its stages, since its tests are made
  pub told_tested : number ≡ 0 → Timed j.device → Bytes xs → (v : List ℕ) → Bytes v → length v ≡ length w → v ≡ wanted_by number f w → (m : Made) (x u : List ℕ)
      → m ≡ (tested_left j xs v sc).made → x ≡ (tested_left j xs v sc).bytes → u ≡ (tested_left j xs v sc).scratch → Told m.ran x v u
  told_tested z t bx v bv l e m x u a b c =
      let n = (none_refuses j (length xs) (length w) (length sc) f asked z).0 in
      let q = tested_run j xs v sc (ap (λ (k : ℕ). lent_number j (length xs) k (length sc)) l ∙ n) t bv bx in
      told_made z v e m.ran x u (ap (λ (y : Made). y.ran) a ∙ q.0) (b ∙ q.1.0) (c ∙ q.1.1)

  pub told_refused : (n : ℕ) → n ≡ number → (n ≡ 0 → ⊥) → (v : List ℕ) → v ≡ wanted_by number f w → Told (record { count = 0; end = n; address = 0; state = j.state }) xs v sc
  told_refused n e z v q =
      let m = refused_left (λ y. z (e ∙ y)) in (
        (λ i. record { count = 0; end = e i; address = 0; state = j.state }) ∙ sym (ap (λ (y : LoadLeft). y.ran) m),
        (
          sym (ap (λ (y : LoadLeft). y.bytes) m),
          (q ∙ wanted_stays number f w (λ y. z (e ∙ y)) ∙ sym (ap (λ (y : LoadLeft). y.wanted) m), sym (ap (λ (y : LoadLeft). y.scratch) m)),
        ),
      )

  -- a refused load returns the number with no cycle made, and leaves the state and the three slices
  pub refused_touches_nothing : (m : ℕ) → (m ≡ 0 → ⊥) → number ≡ m
      → ((load_left j xs w sc f asked).ran ≡ record { count = 0; end = m; address = 0; state = j.state }) × ((load_left j xs w sc f asked).bytes ≡ xs)
      × ((load_left j xs w sc f asked).wanted ≡ w) × ((load_left j xs w sc f asked).scratch ≡ sc)
  refused_touches_nothing m z e =
      let l : load_left j xs w sc f asked ≡ load_refused m j.state xs w sc = refused_left (λ (h : number ≡ 0). z (sym e ∙ h)) ∙ ap (λ (n : ℕ). load_refused n j.state xs w sc) e in
      (ap (λ (r : LoadLeft). r.ran) l, ap (λ (r : LoadLeft). r.bytes) l, ap (λ (r : LoadLeft). r.wanted) l, ap (λ (r : LoadLeft). r.scratch) l)

  -- a load that nothing refuses makes a cycle, since its run has nothing against it either
  some_cycle : number ≡ 0 → 0 < (load_left j xs w sc f asked).ran.count
  some_cycle z =
      let n = none_refuses j (length xs) (length w) (length sc) f asked z in
      let l : length w ≡ length wish = sym (wanted_length f (length w) (short_file j (length xs) (length w) (length sc) f asked z)) in
      let r : NoRow (lent_rows j (length xs) (length wish) (length sc)) = subst (λ (o : ℕ). NoRow (lent_rows j (length xs) o (length sc))) l (run_rows_none j (length xs) (length w) (length sc) n.0) in
      subst (λ (x : LoadLeft). 0 < x.ran.count) (sym (made_left z)) ((lent_accepted j xs wish sc).1 r)

  row_of : (m : ℕ) → (m ≡ 0 → ⊥) → number ≡ m → Foremost (load_rows j (length xs) (length w) (length sc) f asked) m
  unfolding run_first
  row_of m z q = given_foremost (load_rows j (length xs) (length w) (length sc) f asked) m z q

  of_row : (m : ℕ) → Foremost (load_rows j (length xs) (length w) (length sc) f asked) m → number ≡ m
  unfolding run_first
  of_row m h = foremost_given h

  no_rows : number ≡ 0 → NoRow (load_rows j (length xs) (length w) (length sc) f asked)
  unfolding run_first
  no_rows q = given_no_row (load_rows j (length xs) (length w) (length sc) f asked) (load_numbered j (length xs) (length w) (length sc) f asked) q

  pub rows_none : NoRow (load_rows j (length xs) (length w) (length sc) f asked) → number ≡ 0
  unfolding run_first
  rows_none h = no_row_given h

  -- no cycle was made exactly where the load was refused, and then the end is the number
  pub refused_exactly : (m : ℕ) → (m ≡ 0 → ⊥)
      → (((load_left j xs w sc f asked).ran.count ≡ 0) × ((load_left j xs w sc f asked).ran.end ≡ m)) ↔ Foremost (load_rows j (length xs) (length w) (length sc) f asked) m
  refused_exactly m z = (λ h. forth h (eqb number 0) refl, back)
    where
      forth : ((load_left j xs w sc f asked).ran.count ≡ 0) × ((load_left j xs w sc f asked).ran.end ≡ m) → (b : Bool) → eqb number 0 ≡ b
          → Foremost (load_rows j (length xs) (length w) (length sc) f asked) m
      forth h true e = absurd (let y = h.0 in omega (arith, some_cycle (eqb-true number 0 e)))
      forth h false e = row_of m z (sym (ap (λ (r : LoadLeft). r.ran.end) (refused_left (eqb-false number 0 e))) ∙ h.1)

      back : Foremost (load_rows j (length xs) (length w) (length sc) f asked) m → ((load_left j xs w sc f asked).ran.count ≡ 0) × ((load_left j xs w sc f asked).ran.end ≡ m)
      back h = let r = (refused_touches_nothing m z (of_row m h)).0 in (ap (λ (x : Ran). x.count) r, ap (λ (x : Ran). x.end) r)

  -- and a run was made exactly where no row holds
  pub accepted_exactly : (0 < (load_left j xs w sc f asked).ran.count) ↔ NoRow (load_rows j (length xs) (length w) (length sc) f asked)
  accepted_exactly = (λ h. forth h (eqb number 0) refl, λ r. some_cycle (rows_none r))
    where
      forth : 0 < (load_left j xs w sc f asked).ran.count → (b : Bool) → eqb number 0 ≡ b → NoRow (load_rows j (length xs) (length w) (length sc) f asked)
      forth h true e = no_rows (eqb-true number 0 e)
      forth h false e = absurd (let y : (load_left j xs w sc f asked).ran.count ≡ 0 = ap (λ (r : LoadLeft). r.ran.count) (refused_left (eqb-false number 0 e)) in omega arith)

  pub refused_leaves : (m : ℕ) → (m ≡ 0 → ⊥) → Foremost (load_rows j (length xs) (length w) (length sc) f asked) m
      → ((load_left j xs w sc f asked).ran ≡ record { count = 0; end = m; address = 0; state = j.state }) × ((load_left j xs w sc f asked).bytes ≡ xs)
      × ((load_left j xs w sc f asked).wanted ≡ w) × ((load_left j xs w sc f asked).scratch ≡ sc)
  refused_leaves m z h = refused_touches_nothing m z (of_row m h)
