-- An interrupted run on lent bytes: what its loop over their units leaves is what such a run leaves.
use mathlib.Core.Path.{◌≡◌, sym, ap, ap₂, ◌∙◌}
use mathlib.Core.Bool.{Bool, false}
use mathlib.Core.List.{List, ◌++◌}
use Prim.Native.Nat.{ℕ}
use lib.ListN.{length}
use lib.Dec.{eqb}
use borrow.Author.Tests.{eq-eqb, ne_eqb}
use Rattle.common.specs.Lists.{Bytes}
use Rattle.common.proofs.Choice.{if_true, if_false}
use Rattle.units.specs.Units.{units, spare, back, torn}
use Rattle.units.proofs.Widths.{lent_whole, back_units, all_bytes}
use Rattle.loader_run.specs.declared.Ran.{Ran}
use Rattle.loader_run.specs.Runs.{run_number}
use Rattle.loader_run.proofs.Lending.{some, units_number}
use Rattle.loader_held_run.specs.HeldRuns.{held_run_number, held_ran, HeldLeft, held_left, held_refused, held_done, lent_held}
use Rattle.loader_held_run.proofs.HeldJudging.{none_refuses}
use Rattle.loader_run.specs.declared.Job.{Job}

module _ (j : Job) (array wanted scratch ps bs room : List ℕ) where
  abbrev w : Bool
  w = j.device.part.word

  abbrev number : ℕ
  number = held_run_number j (length array) (length wanted) (length scratch) bs (length room)

  -- what is left, made to the end or refused
  abbrev left : HeldLeft
  left = lent_held j array wanted scratch ps bs room

  abbrev done : HeldLeft
  done = held_left w (held_done j array wanted scratch ps bs room) (spare w room)

  pub held_made : number ≡ 0 → left ≡ done
  unfolding lent_held
  held_made e = if_true (eqb number 0) done (held_refused number j.state array scratch room) (eq-eqb number 0 e)

  pub held_refused_lem : (number ≡ 0 → ⊥) → left ≡ held_refused number j.state array scratch room
  unfolding lent_held
  held_refused_lem z = if_false (eqb number 0) done (held_refused number j.state array scratch room) (ne_eqb number 0 z)

  -- the run's own number is that of the units
  pub held_units_lem : number ≡ 0 → run_number j (length (units w array)) (length (units w wanted)) (length (units w scratch)) ≡ 0
  held_units_lem e = units_number j array wanted scratch (none_refuses j (length array) (length wanted) (length scratch) bs (length room) e).0

  pub ran_so : number ≡ 0 → (r : Ran) → r ≡ held_ran (held_done j array wanted scratch ps bs room) → r ≡ left.ran
  ran_so e r q = q ∙ sym (ap (λ (x : HeldLeft). x.ran) (held_made e))

  pub array_so : number ≡ 0 → (xs : List ℕ) → length xs ≡ length array → Bytes xs → units w xs ≡ (held_done j array wanted scratch ps bs room).bytes → xs ≡ left.bytes
  array_so e xs n b q =
      let h = some j array wanted scratch (none_refuses j (length array) (length wanted) (length scratch) bs (length room) e).0 in
      let whole : torn w (length xs) ≡ false = ap (λ (m : ℕ). torn w m) n ∙ lent_whole w array h.0 in
      sym (back_units w xs whole b) ∙ ap (λ (us : List ℕ). back w us) q ∙ sym (ap (λ (x : HeldLeft). x.bytes) (held_made e))

  pub scratch_so : number ≡ 0 → (xs : List ℕ) → length xs ≡ length scratch → Bytes xs → units w xs ≡ (held_done j array wanted scratch ps bs room).scratch → xs ≡ left.scratch
  scratch_so e xs n b q =
      let h = some j array wanted scratch (none_refuses j (length array) (length wanted) (length scratch) bs (length room) e).0 in
      let whole : torn w (length xs) ≡ false = ap (λ (m : ℕ). torn w m) n ∙ lent_whole w scratch h.2 in
      sym (back_units w xs whole b) ∙ ap (λ (us : List ℕ). back w us) q ∙ sym (ap (λ (x : HeldLeft). x.scratch) (held_made e))

  pub room_so : number ≡ 0 → (xs : List ℕ) → Bytes xs → units w xs ≡ (held_done j array wanted scratch ps bs room).room → spare w xs ≡ spare w room → xs ≡ left.room
  room_so e xs b q o =
      sym (all_bytes w xs b) ∙ ap₂ (λ (us rest : List ℕ). back w us ++ rest) q o ∙ sym (ap (λ (x : HeldLeft). x.room) (held_made e))
