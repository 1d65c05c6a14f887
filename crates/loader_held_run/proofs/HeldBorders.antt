-- The refusals of an interrupted run exactly, and its promise where nothing refuses it.
use mathlib.Core.Path.{◌≡◌, refl, sym, ap, ◌∙◌, subst}
use mathlib.Core.Bool.{Bool, true, false}
use mathlib.Core.List.{List, ◌++◌}
use mathlib.Core.Logic.{◌↔◌}
use Prim.Native.Nat.{ℕ, suc, ◌-◌, ◌<◌}
use native.Mathlib.Omega.{arith}
use lib.ListN.{length}
use lib.Dec.{eqb, ltb}
use borrow.Author.Tests.{ltb-true, ltb-false, eqb-true, eqb-false}
use Rattle.common.proofs.Choice.{unlike}
use Rattle.common.specs.Numbers.{Foremost, NoRow}
use Rattle.common.proofs.Numbers.{given_foremost, foremost_given, given_no_row, no_row_given}
use Rattle.units.specs.Units.{units, spare, back}
use Rattle.model_judge.specs.Judging.{judge_of}
use Rattle.loader.specs.Stages.{is_ended}
use Rattle.loader_run.specs.declared.Ran.{Ran}
use Rattle.loader_run.proofs.Sound.{sound_start}
use Rattle.loader_held_run.specs.HeldTurns.{HeldConfig, out_of, held_moved, held_after}
use Rattle.loader_held_run.specs.HeldRuns.{held_run_rows, held_run_number, held_bound, held_driven, held_beginning, held_ran, HeldLeft, held_refused, held_done, lent_held}
use Rattle.loader_held_run.specs.HeldPromises.{HeldFirstEnd, held_at, HeldPromise}
use Rattle.loader_held_run.proofs.HeldTurning.{after_going}
use Rattle.loader_held_run.proofs.HeldSound.{sound_after, out_judged}
use Rattle.loader_held_run.proofs.HeldEnding.{count_grows, first_end}
use Rattle.loader_held_run.proofs.HeldJudging.{none_refuses, lists_inside}
use Rattle.loader_held_run.proofs.HeldLending.{held_made, held_refused_lem, held_units_lem}
use Rattle.loader_run.specs.declared.Job.{Job}
use Rattle.loader_run.proofs.Ending.{begins}
use Rattle.loader_run.specs.Runs.{run_first}

module _ (j : Job) (array wanted scratch ps bs room : List ℕ) where
  abbrev w : List ℕ
  w = units j.device.part.word wanted

  abbrev number : ℕ
  number = held_run_number j (length array) (length wanted) (length scratch) bs (length room)

  abbrev left : HeldLeft
  left = lent_held j array wanted scratch ps bs room

  -- where the load begins, and where it ends
  abbrev start : HeldConfig
  start = held_beginning j (units j.device.part.word array) (units j.device.part.word scratch) (units j.device.part.word room)

  abbrev end : HeldConfig
  end = held_done j array wanted scratch ps bs room

  -- what a refusal returns
  abbrev refusal_by : ℕ → Ran
  refusal_by m = record { count = 0; end = m; address = 0; state = j.state }

  row_of : (m : ℕ) → (m ≡ 0 → ⊥) → number ≡ m → Foremost (held_run_rows j (length array) (length wanted) (length scratch) bs (length room)) m
  unfolding run_first
  row_of m z q = given_foremost (held_run_rows j (length array) (length wanted) (length scratch) bs (length room)) m z q

  of_row : (m : ℕ) → Foremost (held_run_rows j (length array) (length wanted) (length scratch) bs (length room)) m → number ≡ m
  unfolding run_first
  of_row m f = foremost_given f

  no_rows : number ≡ 0 → NoRow (held_run_rows j (length array) (length wanted) (length scratch) bs (length room))
  unfolding run_first
  no_rows q = given_no_row (held_run_rows j (length array) (length wanted) (length scratch) bs (length room)) refl q

  pub rows_none : NoRow (held_run_rows j (length array) (length wanted) (length scratch) bs (length room)) → number ≡ 0
  unfolding run_first
  rows_none f = no_row_given f

  -- a run that nothing refuses makes a cycle
  some_cycle : 0 < end.count
  unfolding held_driven held_bound
  some_cycle =
      subst (λ (m : ℕ). 0 < (held_after m j.device w bs ps start).count) (more (length w) (length bs))
      (subst (λ (x : HeldConfig). 0 < x.count) (sym (after_going (held_bound (length w) (length bs) - 1) j.device w bs ps start (begins j.work))) (grown (held_bound (length w) (length bs) - 1)))
    where
      more : (n m : ℕ) → suc (held_bound n m - 1) ≡ held_bound n m
      more n m = omega arith

      grown : (m : ℕ) → 0 < (held_after m j.device w bs ps (held_moved j.device w bs ps start)).count
      grown m = omega (arith, count_grows j.device w bs ps m (held_moved j.device w bs ps start))

  -- no cycle was made exactly where the run was refused, and then the end is the number
  pub held_numbers : (m : ℕ) → (m ≡ 0 → ⊥)
      → ((left.ran.count ≡ 0) × (left.ran.end ≡ m)) ↔ Foremost (held_run_rows j (length array) (length wanted) (length scratch) bs (length room)) m
  held_numbers m z = (λ h. forth h (eqb number 0) refl, back_to)
    where
      forth : (left.ran.count ≡ 0) × (left.ran.end ≡ m) → (b : Bool) → eqb number 0 ≡ b → Foremost (held_run_rows j (length array) (length wanted) (length scratch) bs (length room)) m
      forth h true e =
          absurd (let y : end.count ≡ 0 = sym (ap (λ (r : HeldLeft). r.ran.count) (held_made j array wanted scratch ps bs room (eqb-true _ _ e))) ∙ h.0 in omega (arith, some_cycle))
      forth h false e = row_of m z (sym (ap (λ (r : HeldLeft). r.ran.end) (held_refused_lem j array wanted scratch ps bs room (eqb-false _ _ e))) ∙ h.1)

      back_to : Foremost (held_run_rows j (length array) (length wanted) (length scratch) bs (length room)) m → (left.ran.count ≡ 0) × (left.ran.end ≡ m)
      back_to f =
          let q : number ≡ m = of_row m f in
          let r = held_refused_lem j array wanted scratch ps bs room (λ e. z (sym q ∙ e)) in
          (ap (λ (x : HeldLeft). x.ran.count) r, ap (λ (x : HeldLeft). x.ran.end) r ∙ q)

  -- and cycles were made exactly where no row holds
  pub held_accepted : (0 < left.ran.count) ↔ NoRow (held_run_rows j (length array) (length wanted) (length scratch) bs (length room))
  held_accepted = (λ h. forth h (eqb number 0) refl, back_to)
    where
      forth : 0 < left.ran.count → (b : Bool) → eqb number 0 ≡ b → NoRow (held_run_rows j (length array) (length wanted) (length scratch) bs (length room))
      forth h true e = no_rows (eqb-true _ _ e)
      forth h false e = absurd (let y : left.ran.count ≡ 0 = ap (λ (r : HeldLeft). r.ran.count) (held_refused_lem j array wanted scratch ps bs room (eqb-false _ _ e)) in omega arith)

      back_to : NoRow (held_run_rows j (length array) (length wanted) (length scratch) bs (length room)) → 0 < left.ran.count
      back_to f = subst (λ (r : HeldLeft). 0 < r.ran.count) (sym (held_made j array wanted scratch ps bs room (rows_none f))) some_cycle

  -- a refused run returns the number with no cycle made, and leaves everything lent
  pub held_leaves : (m : ℕ) → (m ≡ 0 → ⊥) → Foremost (held_run_rows j (length array) (length wanted) (length scratch) bs (length room)) m
      → left ≡ held_refused m j.state array scratch room
  held_leaves m z f =
      let q : number ≡ m = of_row m f in
      held_refused_lem j array wanted scratch ps bs room (λ e. z (sym q ∙ e)) ∙ ap (λ (n : ℕ). held_refused n j.state array scratch room) q

  -- a run that nothing refuses returns the first number of cycles after which the load has ended, and what those leave
  pub held_first : NoRow (held_run_rows j (length array) (length wanted) (length scratch) bs (length room))
      → HeldPromise j array wanted scratch ps bs room left.ran left.bytes left.scratch left.room
  held_first f =
      let m = held_made j array wanted scratch ps bs room (rows_none f) in
      let h : HeldFirstEnd j.device w bs ps start end = first_end j.device w bs ps start refl in
      let n : left.ran.count ≡ end.count = ap (λ (r : HeldLeft). r.ran.count) m in
      let g : end ≡ held_at j array wanted scratch ps bs room left.ran.count = h.reached ∙ ap (λ (o : ℕ). held_after o j.device w bs ps start) (sym n) in
      record {
        returned = ap (λ (r : HeldLeft). r.ran) m ∙ ap held_ran g;
        array_left = ap (λ (r : HeldLeft). r.bytes) m ∙ ap (λ (x : HeldConfig). back j.device.part.word x.bytes) g;
        scratch_left = ap (λ (r : HeldLeft). r.scratch) m ∙ ap (λ (x : HeldConfig). back j.device.part.word x.scratch) g;
        room_left = ap (λ (r : HeldLeft). r.room) m ∙ ap (λ (x : HeldConfig). back j.device.part.word x.room ++ spare j.device.part.word room) g;
        ended = subst (λ (x : HeldConfig). is_ended x.loader.stage ≡ true) g h.ended;
        first = λ o i. h.first o (subst (λ (x : ℕ). o < x) n i);
      }

  -- two returns that the promise allows are equal, with what they leave
  pub promise_once : (r t : Ran) (x y u v a b : List ℕ) → HeldPromise j array wanted scratch ps bs room r x u a → HeldPromise j array wanted scratch ps bs room t y v b
      → (r ≡ t) × (x ≡ y) × (u ≡ v) × (a ≡ b)
  promise_once r t x y u v a b f g =
      let at : ℕ → HeldConfig = held_at j array wanted scratch ps bs room in
      let n : r.count ≡ t.count = go (ltb r.count t.count) refl (ltb t.count r.count) refl in (
        f.returned ∙ ap (λ (o : ℕ). held_ran (at o)) n ∙ sym g.returned,
        f.array_left ∙ ap (λ (o : ℕ). back j.device.part.word (at o).bytes) n ∙ sym g.array_left,
        f.scratch_left ∙ ap (λ (o : ℕ). back j.device.part.word (at o).scratch) n ∙ sym g.scratch_left,
        f.room_left ∙ ap (λ (o : ℕ). back j.device.part.word (at o).room ++ spare j.device.part.word room) n ∙ sym g.room_left,
      )
    where
      go : (a : Bool) → ltb r.count t.count ≡ a → (b : Bool) → ltb t.count r.count ≡ b → r.count ≡ t.count
      go true i b o = absurd (unlike (sym f.ended ∙ g.first r.count (ltb-true _ _ i)))
      go false i true o = absurd (unlike (sym g.ended ∙ f.first t.count (ltb-true _ _ o)))
      go false i false o = let m = ltb-false r.count t.count i in let n = ltb-false t.count r.count o in omega arith

  -- none of refusals 1 to 6 ever applies to the cycle that is out
  pub passes_ever : NoRow (held_run_rows j (length array) (length wanted) (length scratch) bs (length room)) → (o : ℕ)
      → is_ended (held_at j array wanted scratch ps bs room o).loader.stage ≡ false
      → judge_of j.device (held_at j array wanted scratch ps bs room o).state (out_of w bs (held_at j array wanted scratch ps bs room o))
      (length (held_at j array wanted scratch ps bs room o).bytes) 0
      ≡ 0
  passes_ever f o e =
      let n = none_refuses j (length array) (length wanted) (length scratch) bs (length room) (rows_none f) in
      let z = sound_start j (units j.device.part.word array) w (units j.device.part.word scratch) (held_units_lem j array wanted scratch ps bs room (rows_none f)) in
      out_judged j.device w bs ps (held_at j array wanted scratch ps bs room o) (sound_after j.device w bs ps o start z) (lists_inside j.device j.block bs (length room) n.1) e
