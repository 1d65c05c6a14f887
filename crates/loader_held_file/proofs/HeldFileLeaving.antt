-- What an interrupted load from a file leaves, where its number is known, and its numbers by what it leaves.
use mathlib.Core.Path.{◌≡◌, refl, sym, ap, ◌∙◌, subst}
use mathlib.Core.Bool.{Bool, true, false}
use mathlib.Core.List.{List, [], ◌∷◌, ◌++◌}
use mathlib.Core.Logic.{◌↔◌}
use Prim.Native.Nat.{ℕ, ◌≤◌, ◌<◌}
use native.Mathlib.Omega.{arith}
use lib.ListN.{length}
use lib.Dec.{eqb}
use borrow.Author.Tests.{eq-eqb, ne_eqb, eqb-true, eqb-false}
use Rattle.common.proofs.Choice.{if_true, if_false, unlike}
use Rattle.common.specs.Numbers.{Row, Foremost, NoRow, numbered}
use Rattle.common.proofs.Numbers.{given_foremost, foremost_given, given_no_row, no_row_given}
use Rattle.loader_run.specs.declared.Ran.{Ran}
use Rattle.loader_run.specs.Runs.{lent_number, run_first}
use Rattle.loader_from_file.specs.Loads.{load_rows, wanted_of}
use Rattle.loader_from_file.proofs.Filling.{wanted_length}
use Rattle.loader_from_file.proofs.Judging as load
use Rattle.loader_held_lists.specs.Listings.{held_rows, held_number}
use Rattle.loader_held_run.specs.HeldRuns.{held_run_rows, held_run_number, lent_held}
use Rattle.loader_held_run.proofs.HeldJudging.{lists_after}
use Rattle.loader_held_run.proofs.Claims as run
use Rattle.loader_held_file.specs.HeldLoads.{held_load_rows, held_load_number, HeldLoadLeft, held_load_made, held_load_refused, held_file_left}
use Rattle.loader_held_file.proofs.HeldFileJudging.{none_refuses}
use Rattle.loader_run.specs.declared.Job.{Job}

-- a run's number 0 says that none of its rows holds
run_rows_none : (j : Job) (array w sc : ℕ) (bs : List ℕ) (room : ℕ) → held_run_number j array w sc bs room ≡ 0 → NoRow (held_run_rows j array w sc bs room)
unfolding run_first
run_rows_none j array w sc bs room e = given_no_row (held_run_rows j array w sc bs room) refl e

-- two tables without a row 0, one below the other, have none
both_numbered : (rs ss : List Row) → numbered rs ≡ true → numbered ss ≡ true → numbered (rs ++ ss) ≡ true
both_numbered [] ss a b = b
both_numbered (r ∷ rs) ss a b = go (eqb r.number 0) refl (λ q. both_numbered rs ss q b)
  where
    go : (t : Bool) → eqb r.number 0 ≡ t → (numbered rs ≡ true → numbered (rs ++ ss) ≡ true) → numbered (r ∷ (rs ++ ss)) ≡ true
    go true e rest = absurd (unlike (sym a ∙ if_true (eqb r.number 0) false (numbered rs) e))
    go false e rest = if_false (eqb r.number 0) false (numbered (rs ++ ss)) e ∙ rest (sym (if_false (eqb r.number 0) false (numbered rs) e) ∙ a)

module _ (j : Job) (xs w sc f : List ℕ) (asked : ℕ) (ps bs room : List ℕ) where
  abbrev number : ℕ
  number = held_load_number j (length xs) (length w) (length sc) f asked bs (length room)

  -- what is wanted of the run
  abbrev wish : List ℕ
  wish = wanted_of f (length w)

  abbrev left : HeldLoadLeft
  left = held_file_left j xs w sc f asked ps bs room

  abbrev made : HeldLoadLeft
  made = held_load_made (lent_held j xs wish sc ps bs room) wish

  -- nothing refused: what the run leaves, and wanted filled
  pub made_left : number ≡ 0 → left ≡ made
  unfolding held_file_left
  made_left z = if_true (eqb number 0) made (held_load_refused number j.state xs w sc room) (eq-eqb number 0 z)

  -- refused: what was lent
  pub refused_left : (number ≡ 0 → ⊥) → left ≡ held_load_refused number j.state xs w sc room
  unfolding held_file_left
  refused_left z = if_false (eqb number 0) made (held_load_refused number j.state xs w sc room) (ne_eqb number 0 z)

  -- a file that is not refused is no longer than the block
  pub short_file : number ≡ 0 → length f ≤ length w
  short_file z = load.short_file j (length xs) (length w) (length sc) f asked (none_refuses j (length xs) (length w) (length sc) f asked bs (length room) z).0

  -- what is returned and left of a run with wanted filled
  pub told_made : number ≡ 0 → (v : List ℕ) → v ≡ wish → (r : Ran) (x u t : List ℕ) → r ≡ (lent_held j xs v sc ps bs room).ran
      → x ≡ (lent_held j xs v sc ps bs room).bytes → u ≡ (lent_held j xs v sc ps bs room).scratch → t ≡ (lent_held j xs v sc ps bs room).room
      → (r ≡ left.ran) × ((x ≡ left.bytes) × ((v ≡ left.wanted) × ((u ≡ left.scratch) × (t ≡ left.room))))
  told_made z v q r x u t a b c e =
      let m = made_left z in (
        a ∙ ap (λ (y : List ℕ). (lent_held j xs y sc ps bs room).ran) q ∙ sym (ap (λ (y : HeldLoadLeft). y.ran) m),
        (
          b ∙ ap (λ (y : List ℕ). (lent_held j xs y sc ps bs room).bytes) q ∙ sym (ap (λ (y : HeldLoadLeft). y.bytes) m),
          (
            q ∙ sym (ap (λ (y : HeldLoadLeft). y.wanted) m),
            (
              c ∙ ap (λ (y : List ℕ). (lent_held j xs y sc ps bs room).scratch) q ∙ sym (ap (λ (y : HeldLoadLeft). y.scratch) m),
              e ∙ ap (λ (y : List ℕ). (lent_held j xs y sc ps bs room).room) q ∙ sym (ap (λ (y : HeldLoadLeft). y.room) m),
            ),
          ),
        ),
      )

  -- .. and of a refusal
  pub told_refused : (n : ℕ) → n ≡ number → (n ≡ 0 → ⊥)
      → (record { count = 0; end = n; address = 0; state = j.state } ≡ left.ran) × ((xs ≡ left.bytes) × ((w ≡ left.wanted) × ((sc ≡ left.scratch) × (room ≡ left.room))))
  told_refused n e z =
      let m = refused_left (λ y. z (e ∙ y)) in (
        (λ i. record { count = 0; end = e i; address = 0; state = j.state }) ∙ sym (ap (λ (y : HeldLoadLeft). y.ran) m),
        (
          sym (ap (λ (y : HeldLoadLeft). y.bytes) m),
          (sym (ap (λ (y : HeldLoadLeft). y.wanted) m), (sym (ap (λ (y : HeldLoadLeft). y.scratch) m), sym (ap (λ (y : HeldLoadLeft). y.room) m))),
        ),
      )

  -- nothing refuses the run either, with the file and FFH as what is wanted
  pub run_free : number ≡ 0 → NoRow (held_run_rows j (length xs) (length wish) (length sc) bs (length room))
  run_free z =
      let n = none_refuses j (length xs) (length w) (length sc) f asked bs (length room) z in
      let r : lent_number j (length xs) (length w) (length sc) ≡ 0 = (load.none_refuses j (length xs) (length w) (length sc) f asked n.0).0 in
      let o : held_run_number j (length xs) (length w) (length sc) bs (length room) ≡ 0 =
      lists_after j (length xs) (length w) (length sc) bs (length room)
      ∙ if_true (eqb (lent_number j (length xs) (length w) (length sc)) 0) (held_number j.device.part j.block bs (length room)) (lent_number j (length xs) (length w) (length sc)) (eq-eqb _ 0 r) ∙ n.1 in
      let l : length w ≡ length wish = sym (wanted_length f (length w) (short_file z)) in
      subst (λ (g : ℕ). NoRow (held_run_rows j (length xs) g (length sc) bs (length room))) l (run_rows_none j (length xs) (length w) (length sc) bs (length room) o)

  -- so a load that nothing refuses makes a cycle
  some_cycle : number ≡ 0 → 0 < left.ran.count
  some_cycle z = subst (λ (x : HeldLoadLeft). 0 < x.ran.count) (sym (made_left z)) ((run.accepted_exactly j xs wish sc ps bs room).1 (run_free z))

  row_of : (m : ℕ) → (m ≡ 0 → ⊥) → number ≡ m → Foremost (held_load_rows j (length xs) (length w) (length sc) f asked bs (length room)) m
  unfolding run_first
  row_of m z q = given_foremost (held_load_rows j (length xs) (length w) (length sc) f asked bs (length room)) m z q

  of_row : (m : ℕ) → Foremost (held_load_rows j (length xs) (length w) (length sc) f asked bs (length room)) m → number ≡ m
  unfolding run_first
  of_row m h = foremost_given h

  pub rows_none : NoRow (held_load_rows j (length xs) (length w) (length sc) f asked bs (length room)) → number ≡ 0
  unfolding run_first
  rows_none h = no_row_given h

  -- no row has the number 0
  no_rows : number ≡ 0 → NoRow (held_load_rows j (length xs) (length w) (length sc) f asked bs (length room))
  unfolding run_first
  no_rows q = given_no_row (held_load_rows j (length xs) (length w) (length sc) f asked bs (length room)) all q
    where
      all : numbered (held_load_rows j (length xs) (length w) (length sc) f asked bs (length room)) ≡ true
      all = both_numbered (load_rows j (length xs) (length w) (length sc) f asked) (held_rows j.device.part j.block bs (length room)) (load.load_numbered j (length xs) (length w) (length sc) f asked) refl

  -- no cycle was made exactly where the load was refused, and then the end is the number
  pub refused_exactly : (m : ℕ) → (m ≡ 0 → ⊥)
      → ((left.ran.count ≡ 0) × (left.ran.end ≡ m)) ↔ Foremost (held_load_rows j (length xs) (length w) (length sc) f asked bs (length room)) m
  refused_exactly m z = (λ h. forth h (eqb number 0) refl, back)
    where
      forth : (left.ran.count ≡ 0) × (left.ran.end ≡ m) → (b : Bool) → eqb number 0 ≡ b → Foremost (held_load_rows j (length xs) (length w) (length sc) f asked bs (length room)) m
      forth h true e = absurd (let y = h.0 in omega (arith, some_cycle (eqb-true number 0 e)))
      forth h false e = row_of m z (sym (ap (λ (r : HeldLoadLeft). r.ran.end) (refused_left (eqb-false number 0 e))) ∙ h.1)

      back : Foremost (held_load_rows j (length xs) (length w) (length sc) f asked bs (length room)) m → (left.ran.count ≡ 0) × (left.ran.end ≡ m)
      back h =
          let q : number ≡ m = of_row m h in
          let r = refused_left (λ (e : number ≡ 0). z (sym q ∙ e)) in
          (ap (λ (x : HeldLoadLeft). x.ran.count) r, ap (λ (x : HeldLoadLeft). x.ran.end) r ∙ q)

  -- and a run was made exactly where no row holds
  pub accepted_exactly : (0 < left.ran.count) ↔ NoRow (held_load_rows j (length xs) (length w) (length sc) f asked bs (length room))
  accepted_exactly = (λ h. forth h (eqb number 0) refl, λ r. some_cycle (rows_none r))
    where
      forth : 0 < left.ran.count → (b : Bool) → eqb number 0 ≡ b → NoRow (held_load_rows j (length xs) (length w) (length sc) f asked bs (length room))
      forth h true e = no_rows (eqb-true number 0 e)
      forth h false e = absurd (let y : left.ran.count ≡ 0 = ap (λ (r : HeldLoadLeft). r.ran.count) (refused_left (eqb-false number 0 e)) in omega arith)

  pub refused_leaves : (m : ℕ) → (m ≡ 0 → ⊥) → Foremost (held_load_rows j (length xs) (length w) (length sc) f asked bs (length room)) m → left ≡ held_load_refused m j.state xs w sc room
  refused_leaves m z h =
      let q : number ≡ m = of_row m h in
      refused_left (λ (e : number ≡ 0). z (sym q ∙ e)) ∙ ap (λ (n : ℕ). held_load_refused n j.state xs w sc room) q
