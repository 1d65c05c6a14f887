-- Every load ends, after a first number of cycles; and the refusals of a run.
use mathlib.Core.Path.{◌≡◌, refl, sym, ap, ◌∙◌, subst}
use mathlib.Core.Bool.{Bool, true, false}
use mathlib.Core.List.{List}
use mathlib.Core.Logic.{◌↔◌}
use Prim.Native.Nat.{ℕ, zero, suc, ◌+◌, ◌-◌, ◌*◌, ◌≤◌, ◌<◌}
use native.Mathlib.Omega.{arith}
use lib.ListN.{length}
use lib.Dec.{eqb, ltb}
use borrow.Author.Tests.{ltb-true, ltb-false, eqb-true, eqb-false}
use Rattle.common.proofs.Choice.{unlike}
use Rattle.common.specs.Numbers.{Foremost, NoRow}
use Rattle.common.proofs.Numbers.{given_foremost, foremost_given, given_no_row, no_row_given}
use Rattle.device.specs.declared.Device.{Device}
use Rattle.loader_run.specs.declared.Ran.{Ran}
use Rattle.loader_run.specs.Turns.{Config, answer_to, moved, after}
use Rattle.loader_run.specs.Inner.{bound}
use Rattle.loader.specs.Stages.{is_ended, first_stage}
use Rattle.loader_run.specs.Runs.{run_rows, run_number, ran_by, driven, RunLeft, run_first, beginning, run_end, run_left}
use Rattle.loader_run.specs.Promises.{FirstEnd, Promise}
use Rattle.loader_run.proofs.Leaving.{left_made, left_refused}
use Rattle.loader_run.proofs.Measure.{remains, remains_bound, remains_some, falls}
use Rattle.loader_run.proofs.Turning.{turn_going, ended_stays}
use Rattle.loader_run.specs.declared.Job.{Job}
use Rattle.loader.specs.declared.Work.{Work}
use Rattle.loader.specs.declared.Work.TheVariants.{Load, Verify}

-- whether a load under way has ended
abbrev pub over : Config → Bool
over c = is_ended c.loader.stage

module _ (d : Device) (w : List ℕ) where
  -- one turn from a load that goes on
  after_going : (k : ℕ) (c : Config) → over c ≡ false → after (suc k) d w c ≡ after k d w (moved d w c)
  after_going k c e = ap (λ (x : Config). after k d w x) (turn_going d w c e)

  -- the count never falls
  pub count_grows : (k : ℕ) (c : Config) → c.count ≤ (after k d w c).count
  count_grows zero c = omega arith
  count_grows (suc k) c = go (over c) refl (count_grows k (moved d w c))
    where
      go : (b : Bool) → over c ≡ b → c.count + 1 ≤ (after k d w (moved d w c)).count → c.count ≤ (after (suc k) d w c).count
      go true e h = subst (λ (x : Config). c.count ≤ x.count) (sym (ended_stays (suc k) d w c e)) (omega arith)
      go false e h = subst (λ (x : Config). c.count ≤ x.count) (sym (after_going k c e)) (omega arith)

  -- what any number of turns leaves is what as many cycles leave as were counted
  pub counted : (k : ℕ) (c : Config) → after k d w c ≡ after ((after k d w c).count - c.count) d w c
  counted zero c = ap (λ (j : ℕ). after j d w c) (let z : 0 ≡ c.count - c.count = omega arith in z)
  counted (suc k) c = go (over c) refl (counted k (moved d w c)) (count_grows k (moved d w c))
    where
      go : (b : Bool) → over c ≡ b → after k d w (moved d w c) ≡ after ((after k d w (moved d w c)).count - (c.count + 1)) d w (moved d w c)
          → c.count + 1 ≤ (after k d w (moved d w c)).count
          → after (suc k) d w c ≡ after ((after (suc k) d w c).count - c.count) d w c
      go true e h g = ended_stays (suc k) d w c e ∙ sym (ended_stays ((after (suc k) d w c).count - c.count) d w c e)
      go false e h g =
          let x = (after k d w (moved d w c)).count in
          let n : suc (x - (c.count + 1)) ≡ x - c.count = omega arith in
          let m : x - c.count ≡ (after (suc k) d w c).count - c.count = ap (λ (y : Config). y.count - c.count) (sym (after_going k c e)) in
          after_going k c e ∙ h ∙ sym (after_going (x - (c.count + 1)) c e) ∙ ap (λ (j : ℕ). after j d w c) (n ∙ m)

  -- no load had ended before the last cycle that was counted
  pub going_before : (k j : ℕ) (c : Config) → j < (after k d w c).count - c.count → over (after j d w c) ≡ false
  going_before zero j c h = absurd (omega arith)
  going_before (suc k) zero c h = go (over c) refl
    where
      go : (b : Bool) → over c ≡ b → over c ≡ false
      go true e = absurd (let z : 0 < c.count - c.count = subst (λ (x : Config). 0 < x.count - c.count) (ended_stays (suc k) d w c e) h in omega arith)
      go false e = e
  going_before (suc k) (suc j) c h = go (over c) refl (going_before k j (moved d w c))
    where
      go : (b : Bool) → over c ≡ b → (j < (after k d w (moved d w c)).count - (c.count + 1) → over (after j d w (moved d w c)) ≡ false) → over (after (suc j) d w c) ≡ false
      go true e rest =
          absurd (let z : suc j < c.count - c.count = subst (λ (x : Config). suc j < x.count - c.count) (ended_stays (suc k) d w c e) h in omega arith)
      go false e rest =
          let z : suc j < (after k d w (moved d w c)).count - c.count = subst (λ (x : Config). suc j < x.count - c.count) (after_going k c e) h in
          subst (λ (x : Config). over x ≡ false) (sym (after_going j c e)) (rest (omega arith))

  -- as many turns as a record has left at most bring it to its end
  pub enough : (m : ℕ) (c : Config) → remains c.loader (length w) ≤ m → over (after m d w c) ≡ true
  enough zero c h = go (over c) refl
    where
      go : (b : Bool) → over c ≡ b → over c ≡ true
      go true e = e
      go false e = absurd (let z = remains_some c.loader.stage (length w) c.loader.place c.loader.polls e in omega arith)
  enough (suc m) c h = go (over c) refl (enough m (moved d w c))
    where
      go : (b : Bool) → over c ≡ b → (remains (moved d w c).loader (length w) ≤ m → over (after m d w (moved d w c)) ≡ true) → over (after (suc m) d w c) ≡ true
      go true e rest = subst (λ (x : Config). over x ≡ true) (sym (ended_stays (suc m) d w c e)) e
      go false e rest =
          let f : remains (moved d w c).loader (length w) < remains c.loader (length w) = falls (answer_to d w c.loader c.state c.bytes).seen c.loader w c.scratch e in
          subst (λ (x : Config). over x ≡ true) (sym (after_going m c e)) (rest (omega arith))

  -- every load ends, from any input whatever
  pub always_ends : (c : Config) → over (driven d w c) ≡ true
  unfolding driven
  always_ends c = enough (bound (length w)) c (remains_bound c.loader.stage (length w) c.loader.place c.loader.polls)

pub first_end : (d : Device) (w : List ℕ) (c : Config) → c.count ≡ 0 → FirstEnd d w c (driven d w c)
unfolding driven
first_end d w c z =
    let e = after (bound (length w)) d w c in
    let n : e.count - c.count ≡ e.count = ap (λ (j : ℕ). e.count - j) z ∙ none e.count in
    record {
      reached = counted d w (bound (length w)) c ∙ ap (λ (j : ℕ). after j d w c) n;
      ended = always_ends d w c;
      first = λ j h. going_before d w (bound (length w)) j c (subst (λ (m : ℕ). j < m) (sym n) h);
    }
  where
    none : (x : ℕ) → x - 0 ≡ x
    none x = omega arith

-- there is one such number
pub first_only : (d : Device) (w : List ℕ) (c e : Config) → FirstEnd d w c e → (k : ℕ) → is_ended (after k d w c).loader.stage ≡ true
    → ((j : ℕ) → j < k → is_ended (after j d w c).loader.stage ≡ false) → k ≡ e.count
first_only d w c e f k h g = go (ltb k e.count) refl (ltb e.count k) refl
  where
    go : (a : Bool) → ltb k e.count ≡ a → (b : Bool) → ltb e.count k ≡ b → k ≡ e.count
    go true p b q = absurd (unlike (sym h ∙ f.first k (ltb-true _ _ p)))
    go false p true q =
        absurd (unlike (sym (subst (λ (x : Config). is_ended x.loader.stage ≡ true) f.reached f.ended) ∙ g e.count (ltb-true _ _ q)))
    go false p false q = let x = ltb-false k e.count p in let y = ltb-false e.count k q in omega arith

-- no work begins at its end
pub begins : (work : Work) → is_ended (first_stage work) ≡ false
begins (Load v) = refl
begins Verify = refl

module _ (j : Job) (xs w sc : List ℕ) where
  abbrev pub number : ℕ
  number = run_number j (length xs) (length w) (length sc)

  -- where this run begins
  abbrev start : Config
  start = beginning j xs sc

  -- what a refusal returns
  abbrev pub refusal_by : ℕ → Ran
  refusal_by m = record { count = 0; end = m; address = 0; state = j.state }

  refused_ran : (number ≡ 0 → ⊥) → ((run_left j xs w sc).ran ≡ refusal_by number) × ((run_left j xs w sc).bytes ≡ xs) × ((run_left j xs w sc).scratch ≡ sc)
  refused_ran z =
      let e = left_refused j xs w sc z in (ap (λ (r : RunLeft). r.ran) e, ap (λ (r : RunLeft). r.bytes) e, ap (λ (r : RunLeft). r.scratch) e)

  accepted_ran : number ≡ 0
      → ((run_left j xs w sc).ran ≡ ran_by (driven j.device w start)) × ((run_left j xs w sc).bytes ≡ (driven j.device w start).bytes) × ((run_left j xs w sc).scratch ≡ (driven j.device w start).scratch)
  unfolding run_end
  accepted_ran z =
      let e = left_made j xs w sc z in (ap (λ (r : RunLeft). r.ran) e, ap (λ (r : RunLeft). r.bytes) e, ap (λ (r : RunLeft). r.scratch) e)

  -- a run that nothing refuses makes a cycle
  some_cycle : 0 < (driven j.device w start).count
  unfolding driven
  some_cycle =
      subst (λ (m : ℕ). 0 < (after m j.device w start).count) (let q : suc (length w * 65539 + 196621) ≡ bound (length w) = omega arith in q)
      (subst (λ (x : Config). 0 < x.count) (sym (after_going j.device w (length w * 65539 + 196621) start (begins j.work))) grown)
    where
      grown : 0 < (after (length w * 65539 + 196621) j.device w (moved j.device w start)).count
      grown = omega (arith, count_grows j.device w (length w * 65539 + 196621) (moved j.device w start))

  row_of : (m : ℕ) → (m ≡ 0 → ⊥) → number ≡ m → Foremost (run_rows j (length xs) (length w) (length sc)) m
  unfolding run_first
  row_of m z q = given_foremost (run_rows j (length xs) (length w) (length sc)) m z q

  of_row : (m : ℕ) → Foremost (run_rows j (length xs) (length w) (length sc)) m → number ≡ m
  unfolding run_first
  of_row m f = foremost_given f

  no_rows : number ≡ 0 → NoRow (run_rows j (length xs) (length w) (length sc))
  unfolding run_first
  no_rows q = given_no_row (run_rows j (length xs) (length w) (length sc)) refl q

  rows_none : NoRow (run_rows j (length xs) (length w) (length sc)) → number ≡ 0
  unfolding run_first
  rows_none f = no_row_given f

  -- the refusal by what is returned: no cycle was made exactly where the run was refused, and then the end is the number
  pub run_numbers : (m : ℕ) → (m ≡ 0 → ⊥)
      → (((run_left j xs w sc).ran.count ≡ 0) × ((run_left j xs w sc).ran.end ≡ m)) ↔ Foremost (run_rows j (length xs) (length w) (length sc)) m
  run_numbers m z = (λ h. forth h (eqb number 0) refl, back)
    where
      forth : ((run_left j xs w sc).ran.count ≡ 0) × ((run_left j xs w sc).ran.end ≡ m) → (b : Bool) → eqb number 0 ≡ b → Foremost (run_rows j (length xs) (length w) (length sc)) m
      forth h true e =
          absurd (let y : (driven j.device w start).count ≡ 0 = sym (ap (λ (r : Ran). r.count) (accepted_ran (eqb-true _ _ e)).0) ∙ h.0 in omega (arith, some_cycle))
      forth h false e = row_of m z (sym (ap (λ (r : Ran). r.end) (refused_ran (eqb-false _ _ e)).0) ∙ h.1)

      back : Foremost (run_rows j (length xs) (length w) (length sc)) m → ((run_left j xs w sc).ran.count ≡ 0) × ((run_left j xs w sc).ran.end ≡ m)
      back f =
          let q : number ≡ m = of_row m f in
          let r = (refused_ran (λ e. z (sym q ∙ e))).0 in
          (ap (λ (x : Ran). x.count) r, ap (λ (x : Ran). x.end) r ∙ q)

  -- and it was made exactly where no row holds
  pub run_accepted : (0 < (run_left j xs w sc).ran.count) ↔ NoRow (run_rows j (length xs) (length w) (length sc))
  run_accepted = (λ h. forth h (eqb number 0) refl, back)
    where
      forth : 0 < (run_left j xs w sc).ran.count → (b : Bool) → eqb number 0 ≡ b → NoRow (run_rows j (length xs) (length w) (length sc))
      forth h true e = no_rows (eqb-true _ _ e)
      forth h false e = absurd (let y : (run_left j xs w sc).ran.count ≡ 0 = ap (λ (r : Ran). r.count) (refused_ran (eqb-false _ _ e)).0 in omega arith)

      back : NoRow (run_rows j (length xs) (length w) (length sc)) → 0 < (run_left j xs w sc).ran.count
      back f = subst (λ (r : Ran). 0 < r.count) (sym (accepted_ran (rows_none f)).0) some_cycle

  -- a refused run returns the number with no cycle made, and leaves state, array and scratch
  pub run_refused : (m : ℕ) → (m ≡ 0 → ⊥) → Foremost (run_rows j (length xs) (length w) (length sc)) m
      → ((run_left j xs w sc).ran ≡ refusal_by m) × ((run_left j xs w sc).bytes ≡ xs) × ((run_left j xs w sc).scratch ≡ sc)
  run_refused m z f =
      let q : number ≡ m = of_row m f in
      let r = refused_ran (λ e. z (sym q ∙ e)) in
      (r.0 ∙ ap refusal_by q, r.1, r.2)

-- a run that nothing refuses returns the first number of cycles after which the load has ended, and what those leave
pub run_first_lem : (j : Job) (xs w sc : List ℕ) → NoRow (run_rows j (length xs) (length w) (length sc))
    → Promise j xs w sc (run_left j xs w sc).ran (run_left j xs w sc).bytes (run_left j xs w sc).scratch
run_first_lem j xs w sc f =
    let c = beginning j xs sc in
    let e = driven j.device w c in
    let a = accepted_ran j xs w sc (rows_none j xs w sc f) in
    let h : FirstEnd j.device w c e = first_end j.device w c refl in
    let n : (run_left j xs w sc).ran.count ≡ e.count = ap (λ (r : Ran). r.count) a.0 in
    let g : e ≡ after (run_left j xs w sc).ran.count j.device w c = h.reached ∙ ap (λ (o : ℕ). after o j.device w c) (sym n) in
    record {
      returned = a.0 ∙ ap ran_by g;
      array = a.1 ∙ ap (λ (x : Config). x.bytes) g;
      room = a.2 ∙ ap (λ (x : Config). x.scratch) g;
      ended = subst (λ (x : Config). is_ended x.loader.stage ≡ true) g h.ended;
      first = λ o i. h.first o (subst (λ (m : ℕ). o < m) n i);
    }

-- two returns that the promise allows are equal, with what they leave
pub promise_once : (j : Job) (xs w sc : List ℕ) (r t : Ran) (x y u v : List ℕ)
    → Promise j xs w sc r x u → Promise j xs w sc t y v → (r ≡ t) × (x ≡ y) × (u ≡ v)
promise_once j xs w sc r t x y u v f g =
    let c = beginning j xs sc in
    let n : r.count ≡ t.count = go (ltb r.count t.count) refl (ltb t.count r.count) refl in (
      f.returned ∙ ap (λ (o : ℕ). ran_by (after o j.device w c)) n ∙ sym g.returned,
      f.array ∙ ap (λ (o : ℕ). (after o j.device w c).bytes) n ∙ sym g.array,
      f.room ∙ ap (λ (o : ℕ). (after o j.device w c).scratch) n ∙ sym g.room,
    )
  where
    go : (a : Bool) → ltb r.count t.count ≡ a → (b : Bool) → ltb t.count r.count ≡ b → r.count ≡ t.count
    go true i b o = absurd (unlike (sym f.ended ∙ g.first r.count (ltb-true _ _ i)))
    go false i true o = absurd (unlike (sym g.ended ∙ f.first t.count (ltb-true _ _ o)))
    go false i false o = let m = ltb-false r.count t.count i in let n = ltb-false t.count r.count o in omega arith
