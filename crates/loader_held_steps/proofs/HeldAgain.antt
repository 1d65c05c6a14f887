-- Every pair of records that an accepted start or step gives is taken again, with lists that the start let pass.
use mathlib.Core.Path.{◌≡◌, refl, sym, ap, ◌∙◌, subst}
use mathlib.Core.Bool.{Bool, true, false, not, ◌&&◌, ◌||◌}
use mathlib.Core.List.{List, [], ◌∷◌}
use Prim.Native.Nat.{ℕ, zero, suc, ◌+◌, ◌≤◌, ◌<◌}
use native.Mathlib.Omega.{arith}
use native.Mathlib.Nat.{not-suc-le-zero, le_of_suc-le-suc}
use lib.ListN.{length, get_or}
use lib.Dec.{eqb, ltb, leb}
use borrow.Author.Tests.{ltb-true, ltb-false, leb-false, le-ltb, lt-ltb, lt-leb}
use Rattle.std.specs.Prelude.{if◌then◌else◌}
use Rattle.common.specs.Numbers.{NoRow, past, end}
use Rattle.common.proofs.Choice.{if_ind, or_left, or_right, or_both, and_rest, and_none, unlike}
use Rattle.common.proofs.Numbers.{given_no_row, no_row_given, no_head, no_tail}
use Rattle.device.specs.declared.Part.{Part}
use Rattle.model_types.specs.declared.Pins.{Pins}
use Rattle.loader.specs.declared.Stage.{Stage}
use Rattle.loader.specs.declared.Stage.TheVariants.{Clearing, Opening, Reading, EraseAsking, EraseConfirming, EraseWaiting, ProgramAsking, ProgramSending, ProgramWaiting, Closing, Verifying, Ended}
use Rattle.loader.specs.declared.Loader.{Loader}
use Rattle.loader_moves.specs.Moves.{moved_to, next_of}
use Rattle.loader.specs.Statuses.{status_in, is_ready, erase_end}
use Rattle.loader_moves.specs.Inner as inner
use Rattle.loader_stores.specs.Stores.{store_of}
use Rattle.loader_steps.specs.Front.{record_at, step_number}
use Rattle.loader_steps.proofs.StartAndStep.{held_at, Kept, Taken, taken, taken_back, store_length, first_taken}
use Rattle.loader_held_lists.specs.Listings.{some_of, past_array, in_loaded, held_rows, held_number}
use Rattle.loader_held.specs.declared.Step.{Step}
use Rattle.loader_held.specs.declared.Step.TheVariants.{Usual, Halting, Looking, Settling, ArrayAsking, Fetching, Resuming}
use Rattle.loader_held.specs.declared.Hold.{Hold}
use Rattle.loader_held.specs.declared.Pair.{Pair}
use Rattle.loader_held.specs.Holds.{listed, hold_as, usual, pair_of, after_poll, numbered, moved_on, stopped, settled_by, fetch_on, fetch_stored, held_next, held_scratch}
use Rattle.loader_held.proofs.HeldKept.{held_kept}
use Rattle.loader_held_steps.specs.HeldFront.{interrupting, fetching, waits_erase, bad_hold, place_next, used_rows, used_number, start_held_number, step_held_number, beginning, held_move}
use Rattle.loader_held_steps.proofs.Passed.{Passed, start_passed, step_passed, step_passed_back}

-- where no number of a list meets a test, the one at place i does not
pub none_at : (f : ℕ → Bool) (xs : List ℕ) (i : ℕ) → some_of f xs ≡ false → i < length xs → f (get_or xs i 0) ≡ false
none_at f [] i e h = absurd (not-suc-le-zero h)
none_at f (x ∷ xs) zero e h = or_left (f x) (some_of f xs) e
none_at f (x ∷ xs) (suc i) e h = none_at f xs i (or_right (f x) (some_of f xs) e) (le_of_suc-le-suc h)

-- .. or there is none at that place
nowhere : (f : ℕ → Bool) (xs : List ℕ) (i : ℕ) → some_of f xs ≡ false → (ltb i (length xs) && f (get_or xs i 0)) ≡ false
nowhere f xs i e = go (ltb i (length xs)) refl
  where
    go : (t : Bool) → ltb i (length xs) ≡ t → (t && f (get_or xs i 0)) ≡ false
    go true h = none_at f xs i e (ltb-true i (length xs) h)
    go false h = refl

-- lists that a start lets pass are let pass by a step, whichever address it uses
pub used_passes : (part : Part) (k i : ℕ) (bs : List ℕ) (room : ℕ) → held_number part k bs room ≡ 0 → used_number part k i bs room ≡ 0
unfolding held_number used_number
used_passes part k i bs room e =
    let t = given_no_row (held_rows part k bs room) refl e in
    no_row_given (past (nowhere (past_array part) bs i (no_head t)) (past (nowhere (in_loaded part k) bs i (no_head (no_tail t))) (no_tail (no_tail t))))

-- a record of an interruption beside one of the loader fits where the loader waits for its erase, and the wait and the place are in bounds
fits : (k : ℕ) (l : Loader) (step : Step) (n place waits : ℕ) (s : Bool) → waits_erase l.stage ≡ true → waits ≤ 65534 → (fetching step && leb k place) ≡ false
    → bad_hold k l (hold_as step n place waits s) ≡ false
unfolding bad_hold
fits k l step n place waits s e q o =
    or_both ((interrupting step && not (waits_erase l.stage)) || ltb 65534 waits) (fetching step && leb k place)
    (or_both (interrupting step && not (waits_erase l.stage)) (ltb 65534 waits) (ap (λ (b : Bool). interrupting step && not b) e ∙ and_none (interrupting step)) (le-ltb 65534 waits q)) o

-- with no interruption it always does
pub usual_fits : (k n : ℕ) (l : Loader) → bad_hold k l (usual n) ≡ false
unfolding bad_hold
usual_fits k n l = refl

after_fits : (k n : ℕ) (l : Loader) (ps : List ℕ) → waits_erase l.stage ≡ true → bad_hold k l (after_poll n ps) ≡ false
unfolding after_poll
after_fits k n l ps e =
    if_ind (λ (x : Hold). bad_hold k l x ≡ false) (ltb n 4294967295) _ _
    (λ q. if_ind (λ (x : Hold). bad_hold k l x ≡ false) (listed (n + 1) ps) _ _ (λ o. fits k l Halting (n + 1) 0 0 false e (omega arith) refl) (λ o. usual_fits k (n + 1) l))
    (λ q. usual_fits k n l)

numbered_fits : (k n : ℕ) (l : Loader) (ps : List ℕ) (st : Stage) → l.stage ≡ st → bad_hold k l (numbered st n ps) ≡ false
numbered_fits k n l ps Clearing e = usual_fits k n l
numbered_fits k n l ps Opening e = usual_fits k n l
numbered_fits k n l ps Reading e = usual_fits k n l
numbered_fits k n l ps EraseAsking e = usual_fits k n l
numbered_fits k n l ps EraseConfirming e = usual_fits k n l
numbered_fits k n l ps EraseWaiting e = after_fits k n l ps (ap waits_erase e)
numbered_fits k n l ps ProgramAsking e = usual_fits k n l
numbered_fits k n l ps ProgramSending e = usual_fits k n l
numbered_fits k n l ps ProgramWaiting e = usual_fits k n l
numbered_fits k n l ps Closing e = usual_fits k n l
numbered_fits k n l ps Verifying e = usual_fits k n l
numbered_fits k n l ps (Ended m) e = usual_fits k n l

-- what a record that fits says
pub waits_erase_lem : (k : ℕ) (l : Loader) (h : Hold) → bad_hold k l h ≡ false → interrupting h.step ≡ true → waits_erase l.stage ≡ true
unfolding bad_hold
waits_erase_lem k l h e i =
    go (waits_erase l.stage) refl
  where
    go : (t : Bool) → waits_erase l.stage ≡ t → waits_erase l.stage ≡ true
    go true q = q
    go false q =
        let a = interrupting h.step && not (waits_erase l.stage) in
        let b = or_left a (ltb 65534 h.waits) (or_left (a || ltb 65534 h.waits) (fetching h.step && leb k h.place) e) in
        absurd (unlike (sym (ap not q) ∙ and_rest (interrupting h.step) (not (waits_erase l.stage)) i b))

pub place_in : (k : ℕ) (l : Loader) (h : Hold) → bad_hold k l h ≡ false → h.step ≡ Fetching → h.place < k
unfolding bad_hold
place_in k l h e s =
    let a = (interrupting h.step && not (waits_erase l.stage)) || ltb 65534 h.waits in
    leb-false k h.place (and_rest (fetching h.step) (leb k h.place) (ap fetching s) (or_right a (fetching h.step && leb k h.place) e))

module _ (l : Loader) (h : Hold) (k : ℕ) (w sc ps : List ℕ) where
  abbrev Fit : Pair → Type 0
  Fit q = bad_hold k q.loader q.hold ≡ false

  settled_fits : (sr : ℕ) → waits_erase l.stage ≡ true → Fit (settled_by l h sr)
  unfolding settled_by
  settled_fits sr e =
      if_ind Fit (is_ready sr) _ _
      (λ a. if_ind Fit (eqb (erase_end sr) 0) _ _ (λ b. fits k l ArrayAsking h.number 0 0 _ e (omega arith) refl) (λ b. usual_fits k h.number _))
      (λ a. if_ind Fit (leb 65534 h.waits) _ _ (λ b. usual_fits k h.number _)
      (λ b. let q : h.waits < 65534 = leb-false 65534 h.waits b in fits k l Settling h.number 0 (h.waits + 1) false e (omega arith) refl))

  fetched_fits : (i : ℕ) → waits_erase l.stage ≡ true → Fit (fetch_on l h i k w sc)
  unfolding fetch_on
  fetched_fits i e =
      if_ind Fit (ltb i k) _ _
      (λ a. let q : i < k = ltb-true i k a in fits k l Fetching h.number i 0 h.suspended e (omega arith) (lt-leb k i q))
      (λ a. if_ind Fit h.suspended _ _ (λ b. fits k l Resuming h.number 0 0 h.suspended e (omega arith) refl) (λ b. usual_fits k h.number _))

  next_fits : (step : Step) (v : ℕ) → h.step ≡ step → bad_hold k l h ≡ false → Fit (held_next step l h v k w sc ps)
  next_fits Usual v s e = numbered_fits k h.number (next_of l v w (store_of l v w sc)) ps (next_of l v w (store_of l v w sc)).stage refl
  next_fits Halting v s e = fits k l Looking h.number 0 0 h.suspended (waits_erase_lem k l h e (ap interrupting s)) (omega arith) refl
  next_fits Looking v s e = fits k l Settling h.number 0 0 h.suspended (waits_erase_lem k l h e (ap interrupting s)) (omega arith) refl
  next_fits Settling v s e = settled_fits (status_in v) (waits_erase_lem k l h e (ap interrupting s))
  next_fits ArrayAsking v s e = fetched_fits 0 (waits_erase_lem k l h e (ap interrupting s))
  next_fits Fetching v s e = fetched_fits (inner.past h.place k) (waits_erase_lem k l h e (ap interrupting s))
  next_fits Resuming v s e = after_fits k h.number (moved_to l EraseWaiting 0 0) ps refl

  -- scratch keeps its length
  stored_length : (i : ℕ) → length (fetch_stored l h i k w sc) ≡ length sc
  unfolding fetch_stored
  stored_length i =
      if_ind (λ (xs : List ℕ). length xs ≡ length sc) (ltb i k) _ _ (λ a. refl)
      (λ a. if_ind (λ (xs : List ℕ). length xs ≡ length sc) h.suspended _ _ (λ b. refl) (λ b. store_length l.stage l.part l.place 0x80 w sc))

  pub scratch_length : (step : Step) (v : ℕ) → length (held_scratch step l h v k w sc) ≡ length sc
  scratch_length Usual v = store_length l.stage l.part l.place v w sc
  scratch_length Halting v = refl
  scratch_length Looking v = refl
  scratch_length Settling v = refl
  scratch_length ArrayAsking v = stored_length 0
  scratch_length Fetching v = stored_length (inner.past h.place k)
  scratch_length Resuming v = refl

-- a kept record is taken
kept_taken : (l r : Loader) (w sc : ℕ) → Taken l w sc → Kept l w r → step_number r w sc ≡ 0
kept_taken l r w sc t k =
    subst (λ (x : Loader). step_number x w sc ≡ 0) (sym k.same)
    (taken_back (held_at l r.stage r.place r.polls r.high) w sc
    (record { known = t.known; levels = t.levels; block = t.block; lengths = t.lengths; wanted = t.wanted; place = k.place t.place; polls = k.polls t.polls }))

pub step_again : (l : Loader) (h : Hold) (v : ℕ) (w sc ps bs : List ℕ) (room : ℕ) → step_held_number l h (length w) (length sc) bs room ≡ 0 → held_number l.part l.block bs room ≡ 0
    → (step_held_number (held_move l h v w sc ps bs).loader (held_move l h v w sc ps bs).hold (length w) (length (held_scratch h.step l h v (length bs) w sc)) bs room ≡ 0)
    × (held_number (held_move l h v w sc ps bs).loader.part (held_move l h v w sc ps bs).loader.block bs room ≡ 0)
step_again l h v w sc ps bs room e o =
    let k = length bs in
    let q = held_move l h v w sc ps bs in
    let t = step_passed l h (length w) (length sc) bs room e in
    let kept = held_kept l h k w sc ps h.step v in
    let lists : held_number q.loader.part q.loader.block bs room ≡ 0 = ap (λ (x : Loader). held_number x.part x.block bs room) kept.same ∙ o in
    let one : step_held_number q.loader q.hold (length w) (length sc) bs room ≡ 0 =
    step_passed_back q.loader q.hold (length w) (length sc) bs room
    (record {
      old = kept_taken l q.loader (length w) (length sc) (taken l (length w) (length sc) t.old) kept;
      fit = next_fits l h k w sc ps h.step v refl t.fit;
      used = used_passes q.loader.part q.loader.block (place_next q.hold.step q.hold.place k) bs room lists;
    }) in
    (ap (λ (n : ℕ). step_held_number q.loader q.hold (length w) n bs room) (scratch_length l h k w sc ps h.step v) ∙ one, lists)

-- a record of the loader that its own step takes, with no interruption under way and lists that pass
pub first_again : (l : Loader) (n w sc : ℕ) (bs : List ℕ) (room : ℕ) → step_number l w sc ≡ 0 → held_number l.part l.block bs room ≡ 0 → step_held_number l (usual n) w sc bs room ≡ 0
first_again l n w sc bs room e o =
    step_passed_back l (usual n) w sc bs room (record { old = e; fit = usual_fits (length bs) n l; used = used_passes l.part l.block (length bs) bs room o })

pub start_again : (verify : Bool) (part : Part) (p : Pins) (k w sc : ℕ) (bs : List ℕ) (room : ℕ) → start_held_number part p k w sc bs room ≡ 0
    → (step_held_number (beginning part p k Clearing verify).loader (beginning part p k Clearing verify).hold w sc bs room ≡ 0) × (held_number part k bs room ≡ 0)
start_again verify part p k w sc bs room e =
    let t = start_passed part p k w sc bs room e in
    (first_again (record_at part p k Clearing verify) 0 w sc bs room (first_taken Clearing verify part p k w sc t.0) t.1, t.1)

-- the place after a read that a step takes is one more
pub next_read : (l : Loader) (h : Hold) (w sc : ℕ) (bs : List ℕ) (room : ℕ) → step_held_number l h w sc bs room ≡ 0 → h.step ≡ Fetching → inner.past h.place (length bs) ≡ h.place + 1
unfolding inner.past
next_read l h w sc bs room e s =
    let i : h.place < length bs = place_in (length bs) l h (step_passed l h w sc bs room e).fit s in
    rw (lt-ltb h.place (length bs) i) refl
