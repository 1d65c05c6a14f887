-- Start and step: their refusals exactly, what a refusal leaves, every record taken again, and the end that repeats.
use mathlib.Core.Path.{◌≡◌, refl, sym, ap, ◌∙◌, subst}
use mathlib.Core.Bool.{Bool, true, false, not, ◌&&◌}
use mathlib.Core.List.{List}
use mathlib.Core.Logic.{◌↔◌}
use Prim.Native.Nat.{ℕ, ◌+◌, ◌-◌, ◌≤◌, ◌<◌}
use native.Mathlib.Omega.{arith}
use lib.ListN.{length, get_or, length-set, length-replicate}
use lib.Dec.{eqb, ltb, leb}
use borrow.Author.Tests.{ltb-true, ltb-false, leb-false, eqb-true, eqb-false, eq-eqb, ne_eqb, le-ltb, lt-leb, not-false}
use Rattle.model_types.specs.Cells.{ones}
use Rattle.std.specs.Prelude.{if◌then◌else◌}
use Rattle.common.proofs.Choice.{if_ind, if_true, if_false, or_left, or_right, and_rest, unlike, and_none}
use Rattle.common.specs.Numbers.{Foremost, NoRow, end, past, given}
use Rattle.common.proofs.Numbers.{given_foremost, foremost_given, given_no_row, no_row_given, no_head, no_tail}
use Rattle.device.specs.declared.Part.{Part}
use Rattle.device.specs.Parts.{unknown_part, length_of}
use Rattle.model_types.specs.declared.Pins.{Pins}
use Rattle.loader.specs.declared.Stage.{Stage}
use Rattle.loader.specs.declared.Stage.TheVariants.{Clearing, Opening, Reading, EraseAsking, EraseConfirming, EraseWaiting, ProgramAsking, ProgramSending, ProgramWaiting, Closing, Verifying, Ended}
use Rattle.loader.specs.declared.Loader.{Loader}
use Rattle.loader.specs.declared.Saying.{Saying}
use Rattle.loader.specs.declared.Saying.TheVariants.{Out, Over, Refused}
use Rattle.loader.specs.declared.Response.{Response}
use Rattle.loader_walk.specs.Walks.{diff_from, rises_in}
use Rattle.loader_moves.specs.Moves as moves
use Rattle.loader_moves.specs.Inner as inner
use Rattle.units.specs.Units.{carried}
use Rattle.loader_moves.specs.Moves.{moved_to, ended_by, onward, after_reads, after_read, poll_more, erase_polled, program_polled, verify_more, next_in, next_of}
use Rattle.loader.specs.Statuses.{status_in, is_ready, erase_end, program_end}
use Rattle.loader_steps.specs.Addresses.{first_address}
use Rattle.loader_stores.specs.Stores.{erased_well, programmed_well, store_in, store_of}
use Rattle.loader_steps.specs.Front.{barred_pins, no_block, wrong_lengths, bad_record, start_rows, step_rows, start_number, step_number, record_at, end_address, saying_in, response_at, refused_by, says_refused, start_response, step_response, scratch_after, record_of}
use Rattle.loader.specs.declared.Work.{Work}
use Rattle.loader.specs.Stages.{first_stage, verifies}

-- the number that an answer refuses by, 0 where it is no refusal
abbrev pub refused_number : Saying → ℕ
refused_number (Out c) = 0
refused_number (Over n a) = 0
refused_number (Refused m) = m

-- a record's own answer is no refusal
free_in : (stage : Stage) (l : Loader) (w : List ℕ) → (says_refused (saying_in stage l w) ≡ false) × (refused_number (saying_in stage l w) ≡ 0)
free_in Clearing l w = (refl, refl)
free_in Opening l w = (refl, refl)
free_in Reading l w = (refl, refl)
free_in EraseAsking l w = (refl, refl)
free_in EraseConfirming l w = (refl, refl)
free_in EraseWaiting l w = (refl, refl)
free_in ProgramAsking l w = (refl, refl)
free_in ProgramSending l w = (refl, refl)
free_in ProgramWaiting l w = (refl, refl)
free_in Closing l w = (refl, refl)
free_in Verifying l w = (refl, refl)
free_in (Ended n) l w = (refl, refl)

-- an answer by a number: what is given where it is 0, the refusal with its record where it is not
module _ (n : ℕ) (l : Loader) (w : List ℕ) (r : Loader) where
  abbrev pub judged : Response
  judged = if eqb n 0 then response_at l w else refused_by n r

  judged_told : refused_number judged.saying ≡ n
  judged_told = if_ind (λ (g : Response). refused_number g.saying ≡ n) (eqb n 0) _ _ (λ e. (free_in l.stage l w).1 ∙ sym (eqb-true n 0 e)) (λ e. refl)

  judged_refused : (n ≡ 0 → ⊥) → judged ≡ refused_by n r
  judged_refused z = if_false (eqb n 0) (response_at l w) (refused_by n r) (ne_eqb n 0 z)

  judged_on : n ≡ 0 → judged ≡ response_at l w
  judged_on e = if_true (eqb n 0) (response_at l w) (refused_by n r) (eq-eqb n 0 e)

  judged_free : says_refused judged.saying ≡ false → n ≡ 0
  judged_free =
      if_ind (λ (g : Response). says_refused g.saying ≡ false → n ≡ 0) (eqb n 0) _ _ (λ e q. eqb-true n 0 e) (λ e q. absurd (unlike q))

  judged_left : (m : ℕ) → judged.saying ≡ Refused m → (n ≡ m) × (judged.loader ≡ r) × (eqb n 0 ≡ false)
  judged_left m q = (sym judged_told ∙ ap refused_number q, both.0, both.1)
    where
      both : (judged.loader ≡ r) × (eqb n 0 ≡ false)
      both =
          if_ind (λ (g : Response). says_refused g.saying ≡ true → (g.loader ≡ r) × (eqb n 0 ≡ false)) (eqb n 0) _ _
          (λ e b. absurd (unlike (sym b ∙ (free_in l.stage l w).0))) (λ e b. (refl, e)) (ap says_refused q)

module _ (work : Work) (part : Part) (p : Pins) (k : ℕ) (w sc : List ℕ) where
  abbrev start_n : ℕ
  start_n = start_number part p k (length w) (length sc)

  -- refused by m exactly where m's row is the first that holds
  pub start_numbers : (m : ℕ) → (m ≡ 0 → ⊥) → ((start_response work part p k w sc).saying ≡ Refused m) ↔ Foremost (start_rows part p k (length w) (length sc)) m
  unfolding start_response start_number
  start_numbers m z = (
    λ e. given_foremost (start_rows part p k (length w) (length sc)) m z
        (sym (judged_told start_n (record_of work part p k) w (record_at part p k (Ended start_n) (verifies work))) ∙ ap refused_number e),
    λ f. let q : given (start_rows part p k (length w) (length sc)) ≡ m = foremost_given f in
        ap (λ (g : Response). g.saying) (judged_refused start_n (record_of work part p k) w (record_at part p k (Ended start_n) (verifies work)) (λ e. z (sym q ∙ e))) ∙ ap Refused q,
  )

  pub start_accepted : (says_refused (start_response work part p k w sc).saying ≡ false) ↔ NoRow (start_rows part p k (length w) (length sc))
  unfolding start_response start_number
  start_accepted = (
    λ e. given_no_row (start_rows part p k (length w) (length sc)) refl
        (judged_free start_n (record_of work part p k) w (record_at part p k (Ended start_n) (verifies work)) e),
    λ f. ap (λ (g : Response). says_refused g.saying) (judged_on start_n (record_of work part p k) w (record_at part p k (Ended start_n) (verifies work)) (no_row_given f)) ∙ (free_in (first_stage work) (record_of work part p k) w).0,
  )

  -- a refused start gives a record that has ended with the number
  pub start_refused : (m : ℕ) → (start_response work part p k w sc).saying ≡ Refused m → (start_response work part p k w sc).loader ≡ record_at part p k (Ended m) (verifies work)
  unfolding start_response
  start_refused m e =
      let h = judged_left start_n (record_of work part p k) w (record_at part p k (Ended start_n) (verifies work)) m e in
      h.1 ∙ ap (λ (n : ℕ). record_at part p k (Ended n) (verifies work)) h.0

module _ (l : Loader) (b : ℕ) (w sc : List ℕ) where
  abbrev step_n : ℕ
  step_n = step_number l (length w) (length sc)

  abbrev on_n : Loader
  on_n = next_of l b w (store_of l b w sc)

  pub step_numbers : (m : ℕ) → (m ≡ 0 → ⊥) → ((step_response l b w sc).saying ≡ Refused m) ↔ Foremost (step_rows l (length w) (length sc)) m
  unfolding step_response step_number
  step_numbers m z = (
    λ e. given_foremost (step_rows l (length w) (length sc)) m z (sym (judged_told step_n on_n w l) ∙ ap refused_number e),
    λ f. let q : given (step_rows l (length w) (length sc)) ≡ m = foremost_given f in
        ap (λ (g : Response). g.saying) (judged_refused step_n on_n w l (λ e. z (sym q ∙ e))) ∙ ap Refused q,
  )

  pub step_accepted : (says_refused (step_response l b w sc).saying ≡ false) ↔ NoRow (step_rows l (length w) (length sc))
  unfolding step_response step_number
  step_accepted = (
    λ e. given_no_row (step_rows l (length w) (length sc)) refl (judged_free step_n on_n w l e),
    λ f. ap (λ (g : Response). says_refused g.saying) (judged_on step_n on_n w l (no_row_given f)) ∙ (free_in on_n.stage on_n w).0,
  )

  -- a refused step leaves the record and scratch
  pub step_refused : (m : ℕ) → (step_response l b w sc).saying ≡ Refused m → ((step_response l b w sc).loader ≡ l) × (scratch_after l b w sc ≡ sc)
  unfolding step_response scratch_after
  step_refused m e =
      let h = judged_left step_n on_n w l m e in
      (h.1, if_false (eqb step_n 0) (store_of l b w sc) sc h.2)

  -- what an accepted step gives and leaves
  pub step_on : step_n ≡ 0 → (step_response l b w sc ≡ response_at on_n w) × (scratch_after l b w sc ≡ store_of l b w sc)
  unfolding step_response scratch_after
  step_on e = (judged_on step_n on_n w l e, if_true (eqb step_n 0) (store_of l b w sc) sc (eq-eqb step_n 0 e))

-- the record elsewhere, with what 25 says of the byte that differs
abbrev pub held_at : Loader → Stage → ℕ → ℕ → Bool → Loader
held_at l stage place polls high = record { part = l.part; pins = l.pins; block = l.block; stage = stage; place = place; polls = polls; verify = l.verify; high = high }

-- a record of the same part, block and levels; its place stays in n units and its polls in bounds
pub record Kept (l : Loader) (n : ℕ) (r : Loader) : Type 0 where
  pub same : r ≡ held_at l r.stage r.place r.polls r.high
  pub place : l.place < n → r.place < n
  pub polls : l.polls ≤ 65534 → r.polls ≤ 65534

kept_at : (l : Loader) (n : ℕ) (stage : Stage) (p q : ℕ) → (l.place < n → p < n) → (l.polls ≤ 65534 → q ≤ 65534) → Kept l n (moved_to l stage p q)
kept_at l n stage p q h i = record { same = refl; place = h; polls = i }

module _ (l : Loader) (w : List ℕ) where
  abbrev In : Loader → Type 0
  In r = Kept l (length w) r

  no_polls : l.polls ≤ 65534 → 0 ≤ 65534
  no_polls q = omega arith

  kept_end : (n : ℕ) → In (ended_by l n)
  kept_end n = kept_at l (length w) (Ended n) l.place 0 (λ h. h) no_polls

  kept_first : (stage : Stage) → In (moved_to l stage 0 0)
  kept_first stage = kept_at l (length w) stage 0 0 (λ (h : l.place < length w). omega arith) no_polls

  kept_here : (stage : Stage) → In (moved_to l stage l.place 0)
  kept_here stage = kept_at l (length w) stage l.place 0 (λ h. h) no_polls

  kept_onward : (i : ℕ) (sc : List ℕ) → In (onward l i w sc)
  unfolding onward
  kept_onward i sc =
      if_ind In (ltb (diff_from i w sc) (length w)) _ _ (λ e. kept_at l (length w) ProgramAsking (diff_from i w sc) 0 (λ h. ltb-true _ _ e) no_polls) (λ e. kept_first (moves.loaded_stage l.verify))

  kept_read : (sc : List ℕ) → In (after_read l w sc)
  unfolding after_read after_reads
  kept_read sc =
      if_ind In (ltb l.place (length w - 1)) _ _
      (λ e. kept_at l (length w) Reading (l.place + 1) 0 (λ h. let z = ltb-true l.place (length w - 1) e in omega arith) no_polls)
      (λ e. if_ind In (rises_in w sc) _ _ (λ r. kept_first EraseAsking) (λ r. kept_onward 0 sc))

  kept_poll : (stage : Stage) → In (poll_more l stage)
  unfolding poll_more
  kept_poll stage =
      if_ind In (leb 65534 l.polls) _ _ (λ e. kept_end 20)
      (λ e. kept_at l (length w) stage l.place (l.polls + 1) (λ h. h) (λ q. let z = leb-false 65534 l.polls e in omega arith))

  kept_erase : (b : ℕ) (sc : List ℕ) → In (erase_polled l b w sc)
  unfolding erase_polled
  kept_erase b sc =
      if_ind In (is_ready b) _ _ (λ r. if_ind In (eqb (erase_end b) 0) _ _ (λ f. kept_onward 0 sc) (λ f. kept_end (erase_end b))) (λ r. kept_poll EraseWaiting)

  kept_program : (b : ℕ) (sc : List ℕ) → In (program_polled l b w sc)
  unfolding program_polled
  kept_program b sc =
      if_ind In (is_ready b) _ _
      (λ r. if_ind In (eqb (program_end b) 0) _ _ (λ f. kept_onward (inner.past l.place (length w)) sc) (λ f. kept_end (program_end b)))
      (λ r. kept_poll ProgramWaiting)

  kept_verify : (b : ℕ) → In (verify_more l b w)
  unfolding verify_more
  kept_verify b =
      if_ind In (eqb (carried l.part.word b) (get_or w l.place 0)) _ _
      (λ e. if_ind In (ltb l.place (length w - 1)) _ _
      (λ i. kept_at l (length w) Verifying (l.place + 1) 0 (λ h. let z = ltb-true l.place (length w - 1) i in omega arith) no_polls) (λ i. kept_end 0))
      (λ e. record { same = refl; place = λ h. h; polls = no_polls })

  -- whatever data are taken leave such a record
  pub kept_next : (stage : Stage) (b : ℕ) (sc : List ℕ) → In (next_in stage l b w sc)
  kept_next Clearing b sc = kept_first Opening
  kept_next Opening b sc = kept_first Reading
  kept_next Reading b sc = kept_read sc
  kept_next EraseAsking b sc = kept_first EraseConfirming
  kept_next EraseConfirming b sc = kept_first EraseWaiting
  kept_next EraseWaiting b sc = kept_erase (status_in b) sc
  kept_next ProgramAsking b sc = kept_here ProgramSending
  kept_next ProgramSending b sc = kept_here ProgramWaiting
  kept_next ProgramWaiting b sc = kept_program (status_in b) sc
  kept_next Closing b sc = kept_first Verifying
  kept_next Verifying b sc = kept_verify b
  kept_next (Ended n) b sc = record { same = refl; place = λ h. h; polls = λ q. q }

-- and begins the block at the same address
pub first_kept : (l : Loader) (b : ℕ) (w sc : List ℕ) → first_address (next_of l b w sc) ≡ first_address l
unfolding first_address
first_kept l b w sc = ap first_address (kept_next l w l.stage b sc).same

-- scratch keeps its length
pub store_length : (stage : Stage) (part : Part) (place b : ℕ) (w sc : List ℕ) → length (store_in stage part place b w sc) ≡ length sc
store_length Clearing part place b w sc = refl
store_length Opening part place b w sc = refl
store_length Reading part place b w sc = length-set sc place (carried part.word b)
store_length EraseAsking part place b w sc = refl
store_length EraseConfirming part place b w sc = refl
store_length EraseWaiting part place b w sc =
    if_ind (λ (xs : List ℕ). length xs ≡ length sc) (erased_well (status_in b)) _ _ (λ e. length-replicate (length sc) (ones part)) (λ e. refl)
store_length ProgramAsking part place b w sc = refl
store_length ProgramSending part place b w sc = refl
store_length ProgramWaiting part place b w sc =
    if_ind (λ (xs : List ℕ). length xs ≡ length sc) (programmed_well (status_in b)) _ _ (λ e. length-set sc place (get_or w place 0)) (λ e. refl)
store_length Closing part place b w sc = refl
store_length Verifying part place b w sc = length-set sc place (carried part.word b)
store_length (Ended n) part place b w sc = refl

-- what is known of a record that is taken
pub record Taken (l : Loader) (w sc : ℕ) : Type 0 where
  pub known : unknown_part l.part ≡ false
  pub levels : barred_pins l.part l.pins ≡ false
  pub block : no_block l.part l.block ≡ false
  pub lengths : wrong_lengths l.part l.block w sc ≡ false
  pub wanted : w ≡ length_of l.part l.block
  pub place : l.place < w
  pub polls : l.polls ≤ 65534

wanted_length : (part : Part) (k w sc : ℕ) → wrong_lengths part k w sc ≡ false → w ≡ length_of part k
unfolding wrong_lengths
wanted_length part k w sc e =
    let a = eqb w (length_of part k) in
    eqb-true w _ (not-false a (or_left (not a) (not (eqb sc (length_of part k))) e))

-- a record that is not bad, where there is such a block
in_bounds : (l : Loader) → no_block l.part l.block ≡ false → bad_record l ≡ false → (l.place < length_of l.part l.block) × (l.polls ≤ 65534)
unfolding bad_record
in_bounds l n e =
    let far = leb (length_of l.part l.block) l.place in
    let some = not (no_block l.part l.block) in
    (leb-false _ _ (and_rest some far (ap not n) (or_right (ltb 65534 l.polls) (some && far) e)), ltb-false _ _ (or_left (ltb 65534 l.polls) (some && far) e))

bounds_good : (l : Loader) → l.place < length_of l.part l.block → l.polls ≤ 65534 → bad_record l ≡ false
unfolding bad_record
bounds_good l h q =
    rw (le-ltb 65534 l.polls q, lt-leb (length_of l.part l.block) l.place h) (and_none (not (no_block l.part l.block)))

pub taken : (l : Loader) (w sc : ℕ) → step_number l w sc ≡ 0 → Taken l w sc
unfolding step_number
taken l w sc e =
    let r = given_no_row (step_rows l w sc) refl e in
    let r2 = no_tail r in
    let r3 = no_tail r2 in
    let r4 = no_tail r3 in
    let r5 = no_tail r4 in
    let n : w ≡ length_of l.part l.block = wanted_length l.part l.block w sc (no_head r5) in
    let i = in_bounds l (no_head r4) (no_head r2) in
    record {
      known = no_head r;
      levels = no_head r3;
      block = no_head r4;
      lengths = no_head r5;
      wanted = n;
      place = subst (λ (j : ℕ). l.place < j) (sym n) i.0;
      polls = i.1;
    }

pub taken_back : (l : Loader) (w sc : ℕ) → Taken l w sc → step_number l w sc ≡ 0
unfolding step_number
taken_back l w sc t =
    no_row_given (past t.known (past (bounds_good l (subst (λ (j : ℕ). l.place < j) t.wanted t.place) t.polls) (past t.levels (past t.block (past t.lengths end)))))

-- a kept record is taken, with scratch as long as before
kept_taken : (l r : Loader) (w sc : ℕ) → Taken l w sc → Kept l w r → step_number r w sc ≡ 0
kept_taken l r w sc t k =
    subst (λ (x : Loader). step_number x w sc ≡ 0) (sym k.same)
    (taken_back (held_at l r.stage r.place r.polls r.high) w sc
    (record { known = t.known; levels = t.levels; block = t.block; lengths = t.lengths; wanted = t.wanted; place = k.place t.place; polls = k.polls t.polls }))

-- every record that an accepted step gives is taken again
pub step_again : (l : Loader) (b : ℕ) (w sc : List ℕ) → step_number l (length w) (length sc) ≡ 0
    → step_number (step_response l b w sc).loader (length w) (length (scratch_after l b w sc)) ≡ 0
step_again l b w sc e =
    let t = taken l (length w) (length sc) e in
    let s = step_on l b w sc e in
    rw (s.0, s.1, store_length l.stage l.part l.place b w sc)
    (kept_taken l (next_of l b w (store_of l b w sc)) (length w) (length sc) t (kept_next l w l.stage b (store_of l b w sc)))

-- and so is the record of an accepted start
pub start_gives : (work : Work) (part : Part) (p : Pins) (k : ℕ) (w sc : List ℕ) → start_number part p k (length w) (length sc) ≡ 0
    → start_response work part p k w sc ≡ response_at (record_of work part p k) w
unfolding start_response
start_gives work part p k w sc e =
    judged_on (start_number part p k (length w) (length sc)) (record_of work part p k) w (record_at part p k (Ended (start_number part p k (length w) (length sc))) (verifies work)) e

-- a block that there is has a unit
pub some_block : (part : Part) (k : ℕ) → no_block part k ≡ false → 0 < length_of part k
unfolding no_block
some_block part k e = let z : length_of part k ≡ 0 → ⊥ = eqb-false _ _ e in omega arith

pub first_taken : (stage : Stage) (verify : Bool) (part : Part) (p : Pins) (k w sc : ℕ) → start_number part p k w sc ≡ 0 → step_number (record_at part p k stage verify) w sc ≡ 0
unfolding start_number
first_taken stage verify part p k w sc e =
    let r = given_no_row (start_rows part p k w sc) refl e in
    let r2 = no_tail r in
    let r3 = no_tail r2 in
    let r4 = no_tail r3 in
    let n : w ≡ length_of part k = wanted_length part k w sc (no_head r4) in
    let h : 0 < w = subst (λ (j : ℕ). 0 < j) (sym n) (some_block part k (no_head r3)) in
    taken_back (record_at part p k stage verify) w sc
    (record { known = no_head r; levels = no_head r2; block = no_head r3; lengths = no_head r4; wanted = n; place = h; polls = omega arith })

pub start_again : (work : Work) (part : Part) (p : Pins) (k : ℕ) (w sc : List ℕ) → start_number part p k (length w) (length sc) ≡ 0
    → step_number (start_response work part p k w sc).loader (length w) (length sc) ≡ 0
start_again work part p k w sc e =
    subst (λ (g : Response). step_number g.loader (length w) (length sc) ≡ 0) (sym (start_gives work part p k w sc e)) (first_taken (first_stage work) (verifies work) part p k (length w) (length sc) e)

-- a record that has ended gives its end again, with the same record and scratch
pub end_again : (l : Loader) (b n : ℕ) (w sc : List ℕ) → step_number l (length w) (length sc) ≡ 0 → l.stage ≡ Ended n
    → (step_response l b w sc ≡ record { saying = Over n (end_address l n); loader = l }) × (scratch_after l b w sc ≡ sc)
end_again l b n w sc e q =
    let s = step_on l b w sc e in
    let stored : store_of l b w sc ≡ sc = ap (λ (st : Stage). store_in st l.part l.place b w sc) q in
    let stays : next_of l b w (store_of l b w sc) ≡ l = ap (λ (st : Stage). next_in st l b w (store_of l b w sc)) q in
    let tells : saying_in l.stage l w ≡ Over n (end_address l n) = ap (λ (st : Stage). saying_in st l w) q in
    let same : response_at (next_of l b w (store_of l b w sc)) w ≡ record { saying = Over n (end_address l n); loader = l } =
    ap (λ (r : Loader). response_at r w) stays ∙ ap (λ (t : Saying). response_as t l) tells in
    (s.0 ∙ same, s.1 ∙ stored)
  where
    response_as : Saying → Loader → Response
    response_as t r = record { saying = t; loader = r }

-- only a record that has ended gives an end
pub over_stage : (stage : Stage) (l : Loader) (w : List ℕ) (n a : ℕ) → saying_in stage l w ≡ Over n a → (stage ≡ Ended n) × (end_address l n ≡ a)
over_stage Clearing l w n a e = absurd (let z : ◌≡◌ {A = ℕ} 0 1 = cc in omega arith)
over_stage Opening l w n a e = absurd (let z : ◌≡◌ {A = ℕ} 0 1 = cc in omega arith)
over_stage Reading l w n a e = absurd (let z : ◌≡◌ {A = ℕ} 0 1 = cc in omega arith)
over_stage EraseAsking l w n a e = absurd (let z : ◌≡◌ {A = ℕ} 0 1 = cc in omega arith)
over_stage EraseConfirming l w n a e = absurd (let z : ◌≡◌ {A = ℕ} 0 1 = cc in omega arith)
over_stage EraseWaiting l w n a e = absurd (let z : ◌≡◌ {A = ℕ} 0 1 = cc in omega arith)
over_stage ProgramAsking l w n a e = absurd (let z : ◌≡◌ {A = ℕ} 0 1 = cc in omega arith)
over_stage ProgramSending l w n a e = absurd (let z : ◌≡◌ {A = ℕ} 0 1 = cc in omega arith)
over_stage ProgramWaiting l w n a e = absurd (let z : ◌≡◌ {A = ℕ} 0 1 = cc in omega arith)
over_stage Closing l w n a e = absurd (let z : ◌≡◌ {A = ℕ} 0 1 = cc in omega arith)
over_stage Verifying l w n a e = absurd (let z : ◌≡◌ {A = ℕ} 0 1 = cc in omega arith)
over_stage (Ended m) l w n a e =
    let q : m ≡ n = cc in
    let f : end_address l m ≡ a = cc in
    (ap Ended q, ap (λ (j : ℕ). end_address l j) (sym q) ∙ f)

-- a step that gave an end gives it again at the next step, whatever the byte: the same answer, record and scratch
pub over_again : (l : Loader) (b n a : ℕ) (w sc : List ℕ) → step_number l (length w) (length sc) ≡ 0 → (step_response l b w sc).saying ≡ Over n a → (b' : ℕ)
    → (step_response (step_response l b w sc).loader b' w (scratch_after l b w sc) ≡ step_response l b w sc)
    × (scratch_after (step_response l b w sc).loader b' w (scratch_after l b w sc) ≡ scratch_after l b w sc)
over_again l b n a w sc e o b' =
    let r = (step_response l b w sc).loader in
    let s = step_on l b w sc e in
    let t : saying_in r.stage r w ≡ Over n a = subst (λ (g : Response). saying_in g.loader.stage g.loader w ≡ g.saying) (sym s.0) refl ∙ o in
    let k = over_stage r.stage r w n a t in
    let z = end_again r b' n w (scratch_after l b w sc) (step_again l b w sc e) k.0 in
    (z.0 ∙ whole k.1 o, z.1)
  where
    whole : end_address (step_response l b w sc).loader n ≡ a → (step_response l b w sc).saying ≡ Over n a
        → record { saying = Over n (end_address (step_response l b w sc).loader n); loader = (step_response l b w sc).loader } ≡ step_response l b w sc
    whole p q = λ i. record { saying = (ap (λ (x : ℕ). Over n x) p ∙ sym q) i; loader = (step_response l b w sc).loader }
