-- A run's step is its load's, and the verify's start where the load ended well, whatever data are handed on.
use mathlib.Core.Path.{◌≡◌, refl, sym, ap, ◌∙◌}
use mathlib.Core.Bool.{Bool, true, false}
use mathlib.Core.List.{List}
use Prim.Native.Nat.{ℕ, ◌+◌, ◌-◌}
use lib.ListN.{length}
use lib.Dec.{eqb, ltb, leb}
use Rattle.std.specs.Prelude.{if◌then◌else◌}
use Rattle.common.proofs.Choice.{if_false, unlike}
use Rattle.loader.specs.declared.Stage.{Stage}
use Rattle.loader.specs.declared.Stage.TheVariants.{Clearing, Opening, Reading, EraseAsking, EraseConfirming, EraseWaiting, ProgramAsking, ProgramSending, ProgramWaiting, Closing, Verifying, Ended}
use Rattle.loader.specs.declared.Loader.{Loader}
use Rattle.loader.specs.declared.Response.{Response}
use Rattle.loader.specs.Stages.{is_ended}
use Rattle.loader_walk.specs.Walks.{diff_from, rises_in}
use Rattle.loader_moves.specs.Moves.{moved_to, ended_by, onward, after_reads, after_read, poll_more, erase_polled, program_polled, next_in, next_of}
use Rattle.loader.specs.Statuses.{status_in, is_ready, erase_end, program_end}
use Rattle.loader_moves.specs.Inner.{past}
use Rattle.loader_stores.specs.Stores.{store_of}
use Rattle.loader_steps.specs.Front.{bad_record, step_number, step_response, scratch_after}
use Rattle.loader_steps.specs.Ends.{of_load, with_verify, carried_on}
use Rattle.loader_steps.proofs.StartAndStep.{step_on}

module _ (l : Loader) (w : List ℕ) where
  abbrev run : Loader
  run = with_verify true l

  abbrev load : Loader
  load = with_verify false l

  -- an end by a number that is not 0 stays
  bad_end : (n : ℕ) → eqb n 0 ≡ false → ended_by run n ≡ carried_on (ended_by load n)
  bad_end n e = sym (if_false (eqb n 0) _ (ended_by run n) e)

  on_onward : (i : ℕ) (sc : List ℕ) → onward run i w sc ≡ carried_on (onward load i w sc)
  unfolding onward
  on_onward i sc = go (ltb (diff_from i w sc) (length w))
    where
      go : (t : Bool) → (if t then moved_to run ProgramAsking (diff_from i w sc) 0 else moved_to run Closing 0 0)
          ≡ carried_on (if t then moved_to load ProgramAsking (diff_from i w sc) 0 else moved_to load (Ended 0) 0 0)
      go true = refl
      go false = refl

  on_reads : (sc : List ℕ) → after_reads run w sc ≡ carried_on (after_reads load w sc)
  unfolding after_reads
  on_reads sc = go (rises_in w sc) (on_onward 0 sc)
    where
      go : (t : Bool) → onward run 0 w sc ≡ carried_on (onward load 0 w sc)
          → (if t then moved_to run EraseAsking 0 0 else onward run 0 w sc) ≡ carried_on (if t then moved_to load EraseAsking 0 0 else onward load 0 w sc)
      go true e = refl
      go false e = e

  on_read : (sc : List ℕ) → after_read run w sc ≡ carried_on (after_read load w sc)
  unfolding after_read
  on_read sc = go (ltb l.place (length w - 1)) (on_reads sc)
    where
      go : (t : Bool) → after_reads run w sc ≡ carried_on (after_reads load w sc)
          → (if t then moved_to run Reading (l.place + 1) 0 else after_reads run w sc) ≡ carried_on (if t then moved_to load Reading (l.place + 1) 0 else after_reads load w sc)
      go true e = refl
      go false e = e

  on_poll_erase : poll_more run EraseWaiting ≡ carried_on (poll_more load EraseWaiting)
  unfolding poll_more
  on_poll_erase = go (leb 65534 l.polls)
    where
      go : (t : Bool) → (if t then ended_by run 20 else moved_to run EraseWaiting l.place (l.polls + 1)) ≡ carried_on (if t then ended_by load 20 else moved_to load EraseWaiting l.place (l.polls + 1))
      go true = refl
      go false = refl

  on_poll_program : poll_more run ProgramWaiting ≡ carried_on (poll_more load ProgramWaiting)
  unfolding poll_more
  on_poll_program = go (leb 65534 l.polls)
    where
      go : (t : Bool) → (if t then ended_by run 20 else moved_to run ProgramWaiting l.place (l.polls + 1)) ≡ carried_on (if t then ended_by load 20 else moved_to load ProgramWaiting l.place (l.polls + 1))
      go true = refl
      go false = refl

  -- what a poll comes to: on where it is ready without a fault, the end by its fault, or another poll
  polled : (x y p q : Loader) (n : ℕ) (ready : Bool) → x ≡ carried_on y → p ≡ carried_on q
      → (if ready then (if eqb n 0 then x else ended_by run n) else p) ≡ carried_on (if ready then (if eqb n 0 then y else ended_by load n) else q)
  polled x y p q n true e f = go (eqb n 0) refl
    where
      go : (t : Bool) → eqb n 0 ≡ t → (if t then x else ended_by run n) ≡ carried_on (if t then y else ended_by load n)
      go true z = e
      go false z = bad_end n z
  polled x y p q n false e f = f

  on_erase : (b : ℕ) (sc : List ℕ) → erase_polled run b w sc ≡ carried_on (erase_polled load b w sc)
  unfolding erase_polled
  on_erase b sc = polled (onward run 0 w sc) (onward load 0 w sc) (poll_more run EraseWaiting) (poll_more load EraseWaiting) (erase_end b) (is_ready b) (on_onward 0 sc) on_poll_erase

  on_program : (b : ℕ) (sc : List ℕ) → program_polled run b w sc ≡ carried_on (program_polled load b w sc)
  unfolding program_polled
  on_program b sc =
      polled (onward run (past l.place (length w)) w sc) (onward load (past l.place (length w)) w sc) (poll_more run ProgramWaiting) (poll_more load ProgramWaiting) (program_end b) (is_ready b)
      (on_onward (past l.place (length w)) sc) on_poll_program

  follows : (stage : Stage) (b : ℕ) (sc : List ℕ) → of_load stage ≡ true → is_ended stage ≡ false → next_in stage run b w sc ≡ carried_on (next_in stage load b w sc)
  follows Clearing b sc e g = refl
  follows Opening b sc e g = refl
  follows Reading b sc e g = on_read sc
  follows EraseAsking b sc e g = refl
  follows EraseConfirming b sc e g = refl
  follows EraseWaiting b sc e g = on_erase (status_in b) sc
  follows ProgramAsking b sc e g = refl
  follows ProgramSending b sc e g = refl
  follows ProgramWaiting b sc e g = on_program (status_in b) sc
  follows Closing b sc e g = absurd (unlike (sym e))
  follows Verifying b sc e g = absurd (unlike (sym e))
  follows (Ended n) b sc e g = absurd (unlike g)

-- an accepted step of a run's load
pub load_follows : (l : Loader) (b : ℕ) (w sc : List ℕ) → step_number l (length w) (length sc) ≡ 0 → of_load l.stage ≡ true → is_ended l.stage ≡ false
    → ((step_response (with_verify true l) b w sc).loader ≡ carried_on (step_response (with_verify false l) b w sc).loader)
    × (scratch_after (with_verify true l) b w sc ≡ scratch_after (with_verify false l) b w sc)
unfolding step_number bad_record
load_follows l b w sc n e g =
    let r = step_on (with_verify true l) b w sc n in
    let s = step_on (with_verify false l) b w sc n in
    let q : next_of (with_verify true l) b w (store_of l b w sc) ≡ carried_on (next_of (with_verify false l) b w (store_of l b w sc)) = follows l w l.stage b (store_of l b w sc) e g in
    (ap (λ (x : Response). x.loader) r.0 ∙ q ∙ sym (ap (λ (x : Response). carried_on x.loader) s.0), r.1 ∙ sym s.1)
