-- A load alone keeps to its stages and ends, and so does a verify, whatever data are handed to the steps.
use mathlib.Core.Path.{◌≡◌, refl, sym, ap, ◌∙◌}
use mathlib.Core.Bool.{true, false}
use mathlib.Core.List.{List}
use Prim.Native.Nat.{ℕ, ◌-◌}
use native.Mathlib.Omega.{arith}
use lib.ListN.{length, get_or}
use lib.Dec.{eqb, ltb, leb}
use Rattle.common.proofs.Choice.{if_ind, unlike}
use Rattle.loader.specs.declared.Stage.{Stage}
use Rattle.loader.specs.declared.Stage.TheVariants.{Clearing, Opening, Reading, EraseAsking, EraseConfirming, EraseWaiting, ProgramAsking, ProgramSending, ProgramWaiting, Closing, Verifying, Ended}
use Rattle.loader.specs.declared.Loader.{Loader}
use Rattle.loader.specs.declared.Saying.TheVariants.{Over}
use Rattle.loader.specs.declared.Response.{Response}
use Rattle.loader_walk.specs.Walks.{diff_from, rises_in}
use Rattle.units.specs.Units.{carried}
use Rattle.loader.specs.Statuses.{status_in, is_ready, sr3, sr4, sr5, both_errors, erase_end, program_end}
use Rattle.loader_moves.specs.Moves.{loaded_stage, onward, after_reads, after_read, poll_more, erase_polled, program_polled, verify_more, next_in, next_of}
use Rattle.loader_moves.specs.Inner.{past}
use Rattle.loader_stores.specs.Stores.{store_of}
use Rattle.loader_steps.specs.Front.{step_number, response_at, refused_by, step_response}
use Rattle.loader_steps.specs.Ends.{ends_load, ends_verify, of_load, of_verify}
use Rattle.loader_steps.proofs.StartAndStep.{kept_next, over_stage}

erase_ends : (b : ℕ) → ends_load (erase_end b) ≡ true
unfolding erase_end
erase_ends b =
    if_ind (λ (n : ℕ). ends_load n ≡ true) (sr3 b) _ _ (λ e. refl)
    (λ e. if_ind (λ (n : ℕ). ends_load n ≡ true) (both_errors b) _ _ (λ f. refl) (λ f. if_ind (λ (n : ℕ). ends_load n ≡ true) (sr5 b) 23 0 (λ g. refl) (λ g. refl)))

program_ends : (b : ℕ) → ends_load (program_end b) ≡ true
unfolding program_end
program_ends b =
    if_ind (λ (n : ℕ). ends_load n ≡ true) (sr3 b) _ _ (λ e. refl)
    (λ e. if_ind (λ (n : ℕ). ends_load n ≡ true) (both_errors b) _ _ (λ f. refl) (λ f. if_ind (λ (n : ℕ). ends_load n ≡ true) (sr4 b) 24 0 (λ g. refl) (λ g. refl)))

-- a load that no verify follows
module _ (l : Loader) (w : List ℕ) (alone : l.verify ≡ false) where
  abbrev In : Loader → Type 0
  In r = of_load r.stage ≡ true

  on_onward : (i : ℕ) (sc : List ℕ) → In (onward l i w sc)
  unfolding onward
  on_onward i sc = if_ind In (ltb (diff_from i w sc) (length w)) _ _ (λ e. refl) (λ e. ap (λ (v : _). of_load (loaded_stage v)) alone)

  on_read : (sc : List ℕ) → In (after_read l w sc)
  unfolding after_read after_reads
  on_read sc = if_ind In (ltb l.place (length w - 1)) _ _ (λ e. refl) (λ e. if_ind In (rises_in w sc) _ _ (λ r. refl) (λ r. on_onward 0 sc))

  on_poll : (stage : Stage) → of_load stage ≡ true → In (poll_more l stage)
  unfolding poll_more
  on_poll stage q = if_ind In (leb 65534 l.polls) _ _ (λ e. refl) (λ e. q)

  on_erase : (b : ℕ) (sc : List ℕ) → In (erase_polled l b w sc)
  unfolding erase_polled
  on_erase b sc = if_ind In (is_ready b) _ _ (λ r. if_ind In (eqb (erase_end b) 0) _ _ (λ f. on_onward 0 sc) (λ f. erase_ends b)) (λ r. on_poll EraseWaiting refl)

  on_program : (b : ℕ) (sc : List ℕ) → In (program_polled l b w sc)
  unfolding program_polled
  on_program b sc =
      if_ind In (is_ready b) _ _ (λ r. if_ind In (eqb (program_end b) 0) _ _ (λ f. on_onward (past l.place (length w)) sc) (λ f. program_ends b)) (λ r. on_poll ProgramWaiting refl)

  load_next : (stage : Stage) (b : ℕ) (sc : List ℕ) → stage ≡ l.stage → of_load stage ≡ true → In (next_in stage l b w sc)
  load_next Clearing b sc q e = refl
  load_next Opening b sc q e = refl
  load_next Reading b sc q e = on_read sc
  load_next EraseAsking b sc q e = refl
  load_next EraseConfirming b sc q e = refl
  load_next EraseWaiting b sc q e = on_erase (status_in b) sc
  load_next ProgramAsking b sc q e = refl
  load_next ProgramSending b sc q e = refl
  load_next ProgramWaiting b sc q e = on_program (status_in b) sc
  load_next Closing b sc q e = absurd (unlike (sym e))
  load_next Verifying b sc q e = absurd (unlike (sym e))
  load_next (Ended n) b sc q e = ap of_load (sym q) ∙ e

-- a verify, with or without a load before it
module _ (l : Loader) (w : List ℕ) where
  on_verify : (b : ℕ) → of_verify (verify_more l b w).stage ≡ true
  unfolding verify_more
  on_verify b =
      if_ind (λ (r : Loader). of_verify r.stage ≡ true) (eqb (carried l.part.word b) (get_or w l.place 0)) _ _
      (λ e. if_ind (λ (r : Loader). of_verify r.stage ≡ true) (ltb l.place (length w - 1)) _ _ (λ i. refl) (λ i. refl)) (λ e. refl)

  verify_next : (stage : Stage) (b : ℕ) (sc : List ℕ) → stage ≡ l.stage → of_verify stage ≡ true → of_verify (next_in stage l b w sc).stage ≡ true
  verify_next Clearing b sc q e = absurd (unlike (sym e))
  verify_next Opening b sc q e = absurd (unlike (sym e))
  verify_next Reading b sc q e = absurd (unlike (sym e))
  verify_next EraseAsking b sc q e = absurd (unlike (sym e))
  verify_next EraseConfirming b sc q e = absurd (unlike (sym e))
  verify_next EraseWaiting b sc q e = absurd (unlike (sym e))
  verify_next ProgramAsking b sc q e = absurd (unlike (sym e))
  verify_next ProgramSending b sc q e = absurd (unlike (sym e))
  verify_next ProgramWaiting b sc q e = absurd (unlike (sym e))
  verify_next Closing b sc q e = refl
  verify_next Verifying b sc q e = on_verify b
  verify_next (Ended n) b sc q e = ap of_verify (sym q) ∙ e

module _ (l : Loader) (b : ℕ) (w sc : List ℕ) where
  -- the record that a step gives: the next, or as before where it is refused
  either : (P : Loader → Type 0) → P (next_of l b w (store_of l b w sc)) → P l → P (step_response l b w sc).loader
  unfolding step_response
  either P x y = if_ind (λ (g : Response). P g.loader) (eqb (step_number l (length w) (length sc)) 0) _ _ (λ e. x) (λ e. y)

  -- a step that gives an end gives a record that has ended so
  ended_as : (n a : ℕ) → (step_response l b w sc).saying ≡ Over n a → (step_response l b w sc).loader.stage ≡ Ended n
  unfolding step_response
  ended_as n a =
      if_ind (λ (g : Response). g.saying ≡ Over n a → g.loader.stage ≡ Ended n) (eqb (step_number l (length w) (length sc)) 0) (response_at (next_of l b w (store_of l b w sc)) w)
      (refused_by (step_number l (length w) (length sc)) l) (λ e q. (over_stage (next_of l b w (store_of l b w sc)).stage (next_of l b w (store_of l b w sc)) w n a q).0)
      (λ e q. absurd (let z : ◌≡◌ {A = ℕ} 0 1 = cc in omega arith))

  pub load_steps : l.verify ≡ false → of_load l.stage ≡ true → ((step_response l b w sc).loader.verify ≡ false) × (of_load (step_response l b w sc).loader.stage ≡ true)
  load_steps v e = (
    either (λ (r : Loader). r.verify ≡ false) (ap (λ (r : Loader). r.verify) (kept_next l w l.stage b (store_of l b w sc)).same ∙ v) v,
    either (λ (r : Loader). of_load r.stage ≡ true) (load_next l w v l.stage b (store_of l b w sc) refl e) e,
  )

  pub verify_steps : of_verify l.stage ≡ true → of_verify (step_response l b w sc).loader.stage ≡ true
  verify_steps e = either (λ (r : Loader). of_verify r.stage ≡ true) (verify_next l w l.stage b (store_of l b w sc) refl e) e

  pub load_over : (n a : ℕ) → l.verify ≡ false → of_load l.stage ≡ true → (step_response l b w sc).saying ≡ Over n a → ends_load n ≡ true
  load_over n a v e q = sym (ap of_load (ended_as n a q)) ∙ (load_steps v e).1

  pub verify_over : (n a : ℕ) → of_verify l.stage ≡ true → (step_response l b w sc).saying ≡ Over n a → ends_verify n ≡ true
  verify_over n a e q = sym (ap of_verify (ended_as n a q)) ∙ verify_steps e
