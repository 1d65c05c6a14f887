-- A number that falls with every cycle of a load, for any record, byte and scratch: every load ends.
use mathlib.Core.Path.{◌≡◌, refl}
use mathlib.Core.Bool.{Bool, true, false}
use mathlib.Core.List.{List}
use Prim.Native.Nat.{ℕ, zero, suc, ◌+◌, ◌-◌, ◌*◌, ◌≤◌, ◌<◌}
use native.Mathlib.Omega.{arith}
use lib.ListN.{length, get_or}
use lib.Dec.{eqb, ltb, leb}
use borrow.Author.Tests.{ltb-true, ltb-false, leb-false}
use Rattle.std.specs.Prelude.{if◌then◌else◌}
use Rattle.common.proofs.Choice.{if_ind, unlike}
use Rattle.loader.specs.declared.Stage.{Stage}
use Rattle.loader.specs.declared.Stage.TheVariants.{Clearing, Opening, Reading, EraseAsking, EraseConfirming, EraseWaiting, ProgramAsking, ProgramSending, ProgramWaiting, Closing, Verifying, Ended}
use Rattle.loader.specs.declared.Loader.{Loader}
use Rattle.units.specs.Units.{carried}
use Rattle.loader_walk.specs.Walks.{next_diff, diff_from, rises_in}
use Rattle.loader.specs.Statuses.{status_in, is_ready, erase_end, program_end}
use Rattle.loader_moves.specs.Moves.{loaded_stage, onward, after_reads, after_read, poll_more, erase_polled, program_polled, verify_more, next_in}
use Rattle.loader_moves.specs.Inner.{past}
use Rattle.loader_stores.specs.Stores.{store_of}
use Rattle.model.specs.declared.Seen.{Seen}
use Rattle.model.specs.declared.Seen.TheVariants.{NoData, Data, Refused}
use Rattle.loader_run.specs.Turns.{loader_by}
use Rattle.loader_run.specs.Inner.{bound}
use Rattle.loader.specs.Stages.{is_ended}

-- the most cycles from the first program of a load of n bytes to its end
abbrev programs : ℕ → ℕ
programs n = (n - 1) * 65537 + (n + 65540)

-- the most cycles to the end, by stage, bytes, place and polls
abbrev pub remains_in : Stage → ℕ → ℕ → ℕ → ℕ
remains_in Clearing n p q = programs n + (n + 65540)
remains_in Opening n p q = programs n + (n + 65539)
remains_in Reading n p q = programs n + (65538 + (n - 1 - p))
remains_in EraseAsking n p q = programs n + 65537
remains_in EraseConfirming n p q = programs n + 65536
remains_in EraseWaiting n p q = programs n + (1 + (65534 - q))
remains_in ProgramAsking n p q = (n - 1 - p) * 65537 + (n + 65540)
remains_in ProgramSending n p q = (n - 1 - p) * 65537 + (n + 65539)
remains_in ProgramWaiting n p q = (n - 1 - p) * 65537 + (n + (4 + (65534 - q)))
remains_in Closing n p q = n + 2
remains_in Verifying n p q = 1 + (n - 1 - p)
remains_in (Ended m) n p q = 0

abbrev pub remains : Loader → ℕ → ℕ
remains l n = remains_in l.stage n l.place l.polls

-- no record has more to go than the bound
pub remains_bound : (stage : Stage) (n p q : ℕ) → remains_in stage n p q ≤ bound n
remains_bound Clearing n p q = omega arith
remains_bound Opening n p q = omega arith
remains_bound Reading n p q = omega arith
remains_bound EraseAsking n p q = omega arith
remains_bound EraseConfirming n p q = omega arith
remains_bound EraseWaiting n p q = omega arith
remains_bound ProgramAsking n p q = omega arith
remains_bound ProgramSending n p q = omega arith
remains_bound ProgramWaiting n p q = omega arith
remains_bound Closing n p q = omega arith
remains_bound Verifying n p q = omega arith
remains_bound (Ended m) n p q = omega arith

-- a load that has not ended has a cycle to go
pub remains_some : (stage : Stage) (n p q : ℕ) → is_ended stage ≡ false → 0 < remains_in stage n p q
remains_some Clearing n p q e = omega arith
remains_some Opening n p q e = omega arith
remains_some Reading n p q e = omega arith
remains_some EraseAsking n p q e = omega arith
remains_some EraseConfirming n p q e = omega arith
remains_some EraseWaiting n p q e = omega arith
remains_some ProgramAsking n p q e = omega arith
remains_some ProgramSending n p q e = omega arith
remains_some ProgramWaiting n p q e = omega arith
remains_some Closing n p q e = omega arith
remains_some Verifying n p q e = omega arith
remains_some (Ended m) n p q e = absurd (unlike e)

-- a walk looks ahead
next_ahead : (k i : ℕ) (w s : List ℕ) → i ≤ next_diff k i w s
next_ahead zero i w s = omega arith
next_ahead (suc k) i w s =
    if_ind (λ (j : ℕ). i ≤ j) (eqb (get_or s i 0) (get_or w i 0)) (next_diff k (i + 1) w s) i (λ e. omega (arith, next_ahead k (i + 1) w s)) (λ e. omega arith)

diff_ahead : (i : ℕ) (w s : List ℕ) → i ≤ diff_from i w s
unfolding diff_from
diff_ahead i w s = next_ahead (length w - i) i w s

-- what follows the last program is a verify at most
closes : (verify : Bool) (n : ℕ) → remains_in (loaded_stage verify) n 0 0 ≤ n + 2
closes true n = omega arith
closes false n = omega arith

module _ (l : Loader) (w sc : List ℕ) where
  -- from the first byte on
  onward_first : remains (onward l 0 w sc) (length w) ≤ programs (length w)
  unfolding onward
  onward_first =
      if_ind (λ (r : Loader). remains r (length w) ≤ programs (length w)) (ltb (diff_from 0 w sc) (length w)) _ _
      (λ e. least (diff_from 0 w sc) (length w)) (λ e. omega (arith, closes l.verify (length w)))
    where
      least : (j n : ℕ) → (n - 1 - j) * 65537 + (n + 65540) ≤ programs n
      least j n = omega arith

  -- from the byte after p on
  onward_next : (p : ℕ) → remains (onward l (past p (length w)) w sc) (length w) ≤ (length w - 1 - p) * 65537 + (length w + 3)
  unfolding onward past
  onward_next p = go (ltb p (length w)) refl
    where
      closer : (n j : ℕ) → j < n → p + 1 ≤ j → (n - 1 - j) * 65537 + (n + 65540) ≤ (n - 1 - p) * 65537 + (n + 3)
      closer n j a b = omega arith

      far : (j : ℕ) → length w ≤ p → p ≤ j → ltb j (length w) ≡ true → (length w - 1 - j) * 65537 + (length w + 65540) ≤ (length w - 1 - p) * 65537 + (length w + 3)
      far j a b e = let z = ltb-true j (length w) e in omega arith

      In : Loader → Type 0
      In r = remains r (length w) ≤ (length w - 1 - p) * 65537 + (length w + 3)

      go : (b : Bool) → ltb p (length w) ≡ b → In (onward l (if ltb p (length w) then p + 1 else p) w sc)
      go true e =
          rw e
          (if_ind In (ltb (diff_from (p + 1) w sc) (length w)) _ _
          (λ h. closer (length w) (diff_from (p + 1) w sc) (ltb-true _ _ h) (diff_ahead (p + 1) w sc)) (λ h. omega (arith, closes l.verify (length w))))
      go false e =
          rw e
          (if_ind In (ltb (diff_from p w sc) (length w)) _ _
          (λ h. far (diff_from p w sc) (ltb-false _ _ e) (diff_ahead p w sc) h) (λ h. omega (arith, closes l.verify (length w))))

  -- one more byte read
  read_falls : remains (after_read l w sc) (length w) < remains_in Reading (length w) l.place l.polls
  unfolding after_read after_reads
  read_falls =
      if_ind In (ltb l.place (length w - 1)) _ _ (λ e. nearer (length w) l.place (ltb-true _ _ e))
      (λ e. if_ind In (rises_in w sc) _ _ (λ r. omega arith) (λ r. omega (arith, onward_first)))
    where
      In : Loader → Type 0
      In r = remains r (length w) < remains_in Reading (length w) l.place l.polls

      nearer : (n p : ℕ) → p < n - 1 → programs n + (65538 + (n - 1 - (p + 1))) < programs n + (65538 + (n - 1 - p))
      nearer n p h = omega arith

  -- one poll more, of either operation
  erase_poll : remains (poll_more l EraseWaiting) (length w) < remains_in EraseWaiting (length w) l.place l.polls
  unfolding poll_more
  erase_poll = if_ind In (leb 65534 l.polls) _ _ (λ e. omega arith) (λ e. let z = leb-false 65534 l.polls e in omega arith)
    where
      In : Loader → Type 0
      In r = remains r (length w) < remains_in EraseWaiting (length w) l.place l.polls

  program_poll : remains (poll_more l ProgramWaiting) (length w) < remains_in ProgramWaiting (length w) l.place l.polls
  unfolding poll_more
  program_poll = if_ind In (leb 65534 l.polls) _ _ (λ e. omega arith) (λ e. let z = leb-false 65534 l.polls e in poll ((length w - 1 - l.place) * 65537) (length w) l.polls z)
    where
      In : Loader → Type 0
      In r = remains r (length w) < remains_in ProgramWaiting (length w) l.place l.polls

      poll : (a n q : ℕ) → q < 65534 → a + (n + (4 + (65534 - (q + 1)))) < a + (n + (4 + (65534 - q)))
      poll a n q h = omega arith

  erase_falls : (b : ℕ) → remains (erase_polled l b w sc) (length w) < remains_in EraseWaiting (length w) l.place l.polls
  unfolding erase_polled
  erase_falls b =
      if_ind In (is_ready b) _ _ (λ r. if_ind In (eqb (erase_end b) 0) _ _ (λ f. omega (arith, onward_first)) (λ f. omega arith)) (λ r. erase_poll)
    where
      In : Loader → Type 0
      In r = remains r (length w) < remains_in EraseWaiting (length w) l.place l.polls

  program_falls : (b : ℕ) → remains (program_polled l b w sc) (length w) < remains_in ProgramWaiting (length w) l.place l.polls
  unfolding program_polled
  program_falls b =
      if_ind In (is_ready b) _ _ (λ r. if_ind In (eqb (program_end b) 0) _ _ (λ f. omega (arith, onward_next l.place)) (λ f. omega arith)) (λ r. program_poll)
    where
      In : Loader → Type 0
      In r = remains r (length w) < remains_in ProgramWaiting (length w) l.place l.polls

  verify_falls : (b : ℕ) → remains (verify_more l b w) (length w) < remains_in Verifying (length w) l.place l.polls
  unfolding verify_more
  verify_falls b =
      if_ind In (eqb (carried l.part.word b) (get_or w l.place 0)) _ _
      (λ e. if_ind In (ltb l.place (length w - 1)) _ _ (λ h. nearer (length w) l.place (ltb-true _ _ h)) (λ h. omega arith)) (λ e. omega arith)
    where
      In : Loader → Type 0
      In r = remains r (length w) < remains_in Verifying (length w) l.place l.polls

      nearer : (n p : ℕ) → p < n - 1 → 1 + (n - 1 - (p + 1)) < 1 + (n - 1 - p)
      nearer n p h = omega arith

-- every byte taken brings the end nearer
falls_in : (stage : Stage) (l : Loader) (b : ℕ) (w sc : List ℕ) → is_ended stage ≡ false → remains (next_in stage l b w sc) (length w) < remains_in stage (length w) l.place l.polls
falls_in Clearing l b w sc e = omega arith
falls_in Opening l b w sc e = omega arith
falls_in Reading l b w sc e = read_falls l w sc
falls_in EraseAsking l b w sc e = omega arith
falls_in EraseConfirming l b w sc e = omega arith
falls_in EraseWaiting l b w sc e = erase_falls l w sc (status_in b)
falls_in ProgramAsking l b w sc e = omega arith
falls_in ProgramSending l b w sc e = omega arith
falls_in ProgramWaiting l b w sc e = program_falls l w sc (status_in b)
falls_in Closing l b w sc e = omega arith
falls_in Verifying l b w sc e = verify_falls l w sc b
falls_in (Ended m) l b w sc e = absurd (unlike e)

-- whatever the model answers
pub falls : (seen : Seen) (l : Loader) (w sc : List ℕ) → is_ended l.stage ≡ false → remains (loader_by seen l w sc) (length w) < remains l (length w)
falls NoData l w sc e = falls_in l.stage l 0 w (store_of l 0 w sc) e
falls (Data b) l w sc e = falls_in l.stage l b w (store_of l b w sc) e
falls (Refused m) l w sc e = remains_some l.stage (length w) l.place l.polls e
