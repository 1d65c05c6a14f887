-- A load that has no bit to raise makes no poll of an erase: all its turns are quiet.
use mathlib.Core.Path.{◌≡◌, refl, sym, ap, ◌∙◌}
use mathlib.Core.Bool.{Bool, true, false, not, ◌&&◌, ◌||◌}
use mathlib.Core.List.{List, [], ◌∷◌}
use Prim.Native.Nat.{ℕ, zero, suc, ◌+◌, ◌-◌}
use lib.ListN.{length}
use lib.Dec.{eqb, ltb}
use Rattle.std.specs.Prelude.{if◌then◌else◌}
use Rattle.common.proofs.Choice.{if_ind, if_false, unlike, and_left, and_right}
use Rattle.device.specs.declared.Device.{Device}
use Rattle.model_types.specs.declared.Pins.{Pins}
use Rattle.model_types.specs.declared.Cycle.{Cycle}
use Rattle.model.specs.declared.Seen.{Seen}
use Rattle.model.specs.declared.Seen.TheVariants.{NoData, Data, Refused}
use Rattle.loader.specs.declared.Stage.{Stage}
use Rattle.loader.specs.declared.Stage.TheVariants.{Clearing, Opening, Reading, EraseAsking, EraseConfirming, EraseWaiting, ProgramAsking, ProgramSending, ProgramWaiting, Closing, Verifying, Ended}
use Rattle.loader.specs.declared.Loader.{Loader}
use Rattle.loader_walk.specs.Walks.{rises_in}
use Rattle.loader.specs.Stages.{is_ended}
use Rattle.loader_moves.specs.Moves.{next_in, after_read, after_reads, onward}
use Rattle.loader_steps.specs.Outs.{cycle_of}
use Rattle.loader_run.specs.Turns.{Config, loader_by, answer_to, turn_of, after}
use Rattle.loader_run.proofs.Turning.{turn_ended, turn_going}
use Rattle.loader_run_claims.specs.Made.{made_in, reads_then, opening_then}
use Rattle.loader_held_claims.specs.HeldMade.{polls_erase}
use Rattle.loader_held_claims.proofs.Lifting.{quiet_in}
use Rattle.loader_held_claims.proofs.QuietTurns.{late, late_next, none_polls, onward_late}

-- the stages outside an erase
abbrev pub outside : Stage → Bool
outside Clearing = true
outside Opening = true
outside Reading = true
outside EraseAsking = false
outside EraseConfirming = false
outside EraseWaiting = false
outside ProgramAsking = true
outside ProgramSending = true
outside ProgramWaiting = true
outside Closing = true
outside Verifying = true
outside (Ended n) = true

-- 20H of an erase is out
abbrev asks : Stage → Bool
asks Clearing = false
asks Opening = false
asks Reading = false
asks EraseAsking = true
asks EraseConfirming = false
asks EraseWaiting = false
asks ProgramAsking = false
asks ProgramSending = false
asks ProgramWaiting = false
asks Closing = false
asks Verifying = false
asks (Ended n) = false

-- from outside an erase a move leads outside it, or to its 20H
abbrev near : Stage → Bool
near s = outside s || asks s

late_outside : (s : Stage) → late s ≡ true → outside s ≡ true
late_outside Clearing e = refl
late_outside Opening e = refl
late_outside Reading e = refl
late_outside EraseAsking e = absurd (unlike (sym e))
late_outside EraseConfirming e = absurd (unlike (sym e))
late_outside EraseWaiting e = absurd (unlike (sym e))
late_outside ProgramAsking e = refl
late_outside ProgramSending e = refl
late_outside ProgramWaiting e = refl
late_outside Closing e = refl
late_outside Verifying e = refl
late_outside (Ended n) e = refl

outside_near : (s : Stage) → outside s ≡ true → near s ≡ true
outside_near s e = ap (λ (b : Bool). b || asks s) e

late_near : (s : Stage) → late s ≡ true → near s ≡ true
late_near s e = outside_near s (late_outside s e)

read_near : (l : Loader) (w sc : List ℕ) → near (after_read l w sc).stage ≡ true
unfolding after_read after_reads
read_near l w sc =
    if_ind (λ (x : Loader). near x.stage ≡ true) (ltb l.place (length w - 1)) _ _ (λ e. refl)
    (λ e. if_ind (λ (x : Loader). near x.stage ≡ true) (rises_in w sc) _ _ (λ f. refl) (λ f. late_near (onward l 0 w sc).stage (onward_late l 0 w sc)))

near_next : (s : Stage) (l : Loader) (v : ℕ) (w sc : List ℕ) → outside s ≡ true → s ≡ l.stage → near (next_in s l v w sc).stage ≡ true
near_next Clearing l v w sc e q = refl
near_next Opening l v w sc e q = refl
near_next Reading l v w sc e q = read_near l w sc
near_next EraseAsking l v w sc e q = absurd (unlike (sym e))
near_next EraseConfirming l v w sc e q = absurd (unlike (sym e))
near_next EraseWaiting l v w sc e q = absurd (unlike (sym e))
near_next ProgramAsking l v w sc e q = refl
near_next ProgramSending l v w sc e q = refl
near_next ProgramWaiting l v w sc e q = late_near (next_in ProgramWaiting l v w sc).stage (late_next ProgramWaiting l v w sc refl (ap late (sym q)))
near_next Closing l v w sc e q = refl
near_next Verifying l v w sc e q = late_near (next_in Verifying l v w sc).stage (late_next Verifying l v w sc refl (ap late (sym q)))
near_next (Ended n) l v w sc e q = ap near (sym q)

near_seen : (seen : Seen) (l : Loader) (w sc : List ℕ) → outside l.stage ≡ true → near (loader_by seen l w sc).stage ≡ true
near_seen NoData l w sc e = near_next l.stage l 0 w _ e refl
near_seen (Data v) l w sc e = near_next l.stage l v w _ e refl
near_seen (Refused n) l w sc e = refl

near_turn : (d : Device) (w : List ℕ) (c : Config) → outside c.loader.stage ≡ true → near (turn_of d w c).loader.stage ≡ true
near_turn d w c e = go (is_ended c.loader.stage) refl
  where
    go : (t : Bool) → is_ended c.loader.stage ≡ t → near (turn_of d w c).loader.stage ≡ true
    go true f = ap (λ (x : Config). near x.loader.stage) (turn_ended d w c f) ∙ outside_near c.loader.stage e
    go false f = ap (λ (x : Config). near x.loader.stage) (turn_going d w c f) ∙ near_seen (answer_to d w c.loader c.state c.bytes).seen c.loader w c.scratch e

-- no cycle of a list carries 20H
abbrev pub no_ask : List Cycle → Bool
no_ask [] = true
no_ask (c ∷ cs) = not (eqb c.data 0x20) && no_ask cs

asks_is : (s : Stage) → asks s ≡ true → s ≡ EraseAsking
asks_is Clearing e = absurd (unlike (sym e))
asks_is Opening e = absurd (unlike (sym e))
asks_is Reading e = absurd (unlike (sym e))
asks_is EraseAsking e = refl
asks_is EraseConfirming e = absurd (unlike (sym e))
asks_is EraseWaiting e = absurd (unlike (sym e))
asks_is ProgramAsking e = absurd (unlike (sym e))
asks_is ProgramSending e = absurd (unlike (sym e))
asks_is ProgramWaiting e = absurd (unlike (sym e))
asks_is Closing e = absurd (unlike (sym e))
asks_is Verifying e = absurd (unlike (sym e))
asks_is (Ended n) e = absurd (unlike (sym e))

asks_going : (s : Stage) → asks s ≡ true → is_ended s ≡ false
asks_going s e = ap is_ended (asks_is s e)

near_quiet : (s : Stage) → near s ≡ true → polls_erase s ≡ false
near_quiet = none_polls near refl

-- turns from outside an erase that make no cycle with 20H are quiet
module _ (d : Device) (w : List ℕ) where
  -- where 20H is out and a turn is made, it is among the cycles
  asked : (k : ℕ) (c : Config) → asks c.loader.stage ≡ true → no_ask (made_in (suc k) d w c) ≡ false
  asked k c e =
      ap no_ask (if_false (is_ended c.loader.stage) (made_in k d w (turn_of d w c)) (cycle_of c.loader w ∷ made_in k d w (turn_of d w c)) (asks_going c.loader.stage e))
      ∙ ap (λ (b : Bool). b && no_ask (made_in k d w (turn_of d w c))) (carries c.loader c.loader.stage (asks_is c.loader.stage e) refl)
    where
      carries : (l : Loader) (s : Stage) → s ≡ EraseAsking → s ≡ l.stage → not (eqb (cycle_of l w).data 0x20) ≡ false
      carries l s q z = ap (λ (x : Stage). not (eqb (data_at x l) 0x20)) (sym z ∙ q)
        where
          data_at : Stage → Loader → ℕ
          data_at x y = (cycle_of (record { part = y.part; pins = y.pins; block = y.block; stage = x; place = y.place; polls = y.polls; verify = y.verify; high = y.high }) w).data

  made_rest : (k : ℕ) (c : Config) → no_ask (made_in (suc k) d w c) ≡ true → no_ask (made_in k d w (turn_of d w c)) ≡ true
  made_rest k c = go (is_ended c.loader.stage)
    where
      ds : List Cycle
      ds = made_in k d w (turn_of d w c)

      go : (t : Bool) → no_ask (if t then ds else cycle_of c.loader w ∷ ds) ≡ true → no_ask ds ≡ true
      go true h = h
      go false h = and_right (not (eqb (cycle_of c.loader w).data 0x20)) (no_ask ds) h

  pub quiet_made : (k : ℕ) (c : Config) → outside c.loader.stage ≡ true → no_ask (made_in k d w c) ≡ true → quiet_in k d w c ≡ true
  quiet_made zero c e h = refl
  quiet_made (suc k) c e h = ap (λ (b : Bool). not b && quiet_in k d w (turn_of d w c)) (near_quiet (turn_of d w c).loader.stage (near_turn d w c e)) ∙ go k (outside (turn_of d w c).loader.stage) refl (made_rest k c h) (quiet_made k (turn_of d w c))
    where
      go : (j : ℕ) (t : Bool) → outside (turn_of d w c).loader.stage ≡ t → no_ask (made_in j d w (turn_of d w c)) ≡ true
          → (outside (turn_of d w c).loader.stage ≡ true → no_ask (made_in j d w (turn_of d w c)) ≡ true → quiet_in j d w (turn_of d w c) ≡ true) → quiet_in j d w (turn_of d w c) ≡ true
      go j true f g more = more f g
      go zero false f g more = refl
      go (suc j) false f g more =
          absurd (unlike (sym g ∙ asked j (turn_of d w c) (ap (λ (b : Bool). b || asks (turn_of d w c).loader.stage) (sym f) ∙ near_turn d w c e)))

  -- quiet turns up to a place from which all are quiet
  pub quiet_on : (i : ℕ) (c : Config) → quiet_in i d w c ≡ true → ((k : ℕ) → quiet_in k d w (after i d w c) ≡ true) → (k : ℕ) → quiet_in k d w c ≡ true
  quiet_on zero c q r k = r k
  quiet_on (suc i) c q r zero = refl
  quiet_on (suc i) c q r (suc k) =
      let here : not (polls_erase (turn_of d w c).loader.stage) ≡ true = and_left (not (polls_erase (turn_of d w c).loader.stage)) (quiet_in i d w (turn_of d w c)) q in
      ap (λ (b : Bool). b && quiet_in k d w (turn_of d w c)) here
      ∙ quiet_on i (turn_of d w c) (and_right (not (polls_erase (turn_of d w c).loader.stage)) (quiet_in i d w (turn_of d w c)) q) r k

-- the first cycles of a load carry no 20H
reads_none : (p : Pins) (n a i : ℕ) → no_ask (reads_then p n a i []) ≡ true
reads_none p zero a i = refl
reads_none p (suc n) a i = reads_none p n a (i + 1)

pub opening_none : (p : Pins) (a n : ℕ) → no_ask (opening_then p a n []) ≡ true
opening_none p a n = reads_none p n a 0
