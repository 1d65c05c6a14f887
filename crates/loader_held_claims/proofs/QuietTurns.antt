-- No way leads back to the erase's polls: turns before them and after them are quiet.
use mathlib.Core.Path.{◌≡◌, refl, sym, ap, ◌∙◌}
use mathlib.Core.Bool.{Bool, true, false, not, ◌&&◌, ◌||◌}
use mathlib.Core.List.{List}
use Prim.Native.Nat.{ℕ, zero, suc, ◌-◌}
use lib.ListN.{length, get_or}
use lib.Dec.{eqb, ltb, leb}
use Rattle.std.specs.Prelude.{if◌then◌else◌}
use Rattle.common.proofs.Choice.{if_ind, unlike}
use Rattle.units.specs.Units.{carried}
use Rattle.device.specs.declared.Device.{Device}
use Rattle.model.specs.declared.Seen.{Seen}
use Rattle.model.specs.declared.Seen.TheVariants.{NoData, Data, Refused}
use Rattle.loader.specs.declared.Stage.{Stage}
use Rattle.loader.specs.declared.Stage.TheVariants.{Clearing, Opening, Reading, EraseAsking, EraseConfirming, EraseWaiting, ProgramAsking, ProgramSending, ProgramWaiting, Closing, Verifying, Ended}
use Rattle.loader.specs.declared.Loader.{Loader}
use Rattle.loader_walk.specs.Walks.{diff_from}
use Rattle.loader.specs.Stages.{is_ended}
use Rattle.loader.specs.Statuses.{is_ready, erase_end, program_end, status_in}
use Rattle.loader_moves.specs.Moves.{loaded_stage, next_in, onward, poll_more, erase_polled, program_polled, verify_more}
use Rattle.loader_moves.specs.Inner.{past}
use Rattle.loader_run.specs.Turns.{Config, loader_by, answer_to, turn_of, after}
use Rattle.loader_run.proofs.Turning.{turn_ended, turn_going}
use Rattle.loader_held_claims.specs.HeldMade.{polls_erase}
use Rattle.loader_held_claims.proofs.Lifting.{quiet_in}

-- the stages after the erase's polls
abbrev pub late : Stage → Bool
late Clearing = false
late Opening = false
late Reading = false
late EraseAsking = false
late EraseConfirming = false
late EraseWaiting = false
late ProgramAsking = true
late ProgramSending = true
late ProgramWaiting = true
late Closing = true
late Verifying = true
late (Ended n) = true

-- .. and these
abbrev pub way : Stage → Bool
way s = polls_erase s || late s

pub after_load : (verify : Bool) → late (loaded_stage verify) ≡ true
after_load true = refl
after_load false = refl

pub onward_late : (l : Loader) (i : ℕ) (w sc : List ℕ) → late (onward l i w sc).stage ≡ true
unfolding onward
onward_late l i w sc = if_ind (λ (x : Loader). late x.stage ≡ true) (ltb (diff_from i w sc) (length w)) _ _ (λ e. refl) (λ e. after_load l.verify)

polled_late : (l : Loader) (b : ℕ) (w sc : List ℕ) → late (program_polled l b w sc).stage ≡ true
unfolding program_polled poll_more
polled_late l b w sc =
    if_ind (λ (x : Loader). late x.stage ≡ true) (is_ready b) _ _
    (λ e. if_ind (λ (x : Loader). late x.stage ≡ true) (eqb (program_end b) 0) _ _ (λ f. onward_late l (past l.place (length w)) w sc) (λ f. refl))
    (λ e. if_ind (λ (x : Loader). late x.stage ≡ true) (leb 65534 l.polls) _ _ (λ f. refl) (λ f. refl))

verify_late : (l : Loader) (v : ℕ) (w : List ℕ) → late (verify_more l v w).stage ≡ true
unfolding verify_more
verify_late l v w =
    if_ind (λ (x : Loader). late x.stage ≡ true) (eqb (carried l.part.word v) (get_or w l.place 0)) _ _
    (λ e. if_ind (λ (x : Loader). late x.stage ≡ true) (ltb l.place (length w - 1)) _ _ (λ f. refl) (λ f. refl)) (λ e. refl)

late_way : (s : Stage) → late s ≡ true → way s ≡ true
late_way s e = ap (λ (b : Bool). polls_erase s || b) e ∙ or_yes (polls_erase s)
  where
    or_yes : (b : Bool) → (b || true) ≡ true
    or_yes true = refl
    or_yes false = refl

-- stages among which the erase's poll is not are quiet
pub none_polls : (P : Stage → Bool) → P EraseWaiting ≡ false → (s : Stage) → P s ≡ true → polls_erase s ≡ false
none_polls P h Clearing e = refl
none_polls P h Opening e = refl
none_polls P h Reading e = refl
none_polls P h EraseAsking e = refl
none_polls P h EraseConfirming e = refl
none_polls P h EraseWaiting e = absurd (unlike (sym e ∙ h))
none_polls P h ProgramAsking e = refl
none_polls P h ProgramSending e = refl
none_polls P h ProgramWaiting e = refl
none_polls P h Closing e = refl
none_polls P h Verifying e = refl
none_polls P h (Ended n) e = refl

pub late_quiet : (s : Stage) → late s ≡ true → polls_erase s ≡ false
late_quiet = none_polls late refl

poll_way : (l : Loader) (b : ℕ) (w sc : List ℕ) → way (erase_polled l b w sc).stage ≡ true
unfolding erase_polled poll_more
poll_way l b w sc =
    if_ind (λ (x : Loader). way x.stage ≡ true) (is_ready b) _ _
    (λ e. if_ind (λ (x : Loader). way x.stage ≡ true) (eqb (erase_end b) 0) _ _ (λ f. late_way (onward l 0 w sc).stage (onward_late l 0 w sc)) (λ f. refl))
    (λ e. if_ind (λ (x : Loader). way x.stage ≡ true) (leb 65534 l.polls) _ _ (λ f. refl) (λ f. refl))

pub late_next : (s : Stage) (l : Loader) (v : ℕ) (w sc : List ℕ) → late s ≡ true → late l.stage ≡ true → late (next_in s l v w sc).stage ≡ true
late_next Clearing l v w sc e f = absurd (unlike (sym e))
late_next Opening l v w sc e f = absurd (unlike (sym e))
late_next Reading l v w sc e f = absurd (unlike (sym e))
late_next EraseAsking l v w sc e f = absurd (unlike (sym e))
late_next EraseConfirming l v w sc e f = absurd (unlike (sym e))
late_next EraseWaiting l v w sc e f = absurd (unlike (sym e))
late_next ProgramAsking l v w sc e f = refl
late_next ProgramSending l v w sc e f = refl
late_next ProgramWaiting l v w sc e f = polled_late l (status_in v) w sc
late_next Closing l v w sc e f = refl
late_next Verifying l v w sc e f = verify_late l v w
late_next (Ended n) l v w sc e f = f

way_next : (s : Stage) (l : Loader) (v : ℕ) (w sc : List ℕ) → way s ≡ true → way l.stage ≡ true → way (next_in s l v w sc).stage ≡ true
way_next Clearing l v w sc e f = absurd (unlike (sym e))
way_next Opening l v w sc e f = absurd (unlike (sym e))
way_next Reading l v w sc e f = absurd (unlike (sym e))
way_next EraseAsking l v w sc e f = absurd (unlike (sym e))
way_next EraseConfirming l v w sc e f = absurd (unlike (sym e))
way_next EraseWaiting l v w sc e f = poll_way l (status_in v) w sc
way_next ProgramAsking l v w sc e f = refl
way_next ProgramSending l v w sc e f = refl
way_next ProgramWaiting l v w sc e f = late_way (program_polled l (status_in v) w sc).stage (polled_late l (status_in v) w sc)
way_next Closing l v w sc e f = refl
way_next Verifying l v w sc e f = late_way (verify_more l v w).stage (verify_late l v w)
way_next (Ended n) l v w sc e f = f

module _ (d : Device) (w : List ℕ) where
  -- a set of stages that no move leaves
  module _ (P : Stage → Bool) (stays : (seen : Seen) (l : Loader) (sc : List ℕ) → P l.stage ≡ true → P (loader_by seen l w sc).stage ≡ true) where
    turn_stays : (c : Config) → P c.loader.stage ≡ true → P (turn_of d w c).loader.stage ≡ true
    turn_stays c e = go (is_ended c.loader.stage) refl
      where
        go : (t : Bool) → is_ended c.loader.stage ≡ t → P (turn_of d w c).loader.stage ≡ true
        go true f = ap (λ (x : Config). P x.loader.stage) (turn_ended d w c f) ∙ e
        go false f = ap (λ (x : Config). P x.loader.stage) (turn_going d w c f) ∙ stays (answer_to d w c.loader c.state c.bytes).seen c.loader c.scratch e

    all_stay : (k : ℕ) (c : Config) → P c.loader.stage ≡ true → P (after k d w c).loader.stage ≡ true
    all_stay zero c e = e
    all_stay (suc k) c e = all_stay k (turn_of d w c) (turn_stays c e)

  late_seen : (seen : Seen) (l : Loader) (sc : List ℕ) → late l.stage ≡ true → late (loader_by seen l w sc).stage ≡ true
  late_seen NoData l sc e = late_next l.stage l 0 w _ e e
  late_seen (Data v) l sc e = late_next l.stage l v w _ e e
  late_seen (Refused n) l sc e = refl

  way_seen : (seen : Seen) (l : Loader) (sc : List ℕ) → way l.stage ≡ true → way (loader_by seen l w sc).stage ≡ true
  way_seen NoData l sc e = way_next l.stage l 0 w _ e e
  way_seen (Data v) l sc e = way_next l.stage l v w _ e e
  way_seen (Refused n) l sc e = refl

  poll_is_way : (s : Stage) → polls_erase s ≡ true → way s ≡ true
  poll_is_way s e = ap (λ (b : Bool). b || late s) e

  -- after the polls all turns are quiet
  pub quiet_after : (k : ℕ) (c : Config) → late c.loader.stage ≡ true → quiet_in k d w c ≡ true
  quiet_after zero c e = refl
  quiet_after (suc k) c e =
      let f : late (turn_of d w c).loader.stage ≡ true = turn_stays late late_seen c e in
      ap (λ (b : Bool). not b && quiet_in k d w (turn_of d w c)) (late_quiet (turn_of d w c).loader.stage f) ∙ quiet_after k (turn_of d w c) f

  -- .. and so are those that lead to a stage before them
  pub quiet_before : (k : ℕ) (c : Config) → way (after k d w c).loader.stage ≡ false → quiet_in k d w c ≡ true
  quiet_before zero c e = refl
  quiet_before (suc k) c e = go (polls_erase (turn_of d w c).loader.stage) refl (quiet_before k (turn_of d w c) e)
    where
      go : (t : Bool) → polls_erase (turn_of d w c).loader.stage ≡ t → quiet_in k d w (turn_of d w c) ≡ true → (not (polls_erase (turn_of d w c).loader.stage) && quiet_in k d w (turn_of d w c)) ≡ true
      go true f q = absurd (unlike (sym (all_stay way way_seen k (turn_of d w c) (poll_is_way (turn_of d w c).loader.stage f)) ∙ e))
      go false f q = ap (λ (b : Bool). not b && quiet_in k d w (turn_of d w c)) f ∙ q
