-- Where no interruption is made, an interrupted load is the old load, turn by turn.
use mathlib.Core.Path.{◌≡◌, refl, sym, ap, ◌∙◌}
use mathlib.Core.Bool.{Bool, true, false, not, ◌&&◌}
use mathlib.Core.List.{List, [], ◌∷◌, ◌++◌}
use Prim.Native.Nat.{ℕ, zero, suc, ◌+◌, ◌≤◌, ◌<◌}
use native.Mathlib.Omega.{arith}
use lib.Dec.{ltb}
use Rattle.std.specs.Prelude.{if◌then◌else◌}
use Rattle.common.proofs.Choice.{if_true, if_false, unlike, and_left, and_right}
use Rattle.device.specs.declared.Device.{Device}
use Rattle.model_types.specs.declared.State.{State}
use Rattle.model_types.specs.declared.Effect.{Effect}
use Rattle.model_types.specs.declared.Effect.TheVariants.{Nothing, Program, Erase, CutProgram, CutErase}
use Rattle.model_types.specs.declared.Cycle.{Cycle}
use Rattle.model.specs.declared.Seen.{Seen}
use Rattle.model.specs.declared.Seen.TheVariants.{NoData, Data, Refused}
use Rattle.loader.specs.declared.Stage.{Stage}
use Rattle.loader.specs.declared.Stage.TheVariants.{Clearing, Opening, Reading, EraseAsking, EraseConfirming, EraseWaiting, ProgramAsking, ProgramSending, ProgramWaiting, Closing, Verifying, Ended}
use Rattle.loader.specs.Stages.{is_ended}
use Rattle.loader_steps.specs.Outs.{cycle_of}
use Rattle.loader_run.specs.Turns.{Config, loader_by, scratch_by, answer_to, array_to, turn_of, after}
use Rattle.loader_run.proofs.Turning.{turn_ended, turn_going}
use Rattle.loader_run_claims.specs.Made.{made_in, smooth_turn, smooth_in}
use Rattle.loader_run_claims.specs.Wear.{noted, begun_turn, begun_in}
use Rattle.loader_held.specs.Holds.{listed, usual, after_poll, numbered}
use Rattle.loader_held_run.specs.HeldTurns.{HeldConfig, moved_by, held_moved, held_turn, held_after, held_answer, held_array, beside}
use Rattle.loader_held_run.specs.HeldRuns.{held_conf}
use Rattle.loader_held_claims.specs.HeldMade.{HeldReach, held_begun_turn, held_begun, held_made, held_smooth_turn, held_smooth, polls_erase}

pub calm_numbered : (s : Stage) (n : ℕ) (ps : List ℕ) → polls_erase s ≡ false → numbered s n ps ≡ usual n
calm_numbered Clearing n ps e = refl
calm_numbered Opening n ps e = refl
calm_numbered Reading n ps e = refl
calm_numbered EraseAsking n ps e = refl
calm_numbered EraseConfirming n ps e = refl
calm_numbered EraseWaiting n ps e = absurd (unlike e)
calm_numbered ProgramAsking n ps e = refl
calm_numbered ProgramSending n ps e = refl
calm_numbered ProgramWaiting n ps e = refl
calm_numbered Closing n ps e = refl
calm_numbered Verifying n ps e = refl
calm_numbered (Ended x) n ps e = refl

-- the number after a move, where no poll to come is listed
pub record Usually (s : Stage) (n : ℕ) (ps : List ℕ) : Type 0 where
  pub number : ℕ
  pub later : n ≤ number
  pub stays : numbered s n ps ≡ usual number

one_more : (n : ℕ) (ps : List ℕ) → listed (n + 1) ps ≡ false → (t : Bool) → ltb n 4294967295 ≡ t → Usually EraseWaiting n ps
unfolding after_poll
one_more n ps none true e = record { number = n + 1; later = omega arith; stays = if_true (ltb n 4294967295) _ _ e ∙ if_false (listed (n + 1) ps) _ _ none }
one_more n ps none false e = record { number = n; later = omega arith; stays = if_false (ltb n 4294967295) _ _ e }

unlisted : (s : Stage) (n : ℕ) (ps : List ℕ) → listed (n + 1) ps ≡ false → Usually s n ps
unlisted Clearing n ps none = record { number = n; later = omega arith; stays = refl }
unlisted Opening n ps none = record { number = n; later = omega arith; stays = refl }
unlisted Reading n ps none = record { number = n; later = omega arith; stays = refl }
unlisted EraseAsking n ps none = record { number = n; later = omega arith; stays = refl }
unlisted EraseConfirming n ps none = record { number = n; later = omega arith; stays = refl }
unlisted EraseWaiting n ps none = one_more n ps none (ltb n 4294967295) refl
unlisted ProgramAsking n ps none = record { number = n; later = omega arith; stays = refl }
unlisted ProgramSending n ps none = record { number = n; later = omega arith; stays = refl }
unlisted ProgramWaiting n ps none = record { number = n; later = omega arith; stays = refl }
unlisted Closing n ps none = record { number = n; later = omega arith; stays = refl }
unlisted Verifying n ps none = record { number = n; later = omega arith; stays = refl }
unlisted (Ended x) n ps none = record { number = n; later = omega arith; stays = refl }

ended_usual : (s : Stage) (n : ℕ) (ps : List ℕ) → is_ended s ≡ true → numbered s n ps ≡ usual n
ended_usual Clearing n ps e = absurd (unlike (sym e))
ended_usual Opening n ps e = absurd (unlike (sym e))
ended_usual Reading n ps e = absurd (unlike (sym e))
ended_usual EraseAsking n ps e = absurd (unlike (sym e))
ended_usual EraseConfirming n ps e = absurd (unlike (sym e))
ended_usual EraseWaiting n ps e = absurd (unlike (sym e))
ended_usual ProgramAsking n ps e = absurd (unlike (sym e))
ended_usual ProgramSending n ps e = absurd (unlike (sym e))
ended_usual ProgramWaiting n ps e = absurd (unlike (sym e))
ended_usual Closing n ps e = absurd (unlike (sym e))
ended_usual Verifying n ps e = absurd (unlike (sym e))
ended_usual (Ended x) n ps e = refl

module _ (d : Device) (w bs ps room : List ℕ) where
  by_seen : (seen : Seen) (c : Config) (n : ℕ) (s' : State) (xs' : List ℕ)
      → moved_by seen s' xs' w bs ps (beside c (usual n) room)
      ≡ held_conf (loader_by seen c.loader w c.scratch) (numbered (loader_by seen c.loader w c.scratch).stage n ps) s' xs' (scratch_by seen c.loader w c.scratch) room (c.count + 1)
  by_seen NoData c n s' xs' = refl
  by_seen (Data v) c n s' xs' = refl
  by_seen (Refused m) c n s' xs' = refl

  same_answer : (c : Config) (n : ℕ) → held_answer d w bs (beside c (usual n) room) ≡ answer_to d w c.loader c.state c.bytes
  unfolding held_answer answer_to
  same_answer c n = refl

  same_array : (c : Config) (n : ℕ) → held_array d w bs (beside c (usual n) room) ≡ array_to d w c.loader c.state c.bytes
  unfolding held_array array_to
  same_array c n = refl

  -- a turn of the old load is a turn beside an interruption's record at rest
  pub lift_turn : (c : Config) (n : ℕ) → held_turn d w bs ps (beside c (usual n) room) ≡ beside (turn_of d w c) (numbered (turn_of d w c).loader.stage n ps) room
  unfolding held_turn
  lift_turn c n = go (is_ended c.loader.stage) refl
    where
      B : HeldConfig
      B = beside c (usual n) room

      go : (t : Bool) → is_ended c.loader.stage ≡ t → (if is_ended c.loader.stage then B else held_moved d w bs ps B) ≡ beside (turn_of d w c) (numbered (turn_of d w c).loader.stage n ps) room
      go true e =
          if_true (is_ended c.loader.stage) B (held_moved d w bs ps B) e
          ∙ (λ i. beside c (sym (ended_usual c.loader.stage n ps e) i) room)
          ∙ ap (λ (x : Config). beside x (numbered x.loader.stage n ps) room) (sym (turn_ended d w c e))
      go false e =
          if_false (is_ended c.loader.stage) B (held_moved d w bs ps B) e
          ∙ (λ i. moved_by (same_answer c n i).seen (same_answer c n i).state (same_array c n i) w bs ps B)
          ∙ by_seen (answer_to d w c.loader c.state c.bytes).seen c n (answer_to d w c.loader c.state c.bytes).state (array_to d w c.loader c.state c.bytes)
          ∙ ap (λ (x : Config). beside x (numbered x.loader.stage n ps) room) (sym (turn_going d w c e))

  -- so where no poll to come is listed, the load is the old one after any number of turns, with the same cycles, and the room is as it was
  pub record AsBefore (k : ℕ) (c : Config) (n : ℕ) : Type 0 where
    pub number : ℕ
    pub same : held_after k d w bs ps (beside c (usual n) room) ≡ beside (after k d w c) (usual number) room
    pub made : held_made k d w bs ps (beside c (usual n) room) ≡ made_in k d w c

  pub as_before : (k : ℕ) (c : Config) (n : ℕ) → ((m : ℕ) → n < m → listed m ps ≡ false) → AsBefore k c n
  as_before zero c n none = record { number = n; same = refl; made = refl }
  as_before (suc k) c n none =
      let y = unlisted (turn_of d w c).loader.stage n ps (none (n + 1) (omega arith)) in
      let later = y.later in
      let z = as_before k (turn_of d w c) y.number (λ m h. none m (omega arith)) in
      let turned = lift_turn c n ∙ (λ i. beside (turn_of d w c) (y.stays i) room) in
      record {
        number = z.number;
        same = ap (λ (x : HeldConfig). held_after k d w bs ps x) turned ∙ z.same;
        made =
            ap (λ (cs : List Cycle). if is_ended c.loader.stage then cs else cycle_of c.loader w ∷ cs)
            (ap (λ (x : HeldConfig). held_made k d w bs ps x) turned ∙ z.made);
      }

-- with no polls told it is the old load to the cycle
pub empty_list : (k : ℕ) (d : Device) (w bs room : List ℕ) (c : Config) → AsBefore d w bs [] room k c 0
unfolding listed
empty_list k d w bs room c = as_before d w bs [] room k c 0 (λ m h. refl)

-- ---- turns of the old load put before those of an interrupted one
abbrev pub quiet_in : ℕ → Device → List ℕ → Config → Bool
quiet_in zero d w c = true
quiet_in (suc k) d w c = not (polls_erase (turn_of d w c).loader.stage) && quiet_in k d w (turn_of d w c)

not_yes : (x : Bool) → not x ≡ true → x ≡ false
not_yes true e = absurd (unlike (sym e))
not_yes false e = refl

noted_append : (o : Effect) (es fs : List Effect) → noted o es ++ fs ≡ noted o (es ++ fs)
noted_append Nothing es fs = refl
noted_append (Program a b) es fs = refl
noted_append (Erase k) es fs = refl
noted_append (CutProgram a b) es fs = refl
noted_append (CutErase k) es fs = refl

module _ (d : Device) (w bs ps room : List ℕ) (n : ℕ) (e : HeldConfig) (es : List Effect) (cs : List Cycle) where
  same_begun : (c : Config) → held_begun_turn d w bs (beside c (usual n) room) ≡ begun_turn d w c
  unfolding held_begun_turn begun_turn
  same_begun c = refl

  same_smooth : (c : Config) → held_smooth_turn d w bs (beside c (usual n) room) ≡ smooth_turn d w c
  unfolding held_smooth_turn smooth_turn
  same_smooth c = refl

  pub lift_then : (k : ℕ) (c : Config) → quiet_in k d w c ≡ true → smooth_in k d w c ≡ true → HeldReach d w bs ps (beside (after k d w c) (usual n) room) e es cs
      → HeldReach d w bs ps (beside c (usual n) room) e (begun_in k d w c ++ es) (made_in k d w c ++ cs)
  lift_then zero c quiet smooth r = r
  lift_then (suc k) c quiet smooth r = join (lift_then k (turn_of d w c) (and_right (not (polls_erase (turn_of d w c).loader.stage)) (quiet_in k d w (turn_of d w c)) quiet) (and_right (smooth_turn d w c) (smooth_in k d w (turn_of d w c)) smooth) r)
    where
      E : Bool
      E = is_ended c.loader.stage

      ds : List Cycle
      ds = made_in k d w (turn_of d w c) ++ cs

      fs : List Effect
      fs = begun_in k d w (turn_of d w c) ++ es

      t : held_turn d w bs ps (beside c (usual n) room) ≡ beside (turn_of d w c) (usual n) room
      t = lift_turn d w bs ps room c n
          ∙ (λ i. beside (turn_of d w c) (calm_numbered (turn_of d w c).loader.stage n ps (not_yes (polls_erase (turn_of d w c).loader.stage) (and_left (not (polls_erase (turn_of d w c).loader.stage)) (quiet_in k d w (turn_of d w c)) quiet)) i) room)

      put : (b : Bool) → (if b then ds else cycle_of c.loader w ∷ ds) ≡ (if b then made_in k d w (turn_of d w c) else cycle_of c.loader w ∷ made_in k d w (turn_of d w c)) ++ cs
      put true = refl
      put false = refl

      join : HeldReach d w bs ps (beside (turn_of d w c) (usual n) room) e fs ds → HeldReach d w bs ps (beside c (usual n) room) e (begun_in (suc k) d w c ++ es) (made_in (suc k) d w c ++ cs)
      join x =
          record {
            turns = suc x.turns;
            there = ap (λ (y : HeldConfig). held_after x.turns d w bs ps y) t ∙ x.there;
            begun =
                (λ i. noted (same_begun c i) (held_begun x.turns d w bs ps (t i))) ∙ ap (λ (z : List Effect). noted (begun_turn d w c) z) x.begun
                ∙ sym (noted_append (begun_turn d w c) (begun_in k d w (turn_of d w c)) es);
            made =
                ap (λ (y : HeldConfig). if E then held_made x.turns d w bs ps y else cycle_of c.loader w ∷ held_made x.turns d w bs ps y) t
                ∙ ap (λ (z : List Cycle). if E then z else cycle_of c.loader w ∷ z) x.made
                ∙ put E;
            smooth =
                (λ i. same_smooth c i && held_smooth x.turns d w bs ps (t i)) ∙ ap (λ (z : Bool). smooth_turn d w c && z) x.smooth
                ∙ ap (λ (z : Bool). z && true) (and_left (smooth_turn d w c) (smooth_in k d w (turn_of d w c)) smooth);
          }
