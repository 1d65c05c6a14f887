-- A run that nothing refuses: its grounds, and that what some turns reach is what it returns and leaves.
use mathlib.Core.Path.{◌≡◌, refl, sym, ap, ◌∙◌, subst}
use mathlib.Core.Bool.{Bool, true, false, ◌&&◌}
use mathlib.Core.List.{List, [], ◌∷◌}
use Prim.Native.Nat.{ℕ, zero, suc, ◌+◌, ◌≤◌, ◌<◌}
use native.Mathlib.Omega.{arith}
use lib.ListN.{length, drop, length-drop}
use lib.Seq.{length-take-le}
use borrow.Author.Tests.{eqb-false}
use Rattle.std.specs.Prelude.{if◌then◌else◌}
use Rattle.common.proofs.Choice.{if_true}
use Rattle.common.specs.Lists.{overlaid}
use Rattle.device.specs.declared.Device.{Device}
use Rattle.device.specs.Parts.{length_of, start_of}
use Rattle.device.proofs.Claims.{blocks_end_inside}
use Rattle.model_types.specs.declared.Phase.{Phase}
use Rattle.model_types.specs.declared.Phase.TheVariants.{Free}
use Rattle.model_types.specs.declared.State.{State}
use Rattle.model_types.specs.declared.Effect.{Effect}
use Rattle.model_types.specs.declared.Effect.TheVariants.{Nothing}
use Rattle.model_states.specs.States.{is_at_rest}
use Rattle.model_states.specs.Inner.{bad_status}
use Rattle.model_states.proofs.Rest.{free_phase, resting}
use Rattle.model_rules.proofs.Facts.{Proper}
use Rattle.model.proofs.Status.{fits, status_fits}
use Rattle.loader_steps.specs.Front.{no_block}
use Rattle.loader_steps.specs.Outs.{cycle_of}
use Rattle.model_types.specs.declared.Cycle.{Cycle}
use Rattle.loader_run.specs.Turns.{Config, turn_of, after}
use Rattle.loader_run.specs.Inner.{bound}
use Rattle.loader.specs.Stages.{is_ended}
use Rattle.loader_run.specs.Runs.{run_number, driven, ran_by, RunLeft, run_made, beginning, run_end, run_left, job_of, doing}
use Rattle.model_types.specs.Phases.{under_way}
use Rattle.loader_run.proofs.Leaving.{left_made}
use Rattle.loader_run_claims.specs.Wear.{noted, begun_turn, begun_in, begun_at, held_in}
use Rattle.loader_run_claims.specs.Made.{made_in, cycles_at, smooth_turn, smooth_in, smooth_at}
use Rattle.loader_run.proofs.Ending.{always_ends}
use Rattle.loader_run.proofs.Turning.{turn_ended, ended_stays}
use Rattle.loader_run.proofs.UnrefusedRun.{Good, good}
use Rattle.loader_run_claims.proofs.Starts.{levels_of}
use Rattle.loader_run_claims.proofs.Answers.{Up}
use Rattle.loader_run_claims.proofs.Reaching.{Reach}
use Rattle.loader_run_claims.proofs.LoadLists.{over_self}
use Rattle.loader.specs.declared.Work.{Work}
use Rattle.loader_run.specs.declared.Job.{Job}

-- two ends of one load are the same, and so is what was begun on the way to them
pub same_end : (i j : ℕ) (d : Device) (w : List ℕ) (c : Config) → is_ended (after i d w c).loader.stage ≡ true → is_ended (after j d w c).loader.stage ≡ true → after i d w c ≡ after j d w c
same_end zero j d w c a b = sym (ended_stays j d w c a)
same_end (suc i) zero d w c a b = ended_stays (suc i) d w c b
same_end (suc i) (suc j) d w c a b = same_end i j d w (turn_of d w c) a b

begun_ended : (j : ℕ) (d : Device) (w : List ℕ) (c : Config) → is_ended c.loader.stage ≡ true → begun_in j d w c ≡ []
unfolding begun_turn
begun_ended zero d w c e = refl
begun_ended (suc j) d w c e = rw (if_true (is_ended c.loader.stage) Nothing _ e, turn_ended d w c e) (begun_ended j d w c e)

pub same_begun : (i j : ℕ) (d : Device) (w : List ℕ) (c : Config) → is_ended (after i d w c).loader.stage ≡ true → is_ended (after j d w c).loader.stage ≡ true → begun_in i d w c ≡ begun_in j d w c
same_begun zero j d w c a b = sym (begun_ended j d w c a)
same_begun (suc i) zero d w c a b = begun_ended (suc i) d w c b
same_begun (suc i) (suc j) d w c a b = ap (λ (es : List Effect). noted (begun_turn d w c) es) (same_begun i j d w (turn_of d w c) a b)

-- .. and so are the cycles made, and whether any was refused or cut something
made_ended : (j : ℕ) (d : Device) (w : List ℕ) (c : Config) → is_ended c.loader.stage ≡ true → made_in j d w c ≡ []
made_ended zero d w c e = refl
made_ended (suc j) d w c e = rw (e, turn_ended d w c e) (made_ended j d w c e)

same_made : (i j : ℕ) (d : Device) (w : List ℕ) (c : Config) → is_ended (after i d w c).loader.stage ≡ true → is_ended (after j d w c).loader.stage ≡ true → made_in i d w c ≡ made_in j d w c
same_made zero j d w c a b = sym (made_ended j d w c a)
same_made (suc i) zero d w c a b = made_ended (suc i) d w c b
same_made (suc i) (suc j) d w c a b = ap (λ (cs : List Cycle). (if is_ended c.loader.stage then cs else cycle_of c.loader w ∷ cs)) (same_made i j d w (turn_of d w c) a b)

smooth_ended : (j : ℕ) (d : Device) (w : List ℕ) (c : Config) → is_ended c.loader.stage ≡ true → smooth_in j d w c ≡ true
unfolding smooth_turn
smooth_ended zero d w c e = refl
smooth_ended (suc j) d w c e = rw (if_true (is_ended c.loader.stage) true _ e, turn_ended d w c e) (smooth_ended j d w c e)

same_smooth : (i j : ℕ) (d : Device) (w : List ℕ) (c : Config) → is_ended (after i d w c).loader.stage ≡ true → is_ended (after j d w c).loader.stage ≡ true → smooth_in i d w c ≡ smooth_in j d w c
same_smooth zero j d w c a b = sym (smooth_ended j d w c a)
same_smooth (suc i) zero d w c a b = smooth_ended (suc i) d w c b
same_smooth (suc i) (suc j) d w c a b = ap (λ (x : Bool). smooth_turn d w c && x) (same_smooth i j d w (turn_of d w c) a b)

-- a proper state that is not under way is ready
pub ready_status : (d : Device) (s : State) → Proper d s → under_way s.phase ≡ false → fits 2 s.status ≡ true
ready_status d s q u = status_fits Free s.status (subst (λ (x : Phase). bad_status x s.status ≡ false) (free_phase s.phase u) q.status)

pub some_bytes : (d : Device) (k : ℕ) → no_block d.part k ≡ false → length_of d.part k ≡ 0 → ⊥
unfolding no_block
some_bytes d k e = eqb-false (length_of d.part k) 0 e

pub over : (n : ℕ) → (n ≡ 0 → ⊥) → 0 < n
over zero z = absurd (z refl)
over (suc n) z = omega arith

-- where a run is left, what it began and made, and that no cycle of it was refused or cut anything
pub record Left (j : Job) (xs w sc : List ℕ) (e : Config) (es : List Effect) (cs : List Cycle) : Type 0 where
  pub end : run_end j xs w sc ≡ e
  pub begun : begun_at j xs w sc ≡ es
  pub made : cycles_at j xs w sc ≡ cs
  pub smooth : smooth_at j xs w sc ≡ true

module _ (j : Job) (xs w sc : List ℕ) (n : run_number j (length xs) (length w) (length sc) ≡ 0) where
  pub g : Good j (length xs) (length w) (length sc)
  g = good j (length xs) (length w) (length sc) n

  pub u : Up j.device j.pins
  u = record { known = g.known; levels = (levels_of j.device j.pins g.levels).0; up = (levels_of j.device j.pins g.levels).1 }

  pub some : 0 < length w
  some = over (length w) (λ q. some_bytes j.device j.block g.block (sym g.wanted ∙ q))

  abbrev a : ℕ
  a = start_of j.device.part j.block

  abbrev ys : List ℕ
  ys = held_in (start_of j.device.part j.block) (length w) xs

  pub fitting : a + length w ≤ length xs
  fitting = omega (arith, blocks_end_inside j.device.part j.block, g.sized, g.wanted)

  pub ly : length ys ≡ length w
  ly = length-take-le (length w) (drop a xs) (let q = length-drop a xs in let h = fitting in omega arith)

  module _ (work : Work) where
    abbrev started : Config
    started = beginning (doing work j) xs sc

    -- what some turns reach that have ended is what the run comes to
    pub comes : (e : Config) (es : List Effect) (cs : List Cycle) → is_ended e.loader.stage ≡ true → Reach j.device w started e es cs → Left (doing work j) xs w sc e es cs
    unfolding run_end driven
    comes e es cs z r =
        let bounded : is_ended (after (bound (length w)) j.device w started).loader.stage ≡ true = always_ends j.device w started in
        let there : is_ended (after r.turns j.device w started).loader.stage ≡ true = ap (λ (c : Config). is_ended c.loader.stage) r.there ∙ z in
        record {
          end = same_end (bound (length w)) r.turns j.device w started bounded there ∙ r.there;
          begun = same_begun (bound (length w)) r.turns j.device w started bounded there ∙ r.begun;
          made = same_made (bound (length w)) r.turns j.device w started bounded there ∙ r.made;
          smooth = same_smooth (bound (length w)) r.turns j.device w started bounded there ∙ r.smooth;
        }

    -- from a device at rest, over the block as it is held, is from the start
    pub from_rest : (e : Config) (es : List Effect) (cs : List Cycle) → Reach j.device w (beginning (job_of work j.device (is_at_rest j.state j.state.mode j.state.status) j.pins j.block) (overlaid xs a ys) sc) e es cs → Reach j.device w started e es cs
    from_rest e es cs r =
        subst (λ (x : State). Reach j.device w (beginning (job_of work j.device x j.pins j.block) xs sc) e es cs) (sym (resting j.device j.state g.free g.proper.left g.proper.address))
        (subst (λ (z : List ℕ). Reach j.device w (beginning (job_of work j.device (is_at_rest j.state j.state.mode j.state.status) j.pins j.block) z sc) e es cs) (over_self xs a (length w) fitting) r)

    -- what a run returns and leaves, where it is known how it is left
    module _ (e : Config) (es : List Effect) (cs : List Cycle) (left : Left (doing work j) xs w sc e es cs) where
      run_left_lem : run_left (doing work j) xs w sc ≡ run_made e
      run_left_lem = left_made (doing work j) xs w sc n ∙ ap run_made left.end

      pub ran_left : (run_left (doing work j) xs w sc).ran ≡ ran_by e
      ran_left = ap (λ (r : RunLeft). r.ran) run_left_lem

      pub bytes_left : (run_left (doing work j) xs w sc).bytes ≡ e.bytes
      bytes_left = ap (λ (r : RunLeft). r.bytes) run_left_lem

      pub scratch_left : (run_left (doing work j) xs w sc).scratch ≡ e.scratch
      scratch_left = ap (λ (r : RunLeft). r.scratch) run_left_lem
