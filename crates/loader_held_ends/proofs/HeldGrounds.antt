-- What some turns of a load with interruptions reach is where it ends; its count is the number of its cycles.
use mathlib.Core.Path.{◌≡◌, refl, sym, ap, ◌∙◌}
use mathlib.Core.Bool.{Bool, true, false, ◌&&◌}
use mathlib.Core.List.{List, ◌∷◌}
use Prim.Native.Nat.{ℕ, zero, suc, ◌+◌, ◌≤◌}
use native.Mathlib.Omega.{arith}
use lib.ListN.{length}
use Rattle.std.specs.Prelude.{if◌then◌else◌}
use Rattle.common.proofs.Choice.{if_true}
use Rattle.device.specs.declared.Device.{Device}
use Rattle.model_types.specs.declared.Cycle.{Cycle}
use Rattle.model_types.specs.declared.Effect.{Effect}
use Rattle.model_types.specs.declared.Effect.TheVariants.{Nothing}
use Rattle.loader.specs.Stages.{is_ended}
use Rattle.loader_run_claims.specs.Wear.{noted}
use Rattle.loader_run_claims.specs.Mission.{Taken}
use Rattle.loader_held_run.specs.HeldTurns.{HeldConfig, out_of, held_turn, held_after}
use Rattle.loader_held_run.specs.HeldRuns.{held_bound, held_driven, held_beginning, held_ran}
use Rattle.loader_held_run.proofs.HeldTurning.{turn_ended, turn_going}
use Rattle.loader_held_run.proofs.HeldEnding.{always_ends, end_only}
use Rattle.loader_held_claims.specs.HeldMade.{HeldReach, Elsewhere, held_begun_turn, held_begun, held_made, held_smooth_turn, held_smooth}
use Rattle.loader_held_claims.specs.HeldEnds.{HeldEnds}
use Rattle.loader_held_claims.proofs.EveryEnd as every
use Rattle.loader_held_ends.specs.HeldMission.{HeldWhole}
use Rattle.loader_run.specs.declared.Job.{Job}
use Rattle.loader.specs.declared.Work.TheVariants.{Load}
use Rattle.loader_run.specs.Runs.{doing}

module _ (d : Device) (w bs ps : List ℕ) where
  -- what turns begin and make, and whether they are smooth
  record Does (i j : ℕ) (c : HeldConfig) : Type 0 where
    begun : held_begun i d w bs ps c ≡ held_begun j d w bs ps c
    made : held_made i d w bs ps c ≡ held_made j d w bs ps c
    smooth : held_smooth i d w bs ps c ≡ held_smooth j d w bs ps c

  -- after the end nothing
  ended_does : (j : ℕ) (c : HeldConfig) → is_ended c.loader.stage ≡ true → Does 0 j c
  unfolding held_begun_turn held_smooth_turn
  ended_does zero c e = record { begun = refl; made = refl; smooth = refl }
  ended_does (suc j) c e =
      let r = ended_does j c e in
      record {
        begun = rw (if_true (is_ended c.loader.stage) Nothing _ e, turn_ended d w bs ps c e) r.begun;
        made = rw (e, turn_ended d w bs ps c e) r.made;
        smooth = rw (if_true (is_ended c.loader.stage) true _ e, turn_ended d w bs ps c e) r.smooth;
      }

  back : (i j : ℕ) (c : HeldConfig) → Does i j c → Does j i c
  back i j c r = record { begun = sym r.begun; made = sym r.made; smooth = sym r.smooth }

  -- up to two ends it is the same
  same_does : (i j : ℕ) (c : HeldConfig) → is_ended (held_after i d w bs ps c).loader.stage ≡ true → is_ended (held_after j d w bs ps c).loader.stage ≡ true → Does i j c
  same_does zero j c a b = ended_does j c a
  same_does (suc i) zero c a b = back 0 (suc i) c (ended_does (suc i) c b)
  same_does (suc i) (suc j) c a b =
      let r = same_does i j (held_turn d w bs ps c) a b in
      record {
        begun = ap (λ (es : List Effect). noted (held_begun_turn d w bs c) es) r.begun;
        made = ap (λ (cs : List Cycle). if is_ended c.loader.stage then cs else out_of w bs c ∷ cs) r.made;
        smooth = ap (λ (x : Bool). held_smooth_turn d w bs c && x) r.smooth;
      }

  -- so what turns reach that end is where the bound comes to, with the same on the way
  pub record Comes (c e : HeldConfig) (es : List Effect) (cs : List Cycle) : Type 0 where
    pub end : held_driven d w bs ps c ≡ e
    pub begun : held_begun (held_bound (length w) (length bs)) d w bs ps c ≡ es
    pub made : held_made (held_bound (length w) (length bs)) d w bs ps c ≡ cs
    pub smooth : held_smooth (held_bound (length w) (length bs)) d w bs ps c ≡ true

  bounded : (c : HeldConfig) → is_ended (held_after (held_bound (length w) (length bs)) d w bs ps c).loader.stage ≡ true
  unfolding held_driven
  bounded c = always_ends d w bs ps c

  pub comes : (c e : HeldConfig) (es : List Effect) (cs : List Cycle) → is_ended e.loader.stage ≡ true → HeldReach d w bs ps c e es cs → Comes c e es cs
  comes c e es cs z r =
      let there : is_ended (held_after r.turns d w bs ps c).loader.stage ≡ true = ap (λ (x : HeldConfig). is_ended x.loader.stage) r.there ∙ z in
      let same = same_does (held_bound (length w) (length bs)) r.turns c (bounded c) there in
      record {
        end = end_only d w bs ps r.turns c there ∙ r.there;
        begun = same.begun ∙ r.begun;
        made = same.made ∙ r.made;
        smooth = same.smooth ∙ r.smooth;
      }

  -- the count is the number of cycles made: any number of turns from anywhere adds to it the length of the list of their cycles
  pub counts_made : (k : ℕ) (c : HeldConfig) → (held_after k d w bs ps c).count ≡ c.count + length (held_made k d w bs ps c)
  counts_made zero c = omega arith
  counts_made (suc k) c = go (is_ended c.loader.stage) refl (counts_made k (held_turn d w bs ps c))
    where
      go : (t : Bool) → is_ended c.loader.stage ≡ t → (held_after k d w bs ps (held_turn d w bs ps c)).count ≡ (held_turn d w bs ps c).count + length (held_made k d w bs ps (held_turn d w bs ps c))
          → (held_after k d w bs ps (held_turn d w bs ps c)).count
          ≡ c.count + length (if is_ended c.loader.stage then held_made k d w bs ps (held_turn d w bs ps c) else out_of w bs c ∷ held_made k d w bs ps (held_turn d w bs ps c))
      go true e h = rw e (let q : (held_turn d w bs ps c).count ≡ c.count = ap (λ (x : HeldConfig). x.count) (turn_ended d w bs ps c e) in omega arith)
      go false e h = rw e (let q : (held_turn d w bs ps c).count ≡ c.count + 1 = ap (λ (x : HeldConfig). x.count) (turn_going d w bs ps c e) in omega arith)

  pub counts_end : (c : HeldConfig) → (held_driven d w bs ps c).count ≡ c.count + length (held_made (held_bound (length w) (length bs)) d w bs ps c)
  unfolding held_driven
  counts_end c = counts_made (held_bound (length w) (length bs)) c

-- every end of a load that nothing refuses, with addresses of other blocks and room for them
pub whole : (verify : Bool) (j : Job) (xs w sc : List ℕ) → Taken j xs w sc → (bs ps room : List ℕ) → Elsewhere j.device j.block bs → length bs ≤ length room
    → HeldWhole verify j xs w sc bs ps room
whole verify j xs w sc t bs ps room els roomy =
    let E : HeldEnds verify j xs w sc bs ps room = every.every_end verify j xs w sc t bs ps room els roomy in
    let C = comes j.device w bs ps (held_beginning (doing (Load verify) j) xs sc room) E.last _ _ E.ended E.reach in
    record {
      ran = ap held_ran C.end ∙ E.ran;
      bytes = ap (λ (c : HeldConfig). c.bytes) C.end ∙ E.bytes;
      scratch = ap (λ (c : HeldConfig). c.scratch) C.end ∙ E.scratch;
      filled = ap (λ (c : HeldConfig). c.room) C.end ∙ E.filled;
      begun = C.begun;
      made = C.made;
      smooth = C.smooth;
    }
