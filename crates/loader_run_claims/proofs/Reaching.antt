-- A load reaches its end, whatever follows: turns put before turns.
use mathlib.Core.Path.{◌≡◌, refl, ap, ◌∙◌}
use mathlib.Core.Bool.{Bool, true, false, ◌&&◌}
use mathlib.Core.List.{List, [], ◌∷◌}
use Prim.Native.Nat.{ℕ, suc, ◌+◌}
use lib.ListN.{length}
use Rattle.common.proofs.Choice.{if_false}
use Rattle.device.specs.declared.Device.{Device}
use Rattle.device.specs.Parts.{size_of}
use Rattle.model_types.specs.declared.State.{State}
use Rattle.model_types.specs.declared.Effect.{Effect}
use Rattle.model_types.specs.declared.Effect.TheVariants.{Nothing}
use Rattle.model_types.specs.declared.Reply.{Reply}
use Rattle.model_types.specs.declared.Decision.{Decision}
use Rattle.model_types.specs.declared.Cycle.{Cycle}
use Rattle.model_rules.specs.Cycles.{decide_of, decided_as}
use Rattle.loader_run_claims.specs.Made.{made_in, is_smooth, smooth_turn, smooth_in}
use Rattle.model.specs.Arrays.{array_of, seen_of, array_after, answer_of}
use Rattle.model.specs.Begun.{begun_by, begun_from}
use Rattle.model.proofs.Lives.{begun_from_lem}
use Rattle.loader.specs.declared.Loader.{Loader}
use Rattle.loader_steps.specs.Outs.{cycle_of}
use Rattle.loader_run.specs.Turns.{Config, loader_by, scratch_by, answer_to, array_to, turn_of, after}
use Rattle.loader.specs.Stages.{is_ended}
use Rattle.loader_run_claims.specs.Wear.{noted, begun_turn, begun_in}
use Rattle.loader_run.proofs.Turning.{conf, turn_going}

-- some turns lead from c to e, begin the operations es and make the cycles cs, and none is refused or cuts
pub record Reach (d : Device) (w : List ℕ) (c e : Config) (es : List Effect) (cs : List Cycle) : Type 0 where
  pub turns : ℕ
  pub there : after turns d w c ≡ e
  pub begun : begun_in turns d w c ≡ es
  pub made : made_in turns d w c ≡ cs
  pub smooth : smooth_in turns d w c ≡ true

pub arrive : (d : Device) (w : List ℕ) (c e : Config) → c ≡ e → Reach d w c e [] []
arrive d w c e q = record { turns = 0; there = q; begun = refl; made = refl; smooth = refl }

-- what one turn does beside where it leads: the operation that it begins and the cycle that it makes
pub record Does (d : Device) (w : List ℕ) (c : Config) (op : Effect) (cy : Cycle) : Type 0 where
  pub going : is_ended c.loader.stage ≡ false
  pub begins : begun_turn d w c ≡ op
  pub makes : cycle_of c.loader w ≡ cy
  pub smooth : smooth_turn d w c ≡ true

-- the same with the operation named otherwise
pub does_as : (d : Device) (w : List ℕ) (c : Config) (op op' : Effect) (cy : Cycle) → op ≡ op' → Does d w c op cy → Does d w c op' cy
does_as d w c op op' cy q x = record { going = x.going; begins = x.begins ∙ q; makes = x.makes; smooth = x.smooth }

-- one turn before
pub prepend : (d : Device) (w : List ℕ) (c c' e : Config) (op : Effect) (cy : Cycle) (es : List Effect) (cs : List Cycle) → turn_of d w c ≡ c' → Does d w c op cy → Reach d w c' e es cs
    → Reach d w c e (noted op es) (cy ∷ cs)
prepend d w c c' e op cy es cs t x r =
    record {
      turns = suc r.turns;
      there = ap (λ (y : Config). after r.turns d w y) t ∙ r.there;
      begun =
          ap (λ (o : Effect). noted o (begun_in r.turns d w (turn_of d w c))) x.begins ∙ ap (λ (y : Config). noted op (begun_in r.turns d w y)) t ∙ ap (λ (z : List Effect). noted op z) r.begun;
      made =
          if_false (is_ended c.loader.stage) (made_in r.turns d w (turn_of d w c)) (cycle_of c.loader w ∷ made_in r.turns d w (turn_of d w c)) x.going
          ∙ (λ i. x.makes i ∷ made_in r.turns d w (t i))
          ∙ ap (λ (z : List Cycle). cy ∷ z) r.made;
      smooth =
          ap (λ (b : Bool). b && smooth_in r.turns d w (turn_of d w c)) x.smooth
          ∙ ap (λ (y : Config). smooth_in r.turns d w y) t
          ∙ r.smooth;
    }

-- the cycle that a record has out, and what the model decides on it; the model takes it and nothing is cut
pub record Answered (d : Device) (w : List ℕ) (l : Loader) (s : State) (cy : Cycle) (reply : Reply) (s' : State) (e : Effect) : Type 0 where
  pub out : cycle_of l w ≡ cy
  pub decided : decide_of d s cy (size_of d.part) 0 ≡ decided_as reply s' e
  pub fine : is_smooth (decided_as reply s' e) ≡ true

module _ (d : Device) (w : List ℕ) (l : Loader) (s : State) (xs sc : List ℕ) (cnt : ℕ) (going : is_ended l.stage ≡ false) (sized : length xs ≡ size_of d.part)
    (cy : Cycle) (reply : Reply) (s' : State) (e : Effect) (answered : Answered d w l s cy reply s' e) where
  here : decide_of d s (cycle_of l w) (length xs) 0 ≡ decided_as reply s' e
  here = (λ i. decide_of d s (answered.out i) (sized i) 0) ∙ answered.decided

  array : array_to d w l s xs ≡ array_of e d.part [] xs
  unfolding array_to array_after
  array = ap (λ (x : Decision). array_of x.effect d.part [] xs) here

  answer : answer_to d w l s xs ≡ record { seen = seen_of reply (array_of e d.part [] xs); state = s' }
  unfolding answer_to answer_of array_after
  answer = ap (λ (x : Decision). record { seen = seen_of x.reply (array_of x.effect d.part [] xs); state = x.state }) here

  -- the turn that a decided cycle makes, and what it does
  pub turned : turn_of d w (conf l s xs sc cnt)
      ≡ conf (loader_by (seen_of reply (array_of e d.part [] xs)) l w sc) s' (array_of e d.part [] xs) (scratch_by (seen_of reply (array_of e d.part [] xs)) l w sc) (cnt + 1)
  turned =
      turn_going d w (conf l s xs sc cnt) going
      ∙ (λ i. conf (loader_by (answer i).seen l w sc) (answer i).state (array i) (scratch_by (answer i).seen l w sc) (cnt + 1))

  pub does : Does d w (conf l s xs sc cnt) (begun_from d.part s s') cy
  unfolding begun_turn smooth_turn
  does =
      record {
        going = going;
        begins =
            if_false (is_ended l.stage) Nothing (begun_by d s (cycle_of l w) (length xs) 0) going
            ∙ begun_from_lem d s (cycle_of l w) (length xs) 0
            ∙ ap (λ (x : Decision). begun_from d.part s x.state) here;
        makes = answered.out;
        smooth = if_false (is_ended l.stage) true (is_smooth (decide_of d s (cycle_of l w) (length xs) 0)) going ∙ ap is_smooth here ∙ answered.fine;
      }
