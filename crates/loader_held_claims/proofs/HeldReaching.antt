-- Turns of an interrupted load put before turns, as in Reaching of loader_run_claims.
use mathlib.Core.Path.{◌≡◌, refl, ap, ◌∙◌}
use mathlib.Core.Bool.{Bool, true, false, ◌&&◌}
use mathlib.Core.List.{List, [], ◌∷◌}
use Prim.Native.Nat.{ℕ, suc}
use lib.ListN.{length}
use Rattle.common.proofs.Choice.{if_false}
use Rattle.device.specs.declared.Device.{Device}
use Rattle.device.specs.Parts.{size_of}
use Rattle.model_types.specs.declared.State.{State}
use Rattle.model_types.specs.declared.Effect.{Effect}
use Rattle.model_types.specs.declared.Effect.TheVariants.{Nothing}
use Rattle.model_types.specs.declared.Reply.{Reply}
use Rattle.model_types.specs.declared.Decision.{Decision}
use Rattle.model_types.specs.declared.Cycle.{Cycle}
use Rattle.model_rules.specs.Cycles.{decide_of, decided_as}
use Rattle.model.specs.Arrays.{array_of, seen_of, array_after, answer_of}
use Rattle.model.specs.Begun.{begun_by, begun_from}
use Rattle.model.proofs.Lives.{begun_from_lem}
use Rattle.loader.specs.Stages.{is_ended}
use Rattle.loader_run_claims.specs.Made.{is_smooth}
use Rattle.loader_run_claims.specs.Wear.{noted}
use Rattle.loader_held_run.specs.HeldTurns.{HeldConfig, out_of, held_answer, held_array, moved_by, held_moved, held_turn, held_after}
use Rattle.loader_held_claims.specs.HeldMade.{HeldReach, held_begun_turn, held_begun, held_made, held_smooth_turn, held_smooth}

pub arrive : (d : Device) (w bs ps : List ℕ) (c e : HeldConfig) → c ≡ e → HeldReach d w bs ps c e [] []
arrive d w bs ps c e q = record { turns = 0; there = q; begun = refl; made = refl; smooth = refl }

-- one turn before: the cycle that is out, what the model decides on it, what it begins, and where it leads
module _ (d : Device) (w bs ps : List ℕ) (c : HeldConfig) (cy : Cycle) (reply : Reply) (s' : State) (ef : Effect)
    (going : is_ended c.loader.stage ≡ false) (sized : length c.bytes ≡ size_of d.part) (out : out_of w bs c ≡ cy)
    (decided : decide_of d c.state cy (size_of d.part) 0 ≡ decided_as reply s' ef) (fine : is_smooth (decided_as reply s' ef) ≡ true) where
  abbrev X' : List ℕ
  X' = array_of ef d.part [] c.bytes

  here : decide_of d c.state (out_of w bs c) (length c.bytes) 0 ≡ decided_as reply s' ef
  here = (λ i. decide_of d c.state (out i) (sized i) 0) ∙ decided

  array : held_array d w bs c ≡ X'
  unfolding held_array array_after
  array = ap (λ (x : Decision). array_of x.effect d.part [] c.bytes) here

  answer : held_answer d w bs c ≡ record { seen = seen_of reply X'; state = s' }
  unfolding held_answer answer_of array_after
  answer = ap (λ (x : Decision). record { seen = seen_of x.reply (array_of x.effect d.part [] c.bytes); state = x.state }) here

  turned : held_turn d w bs ps c ≡ moved_by (seen_of reply X') s' X' w bs ps c
  unfolding held_turn
  turned =
      if_false (is_ended c.loader.stage) c (held_moved d w bs ps c) going
      ∙ (λ i. moved_by (answer i).seen (answer i).state (array i) w bs ps c)

  begins : held_begun_turn d w bs c ≡ begun_from d.part c.state s'
  unfolding held_begun_turn
  begins =
      if_false (is_ended c.loader.stage) Nothing (begun_by d c.state (out_of w bs c) (length c.bytes) 0) going
      ∙ begun_from_lem d c.state (out_of w bs c) (length c.bytes) 0
      ∙ ap (λ (x : Decision). begun_from d.part c.state x.state) here

  smooths : held_smooth_turn d w bs c ≡ true
  unfolding held_smooth_turn
  smooths = if_false (is_ended c.loader.stage) true (is_smooth (decide_of d c.state (out_of w bs c) (length c.bytes) 0)) going ∙ ap is_smooth here ∙ fine

  pub goes_as : (op : Effect) (c' e : HeldConfig) (es : List Effect) (cs : List Cycle) → begun_from d.part c.state s' ≡ op → moved_by (seen_of reply X') s' X' w bs ps c ≡ c'
      → HeldReach d w bs ps c' e es cs → HeldReach d w bs ps c e (noted op es) (cy ∷ cs)
  goes_as op c' e es cs b m r =
      record {
        turns = suc r.turns;
        there = ap (λ (y : HeldConfig). held_after r.turns d w bs ps y) t ∙ r.there;
        begun =
            ap (λ (o : Effect). noted o (held_begun r.turns d w bs ps (held_turn d w bs ps c))) (begins ∙ b) ∙ ap (λ (y : HeldConfig). noted op (held_begun r.turns d w bs ps y)) t ∙ ap (λ (z : List Effect). noted op z) r.begun;
        made =
            if_false (is_ended c.loader.stage) (held_made r.turns d w bs ps (held_turn d w bs ps c)) (out_of w bs c ∷ held_made r.turns d w bs ps (held_turn d w bs ps c)) going
            ∙ (λ i. out i ∷ held_made r.turns d w bs ps (t i))
            ∙ ap (λ (z : List Cycle). cy ∷ z) r.made;
        smooth =
            ap (λ (x : Bool). x && held_smooth r.turns d w bs ps (held_turn d w bs ps c)) smooths
            ∙ ap (λ (y : HeldConfig). held_smooth r.turns d w bs ps y) t
            ∙ r.smooth;
      }
    where
      t : held_turn d w bs ps c ≡ c'
      t = turned ∙ m

  -- .. that begins nothing
  pub goes : (c' e : HeldConfig) (es : List Effect) (cs : List Cycle) → begun_from d.part c.state s' ≡ Nothing → moved_by (seen_of reply X') s' X' w bs ps c ≡ c'
      → HeldReach d w bs ps c' e es cs → HeldReach d w bs ps c e es (cy ∷ cs)
  goes c' e es cs b m r = goes_as Nothing c' e es cs b m r
