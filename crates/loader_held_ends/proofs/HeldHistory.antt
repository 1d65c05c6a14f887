-- The cycles of a load with interruptions as one history among others: they lead where the load leads, begin what it begins, and where
-- they are smooth none is refused or cuts an operation.
use mathlib.Core.Path.{◌≡◌, refl, ap, ◌∙◌, subst}
use mathlib.Core.Bool.{Bool, true, false}
use mathlib.Core.List.{List, []}
use Prim.Native.Nat.{ℕ, zero, suc}
use Rattle.device.specs.declared.Device.{Device}
use Rattle.model_history.specs.History.{World, world_of, buses_of, stepped, world_after, effects_in, begun_over, accepts_all, uncut}
use Rattle.loader.specs.Stages.{is_ended}
use Rattle.loader_run_claims.specs.Wear.{noted_all}
use Rattle.loader_run_claims.proofs.OwnHistory.{Goes, one_more, smooth_parts}
use Rattle.loader_held_run.specs.HeldTurns.{HeldConfig, out_of, held_answer, held_array, held_turn, held_after}
use Rattle.loader_held_run.proofs.HeldTurning.{turn_ended, turn_going}
use Rattle.loader_held_claims.specs.HeldMade.{held_begun_turn, held_begun, held_made, held_smooth_turn, held_smooth}

-- the device of a load under way
abbrev pub world_in : HeldConfig → World
world_in c = world_of c.state c.bytes

module _ (d : Device) (w bs ps : List ℕ) where
  -- one cycle of a load is one step of the device
  step_is : (c : HeldConfig) → is_ended c.loader.stage ≡ false → world_in (held_turn d w bs ps c) ≡ stepped d (world_in c) (record { cycle = out_of w bs c; residue = [] })
  unfolding held_answer held_array
  step_is c e = ap world_in (turn_going d w bs ps c e)

  abbrev From : ℕ → HeldConfig → World → Type 0
  From j c v = Goes d v (held_made j d w bs ps c) (world_in (held_after j d w bs ps c)) (held_begun j d w bs ps c) (held_smooth j d w bs ps c)

  goes : (j : ℕ) (c : HeldConfig) → From j c (world_in c)
  unfolding held_begun_turn held_smooth_turn
  goes zero c = record { led = refl; begun = refl; smooth = refl }
  goes (suc j) c = go (is_ended c.loader.stage) refl (goes j (held_turn d w bs ps c))
    where
      n : HeldConfig
      n = held_turn d w bs ps c

      go : (b : Bool) → is_ended c.loader.stage ≡ b → From j n (world_in n) → From (suc j) c (world_in c)
      go true e h = rw e (subst (λ (x : HeldConfig). From j n (world_in x)) (turn_ended d w bs ps c e) h)
      go false e h =
          rw e (one_more d (world_in c) (out_of w bs c) (held_made j d w bs ps n) (world_in (held_after j d w bs ps n)) (held_begun j d w bs ps n) (held_smooth j d w bs ps n)
          (subst (λ (v : World). From j n v) (step_is c e) h))

  module _ (j : ℕ) (c : HeldConfig) where
    pub own_leads : world_after d (world_in c) (buses_of (held_made j d w bs ps c)) ≡ world_in (held_after j d w bs ps c)
    own_leads = (goes j c).led

    pub own_begins : noted_all (begun_over d (world_in c) (buses_of (held_made j d w bs ps c))) ≡ held_begun j d w bs ps c
    own_begins = (goes j c).begun

    pub own_smooth : held_smooth j d w bs ps c ≡ true
        → (accepts_all d (world_in c) (buses_of (held_made j d w bs ps c)) ≡ true) × (uncut (effects_in d (world_in c) (buses_of (held_made j d w bs ps c))) ≡ true)
    own_smooth e = smooth_parts d (buses_of (held_made j d w bs ps c)) (world_in c) ((goes j c).smooth ∙ e)
