-- A load's own cycles as one history among others: they lead where the load leads, begin what it begins, and none is refused or
-- cuts an operation.
use mathlib.Core.Path.{◌≡◌, refl, ap, ◌∙◌, subst}
use mathlib.Core.Bool.{Bool, true, false, not, ◌&&◌}
use mathlib.Core.List.{List, [], ◌∷◌}
use Prim.Native.Nat.{ℕ, zero, suc, ◌+◌}
use native.Mathlib.Omega.{arith}
use lib.ListN.{length}
use Rattle.common.proofs.Choice.{and_left, and_right}
use Rattle.device.specs.declared.Device.{Device}
use Rattle.model_types.specs.declared.Cycle.{Cycle}
use Rattle.model_types.specs.declared.Effect.{Effect}
use Rattle.model_types.specs.declared.Effect.TheVariants.{Nothing, Program, Erase, CutProgram, CutErase}
use Rattle.model_rules.specs.Cycles.{decide_of}
use Rattle.model.specs.Arrays.{is_refusal}
use Rattle.model.specs.Begun.{begun_by}
use Rattle.loader_steps.specs.Outs.{cycle_of}
use Rattle.loader_run.specs.Turns.{Config, answer_to, array_to, turn_of, after}
use Rattle.loader.specs.Stages.{is_ended}
use Rattle.loader_run.proofs.Turning.{turn_ended, turn_going}
use Rattle.loader_run_claims.specs.Wear.{noted, noted_all, begun_turn, begun_in}
use Rattle.model_history.specs.History.{Bus, World, world_of, buses_of, stepped, world_after, effects_in, begun_over, accepts_all, is_cut, uncut, total_of}
use Rattle.loader_run_claims.specs.Made.{made_in, is_smooth, smooth_turn, smooth_in}

-- the operations without the places where nothing is weigh the same
pub noted_total : (f : Effect → ℕ) → f Nothing ≡ 0 → (es : List Effect) → total_of f (noted_all es) ≡ total_of f es
noted_total f z [] = refl
noted_total f z (e ∷ es) = each e (noted_total f z es)
  where
    each : (e : Effect) → total_of f (noted_all es) ≡ total_of f es → total_of f (noted e (noted_all es)) ≡ f e + total_of f es
    each Nothing h = omega arith
    each (Program a b) h = ap (λ (n : ℕ). f (Program a b) + n) h
    each (Erase k) h = ap (λ (n : ℕ). f (Erase k) + n) h
    each (CutProgram a b) h = ap (λ (n : ℕ). f (CutProgram a b) + n) h
    each (CutErase k) h = ap (λ (n : ℕ). f (CutErase k) + n) h

-- the model takes each cycle, and none cuts an operation
abbrev pub smooth_over : Device → World → List Bus → Bool
smooth_over d v [] = true
smooth_over d v (b ∷ bs) = is_smooth (decide_of d v.state b.cycle (length v.bytes) (length b.residue)) && smooth_over d (stepped d v b) bs

pub smooth_parts : (d : Device) (bs : List Bus) (v : World) → smooth_over d v bs ≡ true → (accepts_all d v bs ≡ true) × (uncut (effects_in d v bs) ≡ true)
smooth_parts d [] v e = (refl, refl)
smooth_parts d (b ∷ bs) v e =
    let x = decide_of d v.state b.cycle (length v.bytes) (length b.residue) in
    let here : is_smooth x ≡ true = and_left (is_smooth x) (smooth_over d (stepped d v b) bs) e in
    let rest = smooth_parts d bs (stepped d v b) (and_right (is_smooth x) (smooth_over d (stepped d v b) bs) e) in
    let a : not (is_refusal x.reply) ≡ true = and_left (not (is_refusal x.reply)) (not (is_cut x.effect)) here in
    let c : not (is_cut x.effect) ≡ true = and_right (not (is_refusal x.reply)) (not (is_cut x.effect)) here in (
      ap (λ (t : Bool). t && accepts_all d (stepped d v b) bs) a ∙ rest.0,
      ap (λ (t : Bool). t && uncut (effects_in d (stepped d v b) bs)) c ∙ rest.1,
    )

-- the device of a load under way
abbrev pub device_in : Config → World
device_in c = world_of c.state c.bytes

-- the cycles cs from v lead to e, begin es, and are smooth where t says so
pub record Goes (d : Device) (v : World) (cs : List Cycle) (e : World) (es : List Effect) (t : Bool) : Type 0 where
  pub led : world_after d v (buses_of cs) ≡ e
  pub begun : noted_all (begun_over d v (buses_of cs)) ≡ es
  pub smooth : smooth_over d v (buses_of cs) ≡ t

pub one_more : (d : Device) (v : World) (cy : Cycle) (cs : List Cycle) (e : World) (es : List Effect) (t : Bool) → Goes d (stepped d v (record { cycle = cy; residue = [] })) cs e es t
    → Goes d v (cy ∷ cs) e (noted (begun_by d v.state cy (length v.bytes) 0) es) (is_smooth (decide_of d v.state cy (length v.bytes) 0) && t)
one_more d v cy cs e es t h =
    record {
      led = h.led;
      begun = ap (λ (z : List Effect). noted (begun_by d v.state cy (length v.bytes) 0) z) h.begun;
      smooth = ap (λ (z : Bool). is_smooth (decide_of d v.state cy (length v.bytes) 0) && z) h.smooth;
    }

-- one cycle of a load is one step of the device
step_is : (d : Device) (w : List ℕ) (c : Config) → is_ended c.loader.stage ≡ false → device_in (turn_of d w c) ≡ stepped d (device_in c) (record { cycle = cycle_of c.loader w; residue = [] })
unfolding answer_to array_to
step_is d w c e = ap device_in (turn_going d w c e)

goes : (d : Device) (w : List ℕ) (j : ℕ) (c : Config) → Goes d (device_in c) (made_in j d w c) (device_in (after j d w c)) (begun_in j d w c) (smooth_in j d w c)
unfolding begun_turn smooth_turn
goes d w zero c = record { led = refl; begun = refl; smooth = refl }
goes d w (suc j) c = go (is_ended c.loader.stage) refl (goes d w j (turn_of d w c))
  where
    go : (b : Bool) → is_ended c.loader.stage ≡ b
        → Goes d (device_in (turn_of d w c)) (made_in j d w (turn_of d w c)) (device_in (after j d w (turn_of d w c))) (begun_in j d w (turn_of d w c)) (smooth_in j d w (turn_of d w c))
        → Goes d (device_in c) (made_in (suc j) d w c) (device_in (after (suc j) d w c)) (begun_in (suc j) d w c) (smooth_in (suc j) d w c)
    go true e h =
        rw e (subst (λ (x : Config). Goes d (device_in x) (made_in j d w (turn_of d w c)) (device_in (after j d w (turn_of d w c))) (begun_in j d w (turn_of d w c)) (smooth_in j d w (turn_of d w c)))
        (turn_ended d w c e) h)
    go false e h =
        rw e (one_more d (device_in c) (cycle_of c.loader w) (made_in j d w (turn_of d w c)) (device_in (after j d w (turn_of d w c))) (begun_in j d w (turn_of d w c)) (smooth_in j d w (turn_of d w c))
        (subst (λ (v : World). Goes d v (made_in j d w (turn_of d w c)) (device_in (after j d w (turn_of d w c))) (begun_in j d w (turn_of d w c)) (smooth_in j d w (turn_of d w c))) (step_is d w c e) h))

module _ (d : Device) (w : List ℕ) (j : ℕ) (c : Config) where
  -- where they lead
  pub own_leads : world_after d (device_in c) (buses_of (made_in j d w c)) ≡ device_in (after j d w c)
  own_leads = (goes d w j c).led

  -- what they begin
  pub own_begins : noted_all (begun_over d (device_in c) (buses_of (made_in j d w c))) ≡ begun_in j d w c
  own_begins = (goes d w j c).begun

  -- the model accepts them all, and none cuts an operation
  pub own_smooth : smooth_in j d w c ≡ true → (accepts_all d (device_in c) (buses_of (made_in j d w c)) ≡ true) × (uncut (effects_in d (device_in c) (buses_of (made_in j d w c))) ≡ true)
  own_smooth e = smooth_parts d (buses_of (made_in j d w c)) (device_in c) ((goes d w j c).smooth ∙ e)
