-- Turns: the end stays, and a load is its end after the bound.
use mathlib.Core.Path.{◌≡◌, refl, sym, ap, ◌∙◌, subst}
use mathlib.Core.Bool.{true, false}
use mathlib.Core.List.{List}
use Prim.Native.Nat.{ℕ, zero, suc, ◌+◌, ◌-◌, ◌≤◌, ◌<◌}
use native.Mathlib.Omega.{arith}
use lib.ListN.{length}
use Rattle.common.proofs.Choice.{if_true, if_false, unlike}
use Rattle.device.specs.declared.Device.{Device}
use Rattle.model_types.specs.declared.State.{State}
use Rattle.loader.specs.declared.Loader.{Loader}
use Rattle.loader_moves.specs.Moves.{ended_by, next_of}
use Rattle.loader_steps.specs.Addresses.{first_address}
use Rattle.loader_stores.specs.Stores.{store_of}
use Rattle.loader_steps.proofs.StartAndStep.{first_kept}
use Rattle.model.specs.declared.Seen.{Seen}
use Rattle.model.specs.declared.Seen.TheVariants.{NoData, Data, Refused}
use Rattle.loader_run.specs.Turns.{Config, is_refused, number_in, refusal_number, loader_by, scratch_by, answer_to, array_to, moved, turn_of, after}
use Rattle.loader_run.specs.Inner.{bound}
use Rattle.loader.specs.Stages.{is_ended}
use Rattle.loader_run.specs.Runs.{driven}
use Rattle.loader_run.proofs.Measure.{remains, remains_bound, falls}

-- an answer taken, refused or not
pub took : (seen : Seen) (l : Loader) (w sc : List ℕ) → is_refused seen ≡ false
    → (loader_by seen l w sc ≡ next_of l (number_in seen) w (store_of l (number_in seen) w sc)) × (scratch_by seen l w sc ≡ store_of l (number_in seen) w sc)
took NoData l w sc e = (refl, refl)
took (Data b) l w sc e = (refl, refl)
took (Refused n) l w sc e = absurd (unlike e)

pub took_none : (seen : Seen) (l : Loader) (w sc : List ℕ) → is_refused seen ≡ true → (loader_by seen l w sc ≡ ended_by l (refusal_number seen)) × (scratch_by seen l w sc ≡ sc)
took_none NoData l w sc e = absurd (unlike (sym e))
took_none (Data b) l w sc e = absurd (unlike (sym e))
took_none (Refused n) l w sc e = (refl, refl)

-- the block begins where it began
pub first_stays : (seen : Seen) (l : Loader) (w sc : List ℕ) → first_address (loader_by seen l w sc) ≡ first_address l
unfolding first_address
first_stays NoData l w sc = first_kept l 0 w (store_of l 0 w sc)
first_stays (Data b) l w sc = first_kept l b w (store_of l b w sc)
first_stays (Refused n) l w sc = refl

pub turn_ended : (d : Device) (w : List ℕ) (c : Config) → is_ended c.loader.stage ≡ true → turn_of d w c ≡ c
unfolding turn_of
turn_ended d w c e = if_true (is_ended c.loader.stage) c (moved d w c) e

pub turn_going : (d : Device) (w : List ℕ) (c : Config) → is_ended c.loader.stage ≡ false → turn_of d w c ≡ moved d w c
unfolding turn_of
turn_going d w c e = if_false (is_ended c.loader.stage) c (moved d w c) e

-- an ended load stays as it is
pub ended_stays : (k : ℕ) (d : Device) (w : List ℕ) (c : Config) → is_ended c.loader.stage ≡ true → after k d w c ≡ c
ended_stays zero d w c e = refl
ended_stays (suc k) d w c e = ap (λ (x : Config). after k d w x) (turn_ended d w c e) ∙ ended_stays k d w c e

-- one turn of the bound is spent on one cycle
pub spend : (m k : ℕ) (d : Device) (w : List ℕ) (c : Config) → k < m → is_ended c.loader.stage ≡ false
    → after (m - k) d w c ≡ after (m - (k + 1)) d w (moved d w c)
spend m k d w c h e =
    ap (λ (j : ℕ). after j d w c) (let q : m - k ≡ suc (m - (k + 1)) = omega arith in q) ∙ ap (λ (x : Config). after (m - (k + 1)) d w x) (turn_going d w c e)

-- a load under way, written out
abbrev pub conf : Loader → State → List ℕ → List ℕ → ℕ → Config
conf l s xs sc k = record { loader = l; state = s; bytes = xs; scratch = sc; count = k }

-- what a loop that makes cycles keeps: what is left of the bound leads to the same end, and is enough
pub record Keeps (d : Device) (w : List ℕ) (end : Config) (c : Config) : Type 0 where
  pub same : after (bound (length w) - c.count) d w c ≡ end
  pub enough : c.count + remains c.loader (length w) ≤ bound (length w)

pub keeps_start : (d : Device) (w : List ℕ) (l : Loader) (s : State) (xs sc : List ℕ) → Keeps d w (driven d w (conf l s xs sc 0)) (conf l s xs sc 0)
unfolding driven
keeps_start d w l s xs sc =
    record {
      same = ap (λ (k : ℕ). after k d w (conf l s xs sc 0)) (let e : bound (length w) - 0 ≡ bound (length w) = omega arith in e);
      enough = omega (arith, remains_bound l.stage (length w) l.place l.polls);
    }

pub keeps_turn : (d : Device) (w : List ℕ) (end : Config) (l : Loader) (s : State) (xs sc : List ℕ) (k : ℕ) → Keeps d w end (conf l s xs sc k) → is_ended l.stage ≡ false
    → (l' : Loader) (s' : State) (xs' sc' : List ℕ)
    → l' ≡ loader_by (answer_to d w l s xs).seen l w sc → s' ≡ (answer_to d w l s xs).state → sc' ≡ scratch_by (answer_to d w l s xs).seen l w sc → xs' ≡ array_to d w l s xs
    → Keeps d w end (conf l' s' xs' sc' (k + 1))
keeps_turn d w end l s xs sc k h e l' s' xs' sc' el es ec ex =
    let f : remains (loader_by (answer_to d w l s xs).seen l w sc) (length w) < remains l (length w) = falls (answer_to d w l s xs).seen l w sc e in
    let g : remains l' (length w) < remains l (length w) = subst (λ (x : Loader). remains x (length w) < remains l (length w)) (sym el) f in
    let q : moved d w (conf l s xs sc k) ≡ conf l' s' xs' sc' (k + 1) = λ i. conf (sym el i) (sym es i) (sym ex i) (sym ec i) (k + 1) in
    let p : after (bound (length w) - k) d w (conf l s xs sc k) ≡ after (bound (length w) - (k + 1)) d w (moved d w (conf l s xs sc k)) =
    spend (bound (length w)) k d w (conf l s xs sc k) (omega (arith, h.enough)) e in
    record {
      same = sym (p ∙ ap (λ (x : Config). after (bound (length w) - (k + 1)) d w x) q) ∙ h.same;
      enough = omega (arith, h.enough);
    }

pub keeps_less : (seen : Seen) (l : Loader) (w sc : List ℕ) (l' : Loader) → is_ended l.stage ≡ false → l' ≡ loader_by seen l w sc → remains l' (length w) < remains l (length w)
keeps_less seen l w sc l' e el = subst (λ (x : Loader). remains x (length w) < remains l (length w)) (sym el) (falls seen l w sc e)

-- a load that has ended is the end
pub keeps_end : (d : Device) (w : List ℕ) (end c : Config) → Keeps d w end c → is_ended c.loader.stage ≡ true → c ≡ end
keeps_end d w end c h e = sym (ended_stays (bound (length w) - c.count) d w c e) ∙ h.same
