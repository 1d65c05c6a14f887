-- Turns of an interrupted load: the end stays, and such a load is its end after the bound.
use mathlib.Core.Path.{◌≡◌, refl, sym, ap, ◌∙◌, subst}
use mathlib.Core.Bool.{true, false}
use mathlib.Core.List.{List}
use Prim.Native.Nat.{ℕ, zero, suc, ◌+◌, ◌-◌, ◌≤◌, ◌<◌}
use native.Mathlib.Omega.{arith}
use lib.ListN.{length}
use Rattle.common.proofs.Choice.{if_true, if_false}
use Rattle.device.specs.declared.Device.{Device}
use Rattle.model_types.specs.declared.State.{State}
use Rattle.loader.specs.declared.Loader.{Loader}
use Rattle.loader.specs.Stages.{is_ended}
use Rattle.loader_held.specs.declared.Hold.{Hold}
use Rattle.loader_held_run.specs.HeldTurns.{HeldConfig, held_answer, held_array, held_moved, held_turn, held_after}
use Rattle.loader_held_run.specs.HeldRuns.{held_conf, held_bound, held_driven}
use Rattle.loader_held_run.proofs.HeldMeasure.{held_remains, held_bound_lem, held_falls}

pub turn_ended : (d : Device) (w bs ps : List ℕ) (c : HeldConfig) → is_ended c.loader.stage ≡ true → held_turn d w bs ps c ≡ c
unfolding held_turn
turn_ended d w bs ps c e = if_true (is_ended c.loader.stage) c (held_moved d w bs ps c) e

pub turn_going : (d : Device) (w bs ps : List ℕ) (c : HeldConfig) → is_ended c.loader.stage ≡ false → held_turn d w bs ps c ≡ held_moved d w bs ps c
unfolding held_turn
turn_going d w bs ps c e = if_false (is_ended c.loader.stage) c (held_moved d w bs ps c) e

-- an ended load stays as it is
pub ended_stays : (k : ℕ) (d : Device) (w bs ps : List ℕ) (c : HeldConfig) → is_ended c.loader.stage ≡ true → held_after k d w bs ps c ≡ c
ended_stays zero d w bs ps c e = refl
ended_stays (suc k) d w bs ps c e = ap (λ (x : HeldConfig). held_after k d w bs ps x) (turn_ended d w bs ps c e) ∙ ended_stays k d w bs ps c e

-- one turn from a load that goes on
pub after_going : (k : ℕ) (d : Device) (w bs ps : List ℕ) (c : HeldConfig) → is_ended c.loader.stage ≡ false → held_after (suc k) d w bs ps c ≡ held_after k d w bs ps (held_moved d w bs ps c)
after_going k d w bs ps c e = ap (λ (x : HeldConfig). held_after k d w bs ps x) (turn_going d w bs ps c e)

-- one turn of the bound is spent on one cycle
spend : (m k : ℕ) (d : Device) (w bs ps : List ℕ) (c : HeldConfig) → k < m → is_ended c.loader.stage ≡ false
    → held_after (m - k) d w bs ps c ≡ held_after (m - (k + 1)) d w bs ps (held_moved d w bs ps c)
spend m k d w bs ps c h e =
    ap (λ (j : ℕ). held_after j d w bs ps c) (let q : m - k ≡ suc (m - (k + 1)) = omega arith in q) ∙ after_going (m - (k + 1)) d w bs ps c e

-- what a loop that makes cycles keeps: what is left of the bound leads to the same end, and is enough
pub record Keeps (d : Device) (w bs ps : List ℕ) (end c : HeldConfig) : Type 0 where
  pub same : held_after (held_bound (length w) (length bs) - c.count) d w bs ps c ≡ end
  pub enough : c.count + held_remains c.loader c.hold (length w) (length bs) ≤ held_bound (length w) (length bs)

module _ (d : Device) (w bs ps : List ℕ) where
  pub keeps_start : (c : HeldConfig) → c.count ≡ 0 → Keeps d w bs ps (held_driven d w bs ps c) c
  unfolding held_driven
  keeps_start c z =
      record {
        same = ap (λ (k : ℕ). held_after k d w bs ps c) (let e : held_bound (length w) (length bs) - c.count ≡ held_bound (length w) (length bs) = omega arith in e);
        enough = omega (arith, z, held_bound_lem c.loader c.hold (length w) (length bs));
      }

  -- a cycle brings the end nearer
  pub moved_less : (c : HeldConfig) → is_ended c.loader.stage ≡ false
      → held_remains (held_moved d w bs ps c).loader (held_moved d w bs ps c).hold (length w) (length bs) < held_remains c.loader c.hold (length w) (length bs)
  moved_less c e = held_falls (held_answer d w bs c).seen c.loader c.hold w c.scratch bs ps e

  keeps_moved : (end c : HeldConfig) → Keeps d w bs ps end c → is_ended c.loader.stage ≡ false → Keeps d w bs ps end (held_moved d w bs ps c)
  keeps_moved end c h e =
      let f = moved_less c e in
      record {
        same = sym (spend (held_bound (length w) (length bs)) c.count d w bs ps c (omega (arith, h.enough)) e) ∙ h.same;
        enough = omega (arith, h.enough);
      }

  -- .. and the same of what a cycle was seen to leave
  pub keeps_turn : (end c c' : HeldConfig) → Keeps d w bs ps end c → is_ended c.loader.stage ≡ false → c' ≡ held_moved d w bs ps c → Keeps d w bs ps end c'
  keeps_turn end c c' h e q = subst (λ (x : HeldConfig). Keeps d w bs ps end x) (sym q) (keeps_moved end c h e)

  pub keeps_less : (c c' : HeldConfig) → is_ended c.loader.stage ≡ false → c' ≡ held_moved d w bs ps c
      → held_remains c'.loader c'.hold (length w) (length bs) < held_remains c.loader c.hold (length w) (length bs)
  keeps_less c c' e q =
      subst (λ (x : HeldConfig). held_remains x.loader x.hold (length w) (length bs) < held_remains c.loader c.hold (length w) (length bs)) (sym q) (moved_less c e)

  -- a load that has ended is the end
  pub keeps_end : (end c : HeldConfig) → Keeps d w bs ps end c → is_ended c.loader.stage ≡ true → c ≡ end
  keeps_end end c h e = sym (ended_stays (held_bound (length w) (length bs) - c.count) d w bs ps c e) ∙ h.same

  -- a cycle is the same whatever was counted before it
  pub from_any : (l l' : Loader) (h h' : Hold) (s s' : State) (xs xs' sc sc' rm rm' : List ℕ) (k : ℕ)
      → held_conf l' h' s' xs' sc' rm' 1 ≡ held_moved d w bs ps (held_conf l h s xs sc rm 0) → held_conf l' h' s' xs' sc' rm' (k + 1) ≡ held_moved d w bs ps (held_conf l h s xs sc rm k)
  unfolding held_answer held_array
  from_any l l' h h' s s' xs xs' sc sc' rm rm' k e = λ i. held_conf (e i).loader (e i).hold (e i).state (e i).bytes (e i).scratch (e i).room (k + 1)

  -- what is counted fits 64 bits
  pub count_fits : (end c : HeldConfig) → Keeps d w bs ps end c → length w ≤ 524288 → length bs ≤ 4096 → c.count + 1 < 18446744073709551616
  unfolding held_bound
  count_fits end c h a b =
      few c.count (held_remains c.loader c.hold (length w) (length bs)) (held_bound (length w) (length bs)) h.enough (small (length w) (length bs) a b)
    where
      few : (x y z : ℕ) → x + y ≤ z → z < 18446744073709551615 → x + 1 < 18446744073709551616
      few x y z p q = omega arith

      small : (n k : ℕ) → n ≤ 524288 → k ≤ 4096 → held_bound n k < 18446744073709551615
      small n k p q = omega arith
