-- A cycle is refused by its early number, or passes; and an array read at rest passes with its byte.
use mathlib.Core.Path.{◌≡◌, refl, sym, ap, ◌∙◌}
use mathlib.Core.Bool.{Bool, true, false, not, ◌&&◌}
use Prim.Native.Nat.{ℕ}
use Rattle.common.proofs.Choice.{if_true, if_false, and_left, and_right, unlike, and_none}
use Rattle.device.specs.declared.Device.{Device}
use Rattle.model_types.specs.declared.Kind.{Kind}
use Rattle.model_types.specs.declared.Kind.TheVariants.{Read, Write, Idle}
use Rattle.model_types.specs.declared.Mode.{Mode}
use Rattle.model_types.specs.declared.Mode.TheVariants.{Array, Status, Identifier}
use Rattle.model_types.specs.declared.Phase.{Phase}
use Rattle.model_types.specs.declared.Phase.TheVariants.{Free, EraseAwaited, DataAwaited, Programming, Erasing, Suspending, Suspended}
use Rattle.model_types.specs.declared.State.{State}
use Rattle.model_types.specs.declared.Cycle.{Cycle}
use Rattle.model_types.specs.declared.Effect.TheVariants.{Nothing}
use Rattle.model_types.specs.declared.Reply.TheVariants.{GivesArray}
use Rattle.model_types.specs.declared.Settled.{Settled}
use Rattle.model_levels.specs.Levels.{rp_low, vpp_low}
use Rattle.model_states.specs.States.{is_array}
use Rattle.model_operation.specs.Settling.{settled_as, settle_of}
use Rattle.model_judge.specs.Judging.{judge_of}
use Rattle.model_rules.specs.Cycles.{refused_by, decided_as, decide_of}
use Rattle.model_rules.specs.Inner.{in_suspended, decide_array, decide_kind, decide_judged, asks_array}
use Rattle.model_types.specs.Phases.{is_free}
use Rattle.model_types.specs.Kinds.{is_read}
use Rattle.model_rules.proofs.Cases.{number_early, refused}
use Rattle.model_rules.proofs.ByKind.{by_reset, by_kinds}

-- none of refusals 1 to 6: the cycle passes
pub passes : (d : Device) (s : State) (c : Cycle) (array residue : ℕ) → judge_of d s c array residue ≡ 0 → decide_of d s c array residue ≡ decide_judged d s c
unfolding decide_judged
passes d s c array residue z = go (rp_low c.pins) refl
  where
    go : (b : Bool) → rp_low c.pins ≡ b → decide_of d s c array residue ≡ decide_judged d s c
    go true r = by_reset d s c array residue z r ∙ sym (if_true (rp_low c.pins) _ _ r)
    go false r = by_kinds d s c array residue z r ∙ sym (if_false (rp_low c.pins) _ _ r)

-- one of them: it is refused by that number
pub stops : (d : Device) (s : State) (c : Cycle) (array residue : ℕ) → (judge_of d s c array residue ≡ 0 → ⊥)
    → decide_of d s c array residue ≡ refused_by (judge_of d s c array residue) s
stops d s c array residue z =
    refused d s c array residue (judge_of d s c array residue) (number_early d s c array residue (judge_of d s c array residue) refl z) z

is_read_lem : (k : Kind) → is_read k ≡ true → k ≡ Read
is_read_lem Read e = refl
is_read_lem Write e = absurd (unlike (sym e))
is_read_lem Idle e = absurd (unlike (sym e))

is_free_lem : (ph : Phase) → is_free ph ≡ true → ph ≡ Free
is_free_lem Free e = refl
is_free_lem EraseAwaited e = absurd (unlike (sym e))
is_free_lem DataAwaited e = absurd (unlike (sym e))
is_free_lem (Programming b) e = absurd (unlike (sym e))
is_free_lem Erasing e = absurd (unlike (sym e))
is_free_lem (Suspending n) e = absurd (unlike (sym e))
is_free_lem Suspended e = absurd (unlike (sym e))

is_array_lem : (m : Mode) → is_array m ≡ true → m ≡ Array
is_array_lem Array e = refl
is_array_lem Status e = absurd (unlike (sym e))
is_array_lem Identifier e = absurd (unlike (sym e))

not-true : (b : Bool) → not b ≡ true → b ≡ false
not-true true e = absurd (unlike (sym e))
not-true false e = refl

module _ (d : Device) (s : State) (c : Cycle) (asks : asks_array s c ≡ true) where
  abbrev first : Bool
  first = is_read c.kind && is_free s.phase

  abbrev three : Bool
  three = first && is_array s.mode

  before : three ≡ true
  unfolding asks_array
  before = and_left three (not (rp_low c.pins)) asks

  kind : c.kind ≡ Read
  kind = is_read_lem c.kind (and_left (is_read c.kind) (is_free s.phase) (and_left first (is_array s.mode) before))

  free : s.phase ≡ Free
  free = is_free_lem s.phase (and_right (is_read c.kind) (is_free s.phase) (and_left first (is_array s.mode) before))

  mode : s.mode ≡ Array
  mode = is_array_lem s.mode (and_right first (is_array s.mode) before)

  up : rp_low c.pins ≡ false
  unfolding asks_array
  up = not-true (rp_low c.pins) (and_right three (not (rp_low c.pins)) asks)

  settled : settle_of d.part s c.pins ≡ settled_as s Nothing
  unfolding settle_of
  settled = simp (up, free, and_none (vpp_low d.part c.pins))

  -- its byte is the answer, and nothing else changes
  pub shows : decide_judged d s c ≡ decided_as (GivesArray c.address) s Nothing
  unfolding decide_judged decide_array in_suspended
  shows =
      if_false (rp_low c.pins) _ _ up
      ∙ ap (λ (k : Kind). decide_kind k d s c (settle_of d.part s c.pins)) kind ∙ ap (λ (t : Settled). decide_kind Read d s c t) settled
      ∙ simp (mode, free)
