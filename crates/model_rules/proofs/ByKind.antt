-- The answers kind by kind are those of the table.
use mathlib.Core.Path.{◌≡◌, refl, ap, ◌∙◌}
use mathlib.Core.Bool.{Bool, true, false, ◌&&◌}
use Prim.Native.Nat.{ℕ}
use native.Mathlib.Omega.{arith}
use lib.Dec.{eqb, ltb}
use Rattle.std.specs.Prelude.{if◌then◌else◌}
use Rattle.common.proofs.Choice.{if_true, if_false, and_none}
use Rattle.device.specs.declared.Device.{Device}
use Rattle.device.specs.Parts.{block_of}
use Rattle.model_types.specs.declared.Kind.{Kind}
use Rattle.model_types.specs.declared.Kind.TheVariants.{Read, Write, Idle}
use Rattle.model_types.specs.declared.Mode.{Mode}
use Rattle.model_types.specs.declared.Mode.TheVariants.{Array, Status, Identifier}
use Rattle.model_types.specs.declared.State.{State}
use Rattle.model_types.specs.declared.Cycle.{Cycle}
use Rattle.model_types.specs.declared.Reply.TheVariants.{Quiet}
use Rattle.model_types.specs.declared.Settled.{Settled}
use Rattle.model_types.specs.declared.Decision.{Decision}
use Rattle.model_levels.specs.Levels.{rp_low}
use Rattle.model_commands.specs.Commands.{command_of, action_of, is_refuse}
use Rattle.model_operation.specs.Settling.{settle_of}
use Rattle.model_states.specs.States.{is_array, is_identifier}
use Rattle.model_rules.specs.Cycles.{no_command, suspended_read, code_place, no_identifier, late_of, reply_to, respond_of, refused_by, accept_of, decide_of}
use Rattle.model_judge.specs.Judging.{judge_of}
use Rattle.model_types.specs.Phases.{is_suspended}
use Rattle.model_types.specs.Kinds.{is_read, is_write}
use Rattle.model_rules.specs.Inner.{settled_by, in_suspended, decide_array, decide_identifier, decide_read, decide_write, decide_kind}
use Rattle.model_rules.proofs.Cases.{number_late, refused, accepted}

and_all : (x : Bool) → (x && true) ≡ x
and_all true = refl
and_all false = refl

-- the late number of each kind of cycle, with RP# up
module _ (d : Device) (c : Cycle) (u : State) where
  number_write : c.kind ≡ Write → rp_low c.pins ≡ false → late_of d.part u c ≡ (if is_refuse (action_of d.part u.phase (command_of c)) then 7 else 0)
  unfolding late_of no_command suspended_read no_identifier
  number_write k r = simp (k, r) (go (is_refuse (action_of d.part u.phase (command_of c))))
    where
      go : (x : Bool) → ◌≡◌ {A = ℕ} (if x && true then 7 else 0) (if x then 7 else 0)
      go true = refl
      go false = refl

  number_idle : c.kind ≡ Idle → late_of d.part u c ≡ 0
  unfolding late_of no_command suspended_read no_identifier
  number_idle k = simp k

  number_array : c.kind ≡ Read → rp_low c.pins ≡ false → u.mode ≡ Array → late_of d.part u c ≡ (if in_suspended d.part u c.address then 8 else 0)
  unfolding late_of no_command suspended_read no_identifier in_suspended
  number_array k r m = simp (k, r, m) (go (is_suspended u.phase) (eqb (block_of d.part c.address) (block_of d.part u.address)))
    where
      go : (x y : Bool) → ◌≡◌ {A = ℕ} (if ((x && true) && y) && true then 8 else 0) (if (if x then y else false) then 8 else 0)
      go true true = refl
      go true false = refl
      go false y = refl

  number_status : c.kind ≡ Read → rp_low c.pins ≡ false → u.mode ≡ Status → late_of d.part u c ≡ 0
  unfolding late_of no_command suspended_read no_identifier
  number_status k r m = simp (k, r, m) (go (is_suspended u.phase))
    where
      go : (x : Bool) → ◌≡◌ {A = ℕ} (if ((x && false) && eqb (block_of d.part c.address) (block_of d.part u.address)) && true then 8 else 0) 0
      go true = refl
      go false = refl

  number_identifier : c.kind ≡ Read → rp_low c.pins ≡ false → u.mode ≡ Identifier → late_of d.part u c ≡ (if ltb 1 (code_place d.part c.address) then 9 else 0)
  unfolding late_of no_command suspended_read no_identifier
  number_identifier k r m = simp (k, r, m) (go (is_suspended u.phase) (ltb 1 (code_place d.part c.address)))
    where
      go : (x y : Bool) → ◌≡◌ {A = ℕ} (if ((x && false) && eqb (block_of d.part c.address) (block_of d.part u.address)) && true then 8 else if y && true then 9 else 0) (if y then 9 else 0)
      go true true = refl
      go true false = refl
      go false true = refl
      go false false = refl

module _ (d : Device) (s : State) (c : Cycle) (array residue : ℕ) (z : judge_of d s c array residue ≡ 0) where
  abbrev t : Settled
  t = settle_of d.part s c.pins

  -- with RP# low no late number is asked
  pub by_reset : rp_low c.pins ≡ true → decide_of d s c array residue ≡ settled_by Quiet t
  unfolding late_of no_command suspended_read no_identifier accept_of
  by_reset r =
      accepted d s c array residue
      (number_late d s c array residue 0 z
      (simp (
        r,
        and_none (is_write c.kind && is_refuse (action_of d.part t.state.phase (command_of c))),
        and_none (((is_read c.kind && is_suspended t.state.phase) && is_array t.state.mode) && eqb (block_of d.part c.address) (block_of d.part t.state.address)),
        and_none ((is_read c.kind && is_identifier t.state.mode) && ltb 1 (code_place d.part c.address)),
      )))
      ∙ if_true (rp_low c.pins) _ _ r

  -- one late number, by one test: refused by it, or answered
  by_one : (n : ℕ) (x : Decision) (b : Bool) → late_of d.part t.state c ≡ (if b then n else 0) → (n ≡ 0 → ⊥) → rp_low c.pins ≡ false → respond_of c.kind d c t ≡ x
      → decide_of d s c array residue ≡ (if b then refused_by n s else x)
  unfolding accept_of
  by_one n x true e nz r q = refused d s c array residue n (number_late d s c array residue n z e) nz
  by_one n x false e nz r q = accepted d s c array residue (number_late d s c array residue 0 z e) ∙ if_false (rp_low c.pins) _ _ r ∙ q

  module _ (r : rp_low c.pins ≡ false) where
    -- a write
    by_write : c.kind ≡ Write → decide_of d s c array residue ≡ decide_kind Write d s c t
    unfolding decide_write
    by_write k = by_one 7 _ (is_refuse (action_of d.part t.state.phase (command_of c))) late (λ q. omega arith) r (ap (λ (x : Kind). respond_of x d c t) k)
      where
        late : late_of d.part t.state c ≡ (if is_refuse (action_of d.part t.state.phase (command_of c)) then 7 else 0)
        late = number_write d c t.state k r

    by_idle : c.kind ≡ Idle → decide_of d s c array residue ≡ decide_kind Idle d s c t
    by_idle k = by_one 7 _ false (number_idle d c t.state k) (λ q. omega arith) r (ap (λ (x : Kind). respond_of x d c t) k)

    reads : {m : Mode} → c.kind ≡ Read → t.state.mode ≡ m → respond_of c.kind d c t ≡ settled_by (reply_to m d.part c.address t.state.status) t
    reads k e = ap (λ (x : Kind). respond_of x d c t) k ∙ ap (λ (x : Mode). settled_by (reply_to x d.part c.address t.state.status) t) e

    -- a read, by mode
    by_read : (m : Mode) → t.state.mode ≡ m → c.kind ≡ Read → decide_of d s c array residue ≡ decide_read m d.part s c t
    unfolding decide_array decide_identifier
    by_read Array e k = by_one 8 _ (in_suspended d.part t.state c.address) (number_array d c t.state k r e) (λ q. omega arith) r (reads k e)
    by_read Status e k = by_one 8 _ false (number_status d c t.state k r e) (λ q. omega arith) r (reads k e)
    by_read Identifier e k = by_one 9 _ (ltb 1 (code_place d.part c.address)) (number_identifier d c t.state k r e) (λ q. omega arith) r (reads k e)

    pub by_kinds : decide_of d s c array residue ≡ decide_kind c.kind d s c t
    by_kinds = go c.kind refl
      where
        go : (k : Kind) → c.kind ≡ k → decide_of d s c array residue ≡ decide_kind k d s c t
        go Read e = by_read t.state.mode refl e
        go Write e = by_write e
        go Idle e = by_idle e
