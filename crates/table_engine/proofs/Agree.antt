-- The second engine decides as the first, whatever the cycle, the state and the lengths.
use mathlib.Core.Path.{◌≡◌, refl, sym, ap, ◌∙◌}
use mathlib.Core.Bool.{Bool, true, false}
use mathlib.Core.List.{List}
use Prim.Native.Nat.{ℕ}
use lib.Dec.{eqb}
use lib.ListN.{length}
use borrow.Author.Tests.{eqb-true, eqb-false}
use Rattle.std.specs.Prelude.{if◌then◌else◌}
use Rattle.common.proofs.Choice.{if_true, if_false}
use Rattle.units.specs.Units.{units, lent, back}
use Rattle.device.specs.declared.Device.{Device}
use Rattle.model_levels.specs.Levels.{rp_low}
use Rattle.model_types.specs.declared.Action.{Action}
use Rattle.model_types.specs.declared.Cycle.{Cycle}
use Rattle.model_types.specs.declared.Decision.{Decision}
use Rattle.model_types.specs.declared.Kind.{Kind}
use Rattle.model_types.specs.declared.Kind.TheVariants.{Read, Write, Idle}
use Rattle.model_types.specs.declared.Reply.TheVariants.{Quiet}
use Rattle.model_types.specs.declared.Settled.{Settled}
use Rattle.model_types.specs.declared.State.{State}
use Rattle.model_operation.specs.Settling.{settle_of}
use Rattle.model_judge.specs.Judging.{judge_of}
use Rattle.model_rules.specs.Cycles.{refused_by, decide_of}
use Rattle.model_rules.specs.Inner.{settled_by, decide_write, decide_kind, decide_judged}
use Rattle.model_rules.proofs.Passing.{passes, stops}
use Rattle.model.specs.Arrays.{array_of, is_refusal, seen_of, array_after, answer_of, bytes_after}
use Rattle.command_table.proofs.Claims.{table_is_rule}
use Rattle.table_engine.specs.Engine.{table_action, table_kind, table_judged, table_decide, table_array, table_answer, table_bytes}

-- step 4
same_kind : (k : Kind) (d : Device) (s : State) (c : Cycle) (t : Settled) → table_kind k d s c t ≡ decide_kind k d s c t
unfolding table_action
same_kind Read d s c t = refl
same_kind Write d s c t = ap (λ (a : Action). decide_write a d s c t) (table_is_rule d.part t.state.phase c)
same_kind Idle d s c t = refl

-- a cycle that was judged
same_judged : (d : Device) (s : State) (c : Cycle) → table_judged d s c ≡ decide_judged d s c
unfolding table_judged decide_judged
same_judged d s c =
    ap (λ (x : Decision). if rp_low c.pins then settled_by Quiet (settle_of d.part s c.pins) else x)
    (same_kind c.kind d s c (settle_of d.part s c.pins))

-- a cycle
pub same_decision : (d : Device) (s : State) (c : Cycle) (n r : ℕ) → table_decide d s c n r ≡ decide_of d s c n r
unfolding table_decide
same_decision d s c n r = go (eqb (judge_of d s c n r) 0) refl
  where
    go : (b : Bool) → eqb (judge_of d s c n r) 0 ≡ b → table_decide d s c n r ≡ decide_of d s c n r
    go true e =
        if_true (eqb (judge_of d s c n r) 0) (table_judged d s c) (refused_by (judge_of d s c n r) s) e ∙ same_judged d s c
        ∙ sym (passes d s c n r (eqb-true (judge_of d s c n r) 0 e))
    go false e =
        if_false (eqb (judge_of d s c n r) 0) (table_judged d s c) (refused_by (judge_of d s c n r) s) e
        ∙ sym (stops d s c n r (eqb-false (judge_of d s c n r) 0 e))

-- its answer
pub same_answer : (d : Device) (s : State) (c : Cycle) (xs rs : List ℕ) → table_answer d s c xs rs ≡ answer_of d s c xs rs
unfolding table_answer table_array answer_of array_after
same_answer d s c xs rs =
    ap (λ (x : Decision). record { seen = seen_of x.reply (array_of x.effect d.part rs xs); state = x.state })
    (same_decision d s c (length xs) (length rs))

-- and the lent bytes
pub same_bytes : (d : Device) (s : State) (c : Cycle) (array residue : List ℕ) → table_bytes d s c array residue ≡ bytes_after d s c array residue
unfolding table_bytes table_array bytes_after array_after
same_bytes d s c array residue =
    let us : List ℕ = lent d.part.word array in
    let rs : List ℕ = units d.part.word residue in
    ap (λ (x : Decision). if is_refusal x.reply then array else back d.part.word (array_of x.effect d.part rs us))
    (same_decision d s c (length us) (length rs))
