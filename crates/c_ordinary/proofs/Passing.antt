-- An ordinary cycle of a state that is known: refusals 1 to 6 do not apply, and where steps 1 to 3 leave the array alone, kind and mode
-- tell the answer.
use mathlib.Core.Path.{◌≡◌, refl, ap, ◌∙◌}
use mathlib.Core.Bool.{Bool, false}
use mathlib.Core.List.{List}
use Prim.Native.Nat.{ℕ}
use native.Mathlib.Omega.{arith}
use lib.ListN.{length}
use lib.Dec.{ltb}
use borrow.Author.Tests.{eq-eqb, le-ltb, lt-leb}
use Rattle.common.specs.Lists.{Bytes}
use Rattle.common.proofs.Choice.{if_false}
use Rattle.units.specs.Units.{units, lent_in, units_in}
use Rattle.device.specs.declared.Part.{Part}
use Rattle.device.specs.declared.Device.{Device}
use Rattle.device.specs.Parts.{size_of}
use Rattle.model_types.specs.declared.Kind.{Kind}
use Rattle.model_types.specs.declared.Kind.TheVariants.{Read, Write, Idle}
use Rattle.model_types.specs.declared.Effect.TheVariants.{Nothing}
use Rattle.model_types.specs.declared.Reply.{Reply}
use Rattle.model_types.specs.declared.State.{State}
use Rattle.model_types.specs.declared.Cycle.{Cycle}
use Rattle.model_levels.specs.Levels.{rp_low, most_oe, bad_oe, bad_levels}
use Rattle.model_states.specs.States.{improper}
use Rattle.model_operation.specs.Settling.{settled_as, settle_of}
use Rattle.model_judge.specs.Judging.{past_array, short_residue, judge_of}
use Rattle.model_rules.specs.Cycles.{decided_as}
use Rattle.model_rules.specs.Inner.{decide_kind, decide_judged}
use Rattle.model.specs.declared.Answer.{Answer}
use Rattle.model.specs.Arrays.{seen_of}
use Rattle.model.specs.Inner.{answer_judged, array_judged}
use Rattle.model.proofs.Borders.{passed_answer, passed_bytes}
use Rattle.c_cycle.specs.Values.{device_in, state_in, kind_in, oe_in, cycle_in}
use Rattle.c_cycle.specs.Answers.{answer_out, cycled, array_cycled}
use Rattle.c_cycle.specs.declared.DeviceNumbers.{DeviceNumbers}
use Rattle.c_cycle.specs.declared.StateNumbers.{StateNumbers}
use Rattle.c_cycle.specs.declared.BusNumbers.{BusNumbers}
use Rattle.c_ordinary.specs.Ordinary.{Fair, Ordinary}

-- OE# low is a level of every kind
oe_low : (part : Part) (k : Kind) → bad_oe part k 0 ≡ false
oe_low part Read = refl
oe_low part Write = go (most_oe part)
  where
    go : (m : ℕ) → ltb m 0 ≡ false
    go m = le-ltb m 0 (omega arith)
oe_low part Idle = refl

-- the numbers stand for the state s, which is proper; no cut is to come that lacks its residue; steps 1 to 3 leave t and the array
pub record Stands (d : DeviceNumbers) (n : StateNumbers) (b : BusNumbers) (s t : State) : Type 0 where
  pub typed : state_in n ≡ s
  pub good : improper (device_in d) s ≡ false
  pub enough : (k : ℕ) → short_residue (device_in d).part s (cycle_in b) k ≡ false
  pub settled : settle_of (device_in d).part s (cycle_in b).pins ≡ settled_as t Nothing

-- a fair cycle of a state s that is proper, where no cut is to come that lacks its residue
module _ (d : DeviceNumbers) (n : StateNumbers) (b : BusNumbers) (xs rs : List ℕ) (o : Fair d b (length xs)) (s : State) (typed : state_in n ≡ s) (good : improper (device_in d) s ≡ false) (enough : short_residue (device_in d).part s (cycle_in b) (units_in (device_in d).part.word (length rs)) ≡ false) where
  abbrev part : Part
  part = (device_in d).part

  oe_is : (cycle_in b).oe ≡ 0
  unfolding oe_in
  oe_is = if_false (ltb 2 b.kind) 2 b.oe (le-ltb 2 b.kind o.kind) ∙ o.oe

  levels : bad_levels part (cycle_in b) ≡ false
  unfolding bad_levels
  levels = simp (o.pins, ap (λ (x : ℕ). bad_oe part (cycle_in b).kind x) oe_is ∙ oe_low part (cycle_in b).kind)

  inside : past_array part (cycle_in b) ≡ false
  unfolding past_array
  inside = simp (lt-leb (size_of part) b.address o.inside)

  -- none of refusals 1 to 6 applies
  pub passes : 0 ≡ judge_of (device_in d) (state_in n) (cycle_in b) (lent_in part.word (length xs)) (units_in part.word (length rs))
  unfolding judge_of
  passes = simp (typed, o.known, o.sized, eq-eqb (size_of part) (size_of part) refl, good, levels, inside, enough)

module _ (d : DeviceNumbers) (n : StateNumbers) (b : BusNumbers) (xs rs : List ℕ) (o : Ordinary d b (length xs)) (s t : State) (h : Stands d n b s t) where
  abbrev D : Device
  D = device_in d

  abbrev C : Cycle
  C = cycle_in b

  abbrev word : Bool
  word = D.part.word

  none_applies : 0 ≡ judge_of D (state_in n) C (lent_in word (length xs)) (units_in word (length rs))
  none_applies = passes d n b xs rs o.fair s h.typed h.good (h.enough (units_in word (length rs)))

  -- the answer where step 4 is known to change the state alone
  module _ (reply : Reply) (u : State) (e : decide_judged D s C ≡ decided_as reply u Nothing) where
    same : decide_judged D (state_in n) C ≡ decided_as reply u Nothing
    same = ap (λ (x : State). decide_judged D x C) h.typed ∙ e

    judged : record { seen = seen_of reply (units word xs); state = u } ≡ answer_judged D (state_in n) C (units word xs) (units word rs)
    unfolding answer_judged array_judged
    judged = simp same

    pub answered : answer_out n (record { seen = seen_of reply (units word xs); state = u }) ≡ cycled d n b xs rs
    unfolding cycled
    answered = ap (λ (a : Answer). answer_out n a) (passed_answer D (state_in n) C xs rs 0 none_applies refl _ judged)

    pub unwritten : Bytes xs → xs ≡ array_cycled d n b xs rs
    unfolding array_judged array_cycled
    unwritten bytes = passed_bytes D (state_in n) C xs rs 0 none_applies refl xs bytes bytes (simp same) refl refl

  -- by kind
  pub up_kind : (k : Kind) → C.kind ≡ k → decide_judged D s C ≡ decide_kind k D s C (settled_as t Nothing)
  unfolding decide_judged
  up_kind k e = if_false (rp_low C.pins) _ _ o.up ∙ (λ i. decide_kind (e i) D s C (h.settled i))

  pub kind_is : (k : ℕ) → b.kind ≡ k → C.kind ≡ kind_in k
  kind_is k e = ap kind_in e
