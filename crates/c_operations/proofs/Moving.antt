-- A supplied cycle that leaves the array alone: what a poll and a write answer, by the state that steps 1 to 3 leave.
use mathlib.Core.Path.{◌≡◌, refl, sym, ap, ◌∙◌}
use mathlib.Core.Bool.{Bool, true, false}
use mathlib.Core.List.{List}
use Prim.Native.Nat.{ℕ, ◌%◌}
use native.Mathlib.Omega.{arith}
use lib.ListN.{length}
use lib.Dec.{eqb}
use borrow.Author.Tests.{eqb-true, eqb-false}
use Rattle.std.specs.Prelude.{if◌then◌else◌}
use Rattle.common.specs.Lists.{Bytes}
use Rattle.common.proofs.Choice.{if_false}
use Rattle.units.specs.Units.{units}
use Rattle.device.specs.declared.Device.{Device}
use Rattle.model_types.specs.declared.Kind.TheVariants.{Read, Write, Idle}
use Rattle.model_types.specs.declared.Mode.{Mode}
use Rattle.model_types.specs.declared.Mode.TheVariants.{Status}
use Rattle.model_types.specs.declared.Action.{Action}
use Rattle.model_types.specs.declared.Effect.TheVariants.{Nothing}
use Rattle.model_types.specs.declared.Reply.{Reply}
use Rattle.model_types.specs.declared.Reply.TheVariants.{Quiet, Gives}
use Rattle.model_types.specs.declared.State.{State}
use Rattle.model_types.specs.declared.Cycle.{Cycle}
use Rattle.model_operation.specs.Settling.{settled_as}
use Rattle.model_commands.specs.Commands.{command_of, action_of, is_refuse}
use Rattle.model_actions.specs.Performed.{performed_of}
use Rattle.model_rules.specs.Cycles.{decided_as}
use Rattle.model_rules.specs.Inner.{decide_read, decide_write, decide_judged}
use Rattle.model.specs.Arrays.{seen_of}
use Rattle.c_cycle.specs.Values.{device_in, no_state, state_out, kind_in, cycle_in}
use Rattle.c_cycle.specs.Answers.{state_back, answer_out, cycled, array_cycled}
use Rattle.c_cycle.specs.declared.DeviceNumbers.{DeviceNumbers}
use Rattle.c_cycle.specs.declared.StateNumbers.{StateNumbers}
use Rattle.c_cycle.specs.declared.BusNumbers.{BusNumbers}
use Rattle.c_cycle.specs.declared.AnswerNumbers.{AnswerNumbers}
use Rattle.c_ordinary.specs.Ordinary.{Ordinary}
use Rattle.c_answers.specs.Answers.{seen_in, shown_in}
use Rattle.c_ordinary.proofs.Passing.{Stands}
use Rattle.c_ordinary.proofs.Passing as passing

-- an answer, and the array as it was
abbrev pub Told : DeviceNumbers → StateNumbers → BusNumbers → List ℕ → List ℕ → AnswerNumbers → Type 0
Told d n b xs rs a = (a ≡ cycled d n b xs rs) × (Bytes xs → xs ≡ array_cycled d n b xs rs)

module _ (d : DeviceNumbers) (n : StateNumbers) (b : BusNumbers) (xs rs : List ℕ) (o : Ordinary d b (length xs)) (S T : State) (h : Stands d n b S T) (there : no_state n ≡ false) where
  abbrev D : Device
  D = device_in d

  abbrev C : Cycle
  C = cycle_in b

  goes_back : (u : State) → state_back n u ≡ state_out u
  unfolding state_back
  goes_back u = if_false (no_state n) n (state_out u) there

  pub told_by : (reply : Reply) (u : State) (seen v : ℕ) → decide_judged D S C ≡ decided_as reply u Nothing
      → answer_out n (record { seen = seen_of reply (units D.part.word xs); state = u }) ≡ record { seen = seen; value = v; state = state_back n u }
      → Told d n b xs rs (record { seen = seen; value = v; state = state_out u })
  told_by reply u seen v e f =
      ((λ i. record { seen = seen; value = v; state = sym (goes_back u) i }) ∙ sym f ∙ passing.answered d n b xs rs o S T h reply u e, passing.unwritten d n b xs rs o S T h reply u e)

  reads : b.kind ≡ 0 → T.mode ≡ Status → decide_judged D S C ≡ decided_as (Gives T.status) T Nothing
  unfolding kind_in
  reads e m = passing.up_kind d n b xs rs o S T h Read (passing.kind_is d n b xs rs o S T h 0 e) ∙ ap (λ (x : Mode). decide_read x D.part S C (settled_as T Nothing)) m

  idles : b.kind ≡ 2 → decide_judged D S C ≡ decided_as Quiet T Nothing
  unfolding kind_in
  idles e = passing.up_kind d n b xs rs o S T h Idle (passing.kind_is d n b xs rs o S T h 2 e)

  -- a read gives the status that steps 1 to 3 leave, an idle cycle nothing
  pub polls : T.mode ≡ Status → eqb b.kind 1 ≡ false
      → Told d n b xs rs (record { seen = seen_in b.kind; value = shown_in b.kind T.status; state = state_out T })
  unfolding seen_in shown_in
  polls m z = go (eqb b.kind 0) refl
    where
      go : (t : Bool) → eqb b.kind 0 ≡ t → Told d n b xs rs (record { seen = if t then 1 else 0; value = if t then T.status else 0; state = state_out T })
      go true e = told_by (Gives T.status) T 1 T.status (reads (eqb-true b.kind 0 e) m) refl
      go false e = told_by Quiet T 0 0 (idles (omega (arith, o.fair.kind, eqb-false b.kind 0 e, eqb-false b.kind 1 z))) refl

  -- a write does what its action does
  pub writes : b.kind ≡ 1 → (a : Action) → action_of D.part T.phase (b.data % 256) ≡ a → is_refuse a ≡ false
      → Told d n b xs rs (record { seen = 0; value = 0; state = state_out (performed_of a D C T) })
  unfolding kind_in decide_write command_of
  writes e a f q =
      told_by Quiet (performed_of a D C T) 0 0
      (passing.up_kind d n b xs rs o S T h Write (passing.kind_is d n b xs rs o S T h 1 e)
      ∙ ap (λ (x : Action). decide_write x D S C (settled_as T Nothing)) f ∙ if_false (is_refuse a) _ _ q)
      refl
