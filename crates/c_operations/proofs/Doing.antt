-- A cycle that refusals 1 to 6 do not stop, by what step 4 decides: what it answers, and what the array must hold.
use mathlib.Core.Path.{◌≡◌, refl, sym, ap, ◌∙◌}
use mathlib.Core.Bool.{Bool, true, false}
use mathlib.Core.List.{List}
use Prim.Native.Nat.{ℕ, ◌≤◌}
use native.Mathlib.Omega.{arith}
use lib.ListN.{length}
use lib.Dec.{eqb}
use borrow.Author.Tests.{eqb-true, eqb-false}
use Rattle.std.specs.Prelude.{if◌then◌else◌}
use Rattle.common.specs.Lists.{Bytes}
use Rattle.common.proofs.Choice.{if_false}
use Rattle.units.specs.Units.{units, spare, lent_in, units_in}
use Rattle.device.specs.declared.Device.{Device}
use Rattle.model_types.specs.declared.Kind.{Kind}
use Rattle.model_types.specs.declared.Kind.TheVariants.{Read, Idle}
use Rattle.model_types.specs.declared.Mode.{Mode}
use Rattle.model_types.specs.declared.Mode.TheVariants.{Status}
use Rattle.model_types.specs.declared.Effect.{Effect}
use Rattle.model_types.specs.declared.Reply.{Reply}
use Rattle.model_types.specs.declared.Reply.TheVariants.{Quiet, Gives}
use Rattle.model_types.specs.declared.State.{State}
use Rattle.model_types.specs.declared.Cycle.{Cycle}
use Rattle.model_operation.specs.Settling.{settled_as}
use Rattle.model_judge.specs.Judging.{judge_of}
use Rattle.model_rules.specs.Cycles.{decided_as}
use Rattle.model_rules.specs.Inner.{decide_read, decide_kind, decide_judged}
use Rattle.model.specs.declared.Answer.{Answer}
use Rattle.model.specs.Arrays.{seen_of}
use Rattle.model.specs.Inner.{done_of, answer_judged, array_judged}
use Rattle.model.proofs.Borders.{passed_answer, passed_bytes}
use Rattle.c_cycle.specs.Values.{device_in, no_state, state_in, state_out, kind_in, cycle_in}
use Rattle.c_cycle.specs.Answers.{state_back, answer_out, cycled, array_cycled}
use Rattle.c_cycle.specs.declared.DeviceNumbers.{DeviceNumbers}
use Rattle.c_cycle.specs.declared.StateNumbers.{StateNumbers}
use Rattle.c_cycle.specs.declared.BusNumbers.{BusNumbers}
use Rattle.c_cycle.specs.declared.AnswerNumbers.{AnswerNumbers}
use Rattle.c_answers.specs.Answers.{seen_in, shown_in}

-- an answer, and what the array must hold after such an effect
abbrev pub Does : DeviceNumbers → StateNumbers → BusNumbers → List ℕ → List ℕ → Effect → AnswerNumbers → Type 0
Does d n b xs rs E a =
    (a ≡ cycled d n b xs rs)
    × ((ys : List ℕ) → Bytes xs → Bytes ys → units (device_in d).part.word ys ≡ done_of E (device_in d).part (units (device_in d).part.word rs) (units (device_in d).part.word xs)
    → spare (device_in d).part.word ys ≡ spare (device_in d).part.word xs → length ys ≡ length xs → ys ≡ array_cycled d n b xs rs)

module _ (d : DeviceNumbers) (n : StateNumbers) (b : BusNumbers) (xs rs : List ℕ) (S T : State) (E : Effect) (there : no_state n ≡ false) (typed : state_in n ≡ S) (pass : 0 ≡ judge_of (device_in d) (state_in n) (cycle_in b) (lent_in (device_in d).part.word (length xs)) (units_in (device_in d).part.word (length rs))) where
  abbrev D : Device
  D = device_in d

  abbrev C : Cycle
  C = cycle_in b

  abbrev word : Bool
  word = D.part.word

  module _ (reply : Reply) (e : decide_judged D S C ≡ decided_as reply T E) where
    same : decided_as reply T E ≡ decide_judged D (state_in n) C
    same = sym (ap (λ (x : State). decide_judged D x C) typed ∙ e)

    abbrev after : List ℕ
    after = array_judged D (state_in n) C (units word xs) (units word rs)

    judged : record { seen = seen_of reply after; state = T } ≡ answer_judged D (state_in n) C (units word xs) (units word rs)
    unfolding answer_judged
    judged = λ i. record { seen = seen_of (same i).reply after; state = (same i).state }

    answered : answer_out n (record { seen = seen_of reply after; state = T }) ≡ cycled d n b xs rs
    unfolding cycled
    answered = ap (λ (a : Answer). answer_out n a) (passed_answer D (state_in n) C xs rs 0 pass refl _ judged)

    written : (ys : List ℕ) → Bytes xs → Bytes ys → units word ys ≡ done_of E D.part (units word rs) (units word xs) → spare word ys ≡ spare word xs → length ys ≡ length xs → ys ≡ array_cycled d n b xs rs
    unfolding array_judged array_cycled
    written ys p q u s l = passed_bytes D (state_in n) C xs rs 0 pass refl ys p q (u ∙ (λ i. done_of (same i).effect D.part (units word rs) (units word xs))) s l

    goes_back : state_back n T ≡ state_out T
    unfolding state_back
    goes_back = if_false (no_state n) n (state_out T) there

    pub does : (seen v : ℕ) → answer_out n (record { seen = seen_of reply after; state = T }) ≡ record { seen = seen; value = v; state = state_back n T }
        → Does d n b xs rs E (record { seen = seen; value = v; state = state_out T })
    does seen v f = ((λ i. record { seen = seen; value = v; state = sym goes_back i }) ∙ sym f ∙ answered, written)

  -- a read gives the status, an idle cycle nothing, where RP# is up and steps 1 to 3 leave T in read status
  pub by_kind : ((k : Kind) → C.kind ≡ k → decide_judged D S C ≡ decide_kind k D S C (settled_as T E)) → T.mode ≡ Status → b.kind ≤ 2 → eqb b.kind 1 ≡ false
      → Does d n b xs rs E (record { seen = seen_in b.kind; value = shown_in b.kind T.status; state = state_out T })
  unfolding seen_in shown_in kind_in
  by_kind up m l z = go (eqb b.kind 0) refl
    where
      reads : b.kind ≡ 0 → decide_judged D S C ≡ decided_as (Gives T.status) T E
      reads e = up Read (ap kind_in e) ∙ ap (λ (x : Mode). decide_read x D.part S C (settled_as T E)) m

      idles : b.kind ≡ 2 → decide_judged D S C ≡ decided_as Quiet T E
      idles e = up Idle (ap kind_in e)

      go : (t : Bool) → eqb b.kind 0 ≡ t → Does d n b xs rs E (record { seen = if t then 1 else 0; value = if t then T.status else 0; state = state_out T })
      go true e = does (Gives T.status) (reads (eqb-true b.kind 0 e)) 1 T.status refl
      go false e = does Quiet (idles (omega (arith, l, eqb-false b.kind 0 e, eqb-false b.kind 1 z))) 0 0 refl
