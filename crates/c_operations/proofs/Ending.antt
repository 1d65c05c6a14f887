-- A supplied read or idle cycle that ends an operation: the array has what it leaves, and a read gives the status.
use mathlib.Core.Path.{◌≡◌, refl, sym, ap, ◌∙◌}
use mathlib.Core.Bool.{Bool, true, false}
use mathlib.Core.List.{List}
use Prim.Native.Nat.{ℕ, ◌-◌, ◌<◌}
use native.Mathlib.Omega.{arith}
use lib.ListN.{length, get_or, set}
use lib.Dec.{eqb, ltb}
use lib.Bits.{bit_and, bit_or}
use borrow.Author.Tests.{eqb-true, eqb-false, eq-eqb, lt-ltb}
use Rattle.std.specs.Prelude.{if◌then◌else◌}
use Rattle.common.specs.Lists.{Bytes}
use Rattle.common.proofs.Choice.{if_true, if_false}
use Rattle.units.specs.Units.{units, spare, lent_in, units_in, erased_in}
use Rattle.units.proofs.Widths.{erased_there, lent_length, lent_even}
use Rattle.device.specs.declared.Part.{Part}
use Rattle.device.specs.declared.Span.{Span}
use Rattle.device.specs.Parts.{size_of, block_of}
use Rattle.device.specs.Inner.{span_of}
use Rattle.device.specs.declared.Device.{Device}
use Rattle.model_types.specs.declared.Kind.{Kind}
use Rattle.model_types.specs.declared.Kind.TheVariants.{Read, Idle}
use Rattle.model_types.specs.declared.Mode.TheVariants.{Status}
use Rattle.model_types.specs.declared.Phase.{Phase}
use Rattle.model_types.specs.declared.Phase.TheVariants.{Free, Programming, Erasing}
use Rattle.model_types.specs.declared.Effect.{Effect}
use Rattle.model_types.specs.declared.Reply.{Reply}
use Rattle.model_types.specs.declared.Reply.TheVariants.{Quiet, Gives}
use Rattle.model_types.specs.declared.State.{State}
use Rattle.model_types.specs.declared.Cycle.{Cycle}
use Rattle.model_levels.specs.Levels.{rp_low, vpp_low}
use Rattle.model_operation.specs.Settling.{finish_of, settled_as, settle_of, passed_of, counted_off}
use Rattle.model_judge.specs.Judging.{short_residue, judge_of}
use Rattle.model_rules.specs.Cycles.{decided_as}
use Rattle.model_rules.specs.Inner.{decide_kind, decide_judged}
use Rattle.model.specs.declared.Answer.{Answer}
use Rattle.model.specs.Arrays.{seen_of}
use Rattle.model.specs.Inner.{done_of, answer_judged, array_judged}
use Rattle.model.proofs.Borders.{passed_answer, passed_bytes, sized_whole}
use Rattle.model.proofs.Overlay.{inside, filled}
use Rattle.c_cycle.specs.Values.{device_in, phase_in, no_state, wear_in, state_in, state_out, kind_in, cycle_in}
use Rattle.c_cycle.specs.Answers.{state_back, answer_out, cycled, array_cycled}
use Rattle.c_cycle.specs.declared.DeviceNumbers.{DeviceNumbers}
use Rattle.c_cycle.specs.declared.StateNumbers.{StateNumbers}
use Rattle.c_cycle.specs.declared.BusNumbers.{BusNumbers}
use Rattle.c_ordinary.proofs.Passing.{passes}
use Rattle.c_answers.specs.Answers.{ended_as, seen_in, shown_in}
use Rattle.c_operations.specs.Operations.{Running, Supplied, Ending, phase_of, end_in}
use Rattle.c_operations.proofs.Running.{going, is_going, is_proper}
use Rattle.c_operations.proofs.Doing.{Does, by_kind}

-- the units after an end are those that the effect leaves
module _ (part : Part) (n : StateNumbers) (us : List ℕ) (rs : List ℕ) where
  pub programmed : n.phase ≡ 3 → n.address < length us → (vs : List ℕ) → vs ≡ set us n.address (bit_and (get_or us n.address 0) n.data)
      → vs ≡ done_of (end_in part n) part rs us
  unfolding phase_in
  programmed p l vs e =
      let ph : phase_of n ≡ Programming n.data = simp p in
      e ∙ sym (if_true (ltb n.address (length us)) _ _ (lt-ltb n.address (length us) l)) ∙ ap (λ (x : Phase). done_of (finish_of x part n.address) part rs us) (sym ph)

  pub erased_whole : n.phase ≡ 4 → length us ≡ size_of part → (s : Span) → s ≡ span_of part (block_of part n.address) → (vs : List ℕ)
      → vs ≡ erased_in part.word s.first s.length us → vs ≡ done_of (end_in part n) part rs us
  unfolding phase_in
  erased_whole p l s q vs e =
      let k = block_of part n.address in
      let ph : phase_of n ≡ Erasing = simp p in
      let a = ap (λ (x : Span). x.first) q in
      let m = ap (λ (x : Span). x.length) q in
      filled part k us s.first s.length a m vs (e ∙ erased_there part.word s.first s.length us (inside part k us s.first s.length a m l))
      ∙ sym (if_true (eqb (length us) (size_of part)) _ _ (eq-eqb (length us) (size_of part) l)) ∙ ap (λ (x : Phase). done_of (finish_of x part n.address) part rs us) (sym ph)

-- so many bytes are so many units
pub counted : (d : DeviceNumbers) (xs : List ℕ) → lent_in (device_in d).part.word (length xs) ≡ size_of (device_in d).part → length (units (device_in d).part.word xs) ≡ size_of (device_in d).part
counted d xs e =
    let l = lent_length (device_in d).part.word xs ∙ e in
    ap (λ (us : List ℕ). length us) (sym (lent_even (device_in d).part.word xs (sized_whole (device_in d) xs l))) ∙ l

module _ (d : DeviceNumbers) (n : StateNumbers) (b : BusNumbers) (xs rs : List ℕ) (o : Supplied d b (length xs)) (g : Ending d n b) where
  abbrev r : Running d n
  r = g.running

  abbrev D : Device
  D = device_in d

  abbrev C : Cycle
  C = cycle_in b

  abbrev word : Bool
  word = D.part.word

  abbrev S : State
  S = going d n r n.left

  -- the state at rest, and what is done
  abbrev T : State
  T = record { mode = Status; status = bit_or n.status 0x80; phase = Free; left = 0; address = 0; wear = wear_in n.wear }

  abbrev E : Effect
  E = end_in D.part n

  enough : (k : ℕ) → short_residue D.part S C k ≡ false
  unfolding short_residue
  enough k = simp (o.ordinary.up, o.supplied)

  settled : settle_of D.part S C.pins ≡ settled_as T E
  unfolding settle_of passed_of counted_off
  settled = simp (o.ordinary.up, o.supplied, r.busy, r.unheld, eq-eqb (n.left - 1) 0 (omega (arith, g.last)))

  pass : 0 ≡ judge_of D (state_in n) C (lent_in word (length xs)) (units_in word (length rs))
  pass = passes d n b xs rs o.ordinary.fair S (is_going d n r) (is_proper d n r) (enough (units_in word (length rs)))

  up_kind : (k : Kind) → C.kind ≡ k → decide_judged D S C ≡ decide_kind k D S C (settled_as T E)
  unfolding decide_judged
  up_kind k e = if_false (rp_low C.pins) _ _ o.ordinary.up ∙ (λ i. decide_kind (e i) D S C (settled i))

  -- for code: what is answered, and what is left
  pub ends : Does d n b xs rs E (ended_as n b.kind)
  ends = by_kind d n b xs rs S T E r.there (is_going d n r) pass up_kind refl o.ordinary.fair.kind g.unwritten
