-- A cycle with RP# low, or with VPP low while an operation is running: what the cut leaves.
use mathlib.Core.Path.{◌≡◌, refl, sym, ap, subst, ◌∙◌}
use mathlib.Core.Bool.{Bool, true, false, ◌&&◌, ◌||◌}
use mathlib.Core.List.{List}
use Prim.Native.Nat.{ℕ, ◌≤◌, ◌<◌}
use lib.ListN.{length, get_or, set}
use lib.Dec.{eqb, ltb, leb}
use lib.Bits.{bit_and, bit_or}
use native.Mathlib.Omega.{arith}
use borrow.Author.Tests.{eq-eqb, lt-ltb, le-ltb, le-leb}
use Rattle.std.specs.Prelude.{if◌then◌else◌}
use Rattle.common.proofs.Choice.{if_true, if_false, and_none}
use Rattle.units.specs.Units.{units, lent_in, units_in, left_in}
use Rattle.units.proofs.Widths.{left_there}
use Rattle.device.specs.declared.Part.{Part}
use Rattle.device.specs.declared.Span.{Span}
use Rattle.device.specs.declared.Device.{Device}
use Rattle.device.specs.Parts.{size_of, block_of, length_of}
use Rattle.device.specs.Inner.{span_of}
use Rattle.model_types.specs.declared.Kind.{Kind}
use Rattle.model_types.specs.declared.Mode.TheVariants.{Status}
use Rattle.model_types.specs.declared.Phase.{Phase}
use Rattle.model_types.specs.declared.Phase.TheVariants.{Programming, Erasing}
use Rattle.model_types.specs.declared.Effect.{Effect}
use Rattle.model_types.specs.declared.Effect.TheVariants.{Nothing}
use Rattle.model_types.specs.declared.Reply.TheVariants.{Quiet}
use Rattle.model_types.specs.declared.State.{State}
use Rattle.model_types.specs.declared.Cycle.{Cycle}
use Rattle.model_levels.specs.Levels.{rp_low, vpp_low}
use Rattle.model_states.specs.States.{is_at_rest, reset_of}
use Rattle.model_operation.specs.Settling.{cut_of, cut_bits, cut_by, residue_for, settled_as, settle_of}
use Rattle.model_judge.specs.Judging.{short_residue, judge_of}
use Rattle.model_rules.specs.Cycles.{decided_as}
use Rattle.model_rules.specs.Inner.{decide_kind, decide_judged}
use Rattle.model.specs.Inner.{done_of}
use Rattle.model.proofs.Overlay.{inside, enough, left_over}
use Rattle.c_cycle.specs.Values.{device_in, phase_in, state_in, cycle_in}
use Rattle.c_cycle.specs.declared.DeviceNumbers.{DeviceNumbers}
use Rattle.c_cycle.specs.declared.StateNumbers.{StateNumbers}
use Rattle.c_cycle.specs.declared.BusNumbers.{BusNumbers}
use Rattle.c_cycle.specs.declared.AnswerNumbers.{AnswerNumbers}
use Rattle.c_ordinary.specs.Ordinary.{Fair, Resting, rested_as}
use Rattle.c_ordinary.proofs.Passing.{passes}
use Rattle.c_ordinary.proofs.Rest as rests
use Rattle.c_answers.specs.Answers.{cut_status, cut_as, seen_in, shown_in}
use Rattle.c_operations.specs.Operations.{Running, Cutting, phase_of, cut_in, cut_takes}
use Rattle.c_operations.proofs.Running.{pending, going, is_going, is_proper}
use Rattle.c_operations.proofs.Doing.{Does, does, by_kind}

-- the units after a cut are those that the effect leaves
module _ (part : Part) (n : StateNumbers) (us rs : List ℕ) where
  pub program_left : n.phase ≡ 3 → n.address < length us → 0 < length rs → (vs : List ℕ)
      → vs ≡ set us n.address (bit_and (get_or us n.address 0) (bit_or n.data (get_or rs 0 0))) → vs ≡ done_of (cut_in part n) part rs us
  unfolding phase_in
  program_left p l m vs e =
      let ph : phase_of n ≡ Programming n.data = simp p in
      e ∙ sym (if_true (ltb n.address (length us) && ltb 0 (length rs)) _ us (simp (lt-ltb n.address (length us) l, lt-ltb 0 (length rs) m)))
      ∙ ap (λ (x : Phase). done_of (cut_of x part n.address) part rs us) (sym ph)

  pub block_left : n.phase ≡ 4 → length us ≡ size_of part → (s : Span) → s ≡ span_of part (block_of part n.address) → s.length ≤ length rs → (vs : List ℕ)
      → vs ≡ left_in s.first s.length rs us → vs ≡ done_of (cut_in part n) part rs us
  unfolding phase_in
  block_left p l s q m vs e =
      let k = block_of part n.address in
      let ph : phase_of n ≡ Erasing = simp p in
      let a = ap (λ (x : Span). x.first) q in
      let c = ap (λ (x : Span). x.length) q in
      left_over part k us s.first s.length a c rs vs (e ∙ left_there s.first s.length rs us (inside part k us s.first s.length a c l) m)
      ∙ sym (if_true (eqb (length us) (size_of part) && leb (length_of part k) (length rs)) _ us (simp (eq-eqb (length us) (size_of part) l, le-leb (length_of part k) (length rs) (omega (arith, m, c)))))
      ∙ ap (λ (x : Phase). done_of (cut_of x part n.address) part rs us) (sym ph)

-- the residue that a cut takes, and the bits that it sets
pub program_takes : (part : Part) (n : StateNumbers) (k : ℕ) → n.phase ≡ 3 → 1 ≤ k → cut_takes part n ≤ k
unfolding phase_in
program_takes part n k p l =
    let ph : phase_of n ≡ Programming n.data = simp p in
    subst (λ (x : Phase). residue_for x part n.address ≤ k) (sym ph) l

pub block_takes : (part : Part) (n : StateNumbers) (k : ℕ) → n.phase ≡ 4 → (s : Span) → s ≡ span_of part (block_of part n.address) → s.length ≤ k → cut_takes part n ≤ k
unfolding phase_in
block_takes part n k p s q l =
    let ph : phase_of n ≡ Erasing = simp p in
    let c = ap (λ (x : Span). x.length) q in
    subst (λ (x : Phase). residue_for x part n.address ≤ k) (sym ph) (omega (arith, l, c))

-- a cut of what is running
module _ (d : DeviceNumbers) (n : StateNumbers) (b : BusNumbers) (xs rs : List ℕ) (f : Fair d b (length xs)) (r : Running d n) (z : Cutting d b) (takes : cut_takes (device_in d).part n ≤ units_in (device_in d).part.word (length rs)) where
  abbrev D : Device
  D = device_in d

  abbrev C : Cycle
  C = cycle_in b

  abbrev S : State
  S = going d n r n.left

  abbrev E : Effect
  E = cut_in D.part n

  short : short_residue D.part S C (units_in D.part.word (length rs)) ≡ false
  unfolding short_residue
  short = simp (le-ltb (units_in D.part.word (length rs)) (cut_takes D.part n) takes, and_none (rp_low C.pins || vpp_low D.part C.pins))

  pass : 0 ≡ judge_of D (state_in n) C (lent_in D.part.word (length xs)) (units_in D.part.word (length rs))
  pass = passes d n b xs rs f S (is_going d n r) (is_proper d n r) short

  -- by RP#
  resets : eqb b.rp 0 ≡ true → Does d n b xs rs E (rested_as n 0 0 0 0x80 0)
  unfolding decide_judged settle_of
  resets e =
      let q : decide_judged D S C ≡ decided_as Quiet (reset_of S) E = simp e in
      does d n b xs rs S (reset_of S) E r.there (is_going d n r) pass Quiet q 0 0 refl

  -- by VPP
  abbrev T : State
  T = is_at_rest S Status (cut_status n.status (cut_bits (phase_of n)))

  settled : eqb b.rp 0 ≡ false → settle_of D.part S C.pins ≡ settled_as T E
  unfolding settle_of cut_by
  settled e = simp (e, z.low e, (pending (phase_of n) r.busy).0)

  up_kind : eqb b.rp 0 ≡ false → (k : Kind) → C.kind ≡ k → decide_judged D S C ≡ decide_kind k D S C (settled_as T E)
  unfolding decide_judged
  up_kind e k q = if_false (rp_low C.pins) _ _ e ∙ (λ i. decide_kind (q i) D S C (settled e i))

  falls : eqb b.rp 0 ≡ false → Does d n b xs rs E (rested_as n (seen_in b.kind) (shown_in b.kind T.status) 1 T.status 0)
  falls e = by_kind d n b xs rs S T E r.there (is_going d n r) pass (up_kind e) refl f.kind (z.unwritten e)

  -- for code
  pub cuts : (bits : ℕ) → bits ≡ cut_bits (phase_of n) → Does d n b xs rs E (cut_as n b bits)
  unfolding cut_as
  cuts bits q = subst (λ (x : ℕ). Does d n b xs rs E (if eqb b.rp 0 then rested_as n 0 0 0 0x80 0 else rested_as n (seen_in b.kind) (shown_in b.kind (cut_status n.status x)) 1 (cut_status n.status x) 0)) (sym q) (go (eqb b.rp 0) refl)
    where
      go : (t : Bool) → eqb b.rp 0 ≡ t → Does d n b xs rs E (if t then rested_as n 0 0 0 0x80 0 else rested_as n (seen_in b.kind) (shown_in b.kind T.status) 1 T.status 0)
      go true e = resets e
      go false e = falls e

-- the bits
pub program_bits : (n : StateNumbers) → n.phase ≡ 3 → 0x98 ≡ cut_bits (phase_of n)
unfolding phase_in
program_bits n p = let ph : phase_of n ≡ Programming n.data = simp p in ap cut_bits (sym ph)

pub erase_bits : (n : StateNumbers) → n.phase ≡ 4 → 0xA8 ≡ cut_bits (phase_of n)
unfolding phase_in
erase_bits n p = let ph : phase_of n ≡ Erasing = simp p in ap cut_bits (sym ph)

-- for code: a reset at rest
pub resets_rest : (d : DeviceNumbers) (n : StateNumbers) (b : BusNumbers) (xs rs : List ℕ) → Fair d b (length xs) → Resting n → eqb b.rp 0 ≡ true
    → Does d n b xs rs Nothing (rested_as n 0 0 0 0x80 0)
unfolding short_residue decide_judged settle_of
resets_rest d n b xs rs f r e =
    let D = device_in d in
    let C = cycle_in b in
    let S = rests.rest n r in
    let short : short_residue D.part S C (units_in D.part.word (length rs)) ≡ false = simp (le-ltb (units_in D.part.word (length rs)) 0 (omega arith), and_none (rp_low C.pins || vpp_low D.part C.pins)) in
    let pass = passes d n b xs rs f S (rests.at_rest n r) (rests.is_proper n r D) short in
    let q : decide_judged D S C ≡ decided_as Quiet (reset_of S) Nothing = simp e in
    does d n b xs rs S (reset_of S) Nothing (rests.there n r) (rests.at_rest n r) pass Quiet q 0 0 refl
