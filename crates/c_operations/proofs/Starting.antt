-- The second write of a program and of an erase, with VPP not low, SR.3 clear and the address not locked: the operation starts.
use mathlib.Core.Path.{◌≡◌, refl, sym, ap, ◌∙◌}
use mathlib.Core.Bool.{Bool, true, false, not}
use mathlib.Core.List.{List, [], ◌∷◌}
use Prim.Native.Nat.{ℕ, suc, ◌-◌, ◌/◌, ◌%◌, ◌≤◌}
use native.Mathlib.Omega.{arith}
use lib.ListN.{length}
use lib.Dec.{eqb, ltb}
use lib.Bits.{bit_and, bit_or}
use borrow.Author.Tests.{eq-eqb, ne_eqb, le-ltb}
use Rattle.common.proofs.Choice.{if_false, if_ind, and_none}
use Rattle.units.specs.Units.{carried}
use Rattle.std.specs.Prelude.{if◌then◌else◌}
use Rattle.device.specs.Blocks.{holder}
use Rattle.device.specs.declared.Shape.{Shape}
use Rattle.device.proofs.Rows.{by_rows}
use Rattle.device.specs.Parts.{row_of, in_words, shape_of, lengths_of, size_in, mirrored, holder_in, block_in, block_of}
use Rattle.device.specs.declared.Part.{Part}
use Rattle.device.specs.declared.Device.{Device}
use Rattle.model_types.specs.declared.Mode.TheVariants.{Status}
use Rattle.model_types.specs.declared.Phase.TheVariants.{Free, EraseAwaited, DataAwaited, Programming, Erasing}
use Rattle.model_types.specs.declared.Phase.{Phase}
use Rattle.model_types.specs.declared.Action.{Action}
use Rattle.model_types.specs.declared.Action.TheVariants.{Confirm, Store}
use Rattle.model_types.specs.declared.Effect.TheVariants.{Nothing}
use Rattle.model_types.specs.declared.State.{State}
use Rattle.model_types.specs.declared.Cycle.{Cycle}
use Rattle.model_levels.specs.Levels.{rp_low, vpp_low, unlocked, locked}
use Rattle.model_states.specs.States.{proper, improper}
use Rattle.model_commands.specs.Commands.{action_of, after_erase, is_refuse}
use Rattle.model_operation.specs.Settling.{settled_as, settle_of}
use Rattle.model_types.specs.Status.{SR4, SR5}
use Rattle.model_actions.specs.Performed.{data_of, unsupplied, wear_by, started_of, performed_of}
use Rattle.model_judge.specs.Judging.{short_residue}
use Rattle.c_cycle.specs.Values.{device_in, mode_in, phase_in, stray_data, stray_suspend, no_state, wear_in, state_in, state_out, pins_in, oe_in, cycle_in}
use Rattle.c_cycle.specs.declared.DeviceNumbers.{DeviceNumbers}
use Rattle.c_cycle.specs.declared.StateNumbers.{StateNumbers}
use Rattle.c_cycle.specs.declared.BusNumbers.{BusNumbers}
use Rattle.c_ordinary.proofs.Passing.{Stands}
use Rattle.c_answers.specs.Answers.{written_as, worn_in}
use Rattle.c_operations.specs.Operations.{Awaiting, Starting, Barred, Supplied}
use Rattle.c_operations.proofs.Moving.{Told, writes}

-- what is awaited: the confirm of an erase, or the data of a program; its number, and the phase
abbrev pub awaits : Bool → ℕ
awaits true = 1
awaits false = 2

abbrev awaited : Bool → Phase
awaited true = EraseAwaited
awaited false = DataAwaited

module _ (d : DeviceNumbers) (n : StateNumbers) (b : BusNumbers) (xs rs : List ℕ) (o : Supplied d b (length xs)) (t : Bool) (r : Awaiting n (awaits t)) where
  abbrev D : Device
  D = device_in d

  abbrev C : Cycle
  C = cycle_in b

  abbrev S : Phase → State
  S ph = record { mode = Status; status = n.status; phase = ph; left = 0; address = 0; wear = wear_in n.wear }

  there_by : (u : Bool) → n.phase ≡ awaits u → no_state n ≡ false
  unfolding no_state stray_data stray_suspend
  there_by true e = simp (r.mode, e, r.unit, r.suspend)
  there_by false e = simp (r.mode, e, r.unit, r.suspend)

  there : no_state n ≡ false
  there = there_by t r.phase

  typed_by : (u : Bool) → n.phase ≡ awaits u → state_in n ≡ S (awaited u)
  unfolding state_in mode_in phase_in
  typed_by true e = simp (there, r.mode, e, r.left, r.address)
  typed_by false e = simp (there, r.mode, e, r.left, r.address)

  proper_by : (u : Bool) → improper D (S (awaited u)) ≡ false
  unfolding improper proper
  proper_by true =
      let top : n.status / 128 ≡ 1 = omega (arith, r.ready) in
      simp (top, r.ready, r.low)
  proper_by false =
      let top : n.status / 128 ≡ 1 = omega (arith, r.ready) in
      simp (top, r.ready, r.low)

  enough : (u : Bool) (k : ℕ) → short_residue D.part (S (awaited u)) C k ≡ false
  unfolding short_residue
  enough u k = simp (o.ordinary.up, o.supplied)

  settled_by_lem : (u : Bool) → settle_of D.part (S (awaited u)) C.pins ≡ settled_as (S (awaited u)) Nothing
  unfolding settle_of
  settled_by_lem true = simp (o.ordinary.up, o.supplied)
  settled_by_lem false = simp (o.ordinary.up, o.supplied)

  stands : Stands d n b (S (awaited t)) (S (awaited t))
  stands = record { typed = typed_by t r.phase; good = proper_by t; enough = enough t; settled = settled_by_lem t }

  -- the operation starts
  starts : n.status / 8 % 2 ≡ 0 → locked D.part C ≡ false → (ph : Phase) (time bit : ℕ) → started_of D.part C (S (awaited t)) ph time bit
      ≡ record { mode = Status; status = bit_and n.status 0x7F; phase = ph; left = time; address = b.address; wear = wear_by ph D.part C (wear_in n.wear) }
  unfolding started_of unsupplied
  starts clear free ph time bit = simp (o.supplied, clear, free)

  -- .. or is barred
  bars : n.status / 8 % 2 ≡ 0 → locked D.part C ≡ true → (ph : Phase) (time bit : ℕ) → started_of D.part C (S (awaited t)) ph time bit
      ≡ record { mode = Status; status = bit_or n.status bit; phase = Free; left = 0; address = 0; wear = wear_in n.wear }
  unfolding started_of unsupplied
  bars clear shut ph time bit = simp (o.supplied, clear, shut)

  tells : b.kind ≡ 1 → (a : Action) → action_of D.part (awaited t) (b.data % 256) ≡ a → is_refuse a ≡ false
      → Told d n b xs rs (record { seen = 0; value = 0; state = state_out (performed_of a D C (S (awaited t))) })
  tells k a e f = writes d n b xs rs o.ordinary (S (awaited t)) (S (awaited t)) stands there k a e f

-- for code: a program
pub started : (d : DeviceNumbers) (n : StateNumbers) (b : BusNumbers) (xs rs : List ℕ) → Supplied d b (length xs) → Starting d n b 2 → b.kind ≡ 1
    → (unit : ℕ) → unit ≡ carried (device_in d).part.word b.data
    → Told d n b xs rs (written_as n.wear 1 (bit_and n.status 0x7F) 3 0 d.program unit b.address)
unfolding data_of
started d n b xs rs o g k unit u =
    let t = tells d n b xs rs o false g.awaiting k Store refl refl in
    let f = starts d n b xs rs o false g.awaiting g.clear g.unlocked (Programming (data_of (device_in d).part (cycle_in b))) d.program SR4 in
    ((λ i. written_as n.wear 1 (bit_and n.status 0x7F) 3 0 d.program (u i) b.address) ∙ (λ i. record { seen = 0; value = 0; state = state_out (sym f i) }) ∙ t.0, t.1)

-- for code: an erase, which is counted at its block
pub confirmed : (d : DeviceNumbers) (n : StateNumbers) (b : BusNumbers) (xs rs : List ℕ) → Supplied d b (length xs) → Starting d n b 1 → b.kind ≡ 1
    → b.data % 256 ≡ 0xD0 → (k : ℕ) → k ≡ block_of (device_in d).part b.address
    → Told d n b xs rs (written_as (worn_in n.wear k) 1 (bit_and n.status 0x7F) 4 0 d.erase 0 b.address)
unfolding after_erase
confirmed d n b xs rs o g w e k u =
    let asks : after_erase (b.data % 256) ≡ Confirm = simp e in
    let t = tells d n b xs rs o true g.awaiting w Confirm asks refl in
    let f = starts d n b xs rs o true g.awaiting g.clear g.unlocked Erasing d.erase SR5 in
    ((λ i. written_as (worn_in n.wear (u i)) 1 (bit_and n.status 0x7F) 4 0 d.erase 0 b.address) ∙ (λ i. record { seen = 0; value = 0; state = state_out (sym f i) }) ∙ t.0, t.1)

-- for code: a program that is barred
pub data_barred : (d : DeviceNumbers) (n : StateNumbers) (b : BusNumbers) (xs rs : List ℕ) → Supplied d b (length xs) → Barred d n b 2 → b.kind ≡ 1
    → Told d n b xs rs (written_as n.wear 1 (bit_or n.status 0x10) 0 0 0 0 0)
data_barred d n b xs rs o g k =
    let t = tells d n b xs rs o false g.awaiting k Store refl refl in
    let f = bars d n b xs rs o false g.awaiting g.clear g.locked (Programming (data_of (device_in d).part (cycle_in b))) d.program SR4 in
    ((λ i. record { seen = 0; value = 0; state = state_out (sym f i) }) ∙ t.0, t.1)

-- for code: an erase that is barred
pub confirm_barred : (d : DeviceNumbers) (n : StateNumbers) (b : BusNumbers) (xs rs : List ℕ) → Supplied d b (length xs) → Barred d n b 1 → b.kind ≡ 1
    → b.data % 256 ≡ 0xD0 → Told d n b xs rs (written_as n.wear 1 (bit_or n.status 0x20) 0 0 0 0 0)
unfolding after_erase
confirm_barred d n b xs rs o g w e =
    let asks : after_erase (b.data % 256) ≡ Confirm = simp e in
    let t = tells d n b xs rs o true g.awaiting w Confirm asks refl in
    let f = bars d n b xs rs o true g.awaiting g.clear g.locked Erasing d.erase SR5 in
    ((λ i. record { seen = 0; value = 0; state = state_out (sym f i) }) ∙ t.0, t.1)

-- for code: another block than the boot block is not locked, and neither is what is unlocked
pub block_open : (part : Part) (c : Cycle) (k : ℕ) → k ≡ block_of part c.address → (k ≡ 0 → ⊥) → locked part c ≡ false
unfolding locked
block_open part c k e z = simp (ap (λ (x : ℕ). eqb x 0) (sym e) ∙ ne_eqb k 0 z, and_none (not (unlocked part c.pins c.oe)))

pub level_open : (part : Part) (b : BusNumbers) → b.kind ≡ 1 → unlocked part (pins_in b.rp b.wp b.vpp) b.oe ≡ true → locked part (cycle_in b) ≡ false
unfolding locked oe_in
level_open part b k e =
    let q : oe_in b.kind b.oe ≡ b.oe = if_false (ltb 2 b.kind) 2 b.oe (le-ltb 2 b.kind (omega (arith, k))) in
    let u : unlocked part (cycle_in b).pins (cycle_in b).oe ≡ true = ap (λ (x : ℕ). unlocked part (pins_in b.rp b.wp b.vpp) x) q ∙ e in
    simp u

-- for code: the boot block that nothing unlocks is locked
pub level_shut : (part : Part) (b : BusNumbers) → b.kind ≡ 1 → unlocked part (pins_in b.rp b.wp b.vpp) b.oe ≡ false
    → 0 ≡ block_of part b.address → locked part (cycle_in b) ≡ true
unfolding locked oe_in
level_shut part b k e z =
    let q : oe_in b.kind b.oe ≡ b.oe = if_false (ltb 2 b.kind) 2 b.oe (le-ltb 2 b.kind (omega (arith, k))) in
    let u : unlocked part (cycle_in b).pins (cycle_in b).oe ≡ false = ap (λ (x : ℕ). unlocked part (pins_in b.rp b.wp b.vpp) x) q ∙ e in
    simp (u, sym z)

-- there are seven blocks at most
holder_most : (ls : List ℕ) (p : ℕ) → holder ls p ≤ length ls
holder_most [] p = omega arith
holder_most (l ∷ ls) p = go (ltb p l) (holder_most ls (p - l))
  where
    go : (t : Bool) → holder ls (p - l) ≤ length ls → (if t then 0 else suc (holder ls (p - l))) ≤ suc (length ls)
    go true h = omega arith
    go false h = omega (arith, h)

-- every part has seven lengths
seven_lengths : (part : Part) → length (lengths_of (shape_of part)) ≡ 7
unfolding shape_of row_of in_words
seven_lengths part =
    let Long : Shape → Type 0 = λ s. length (lengths_of s) ≡ 7 in
    if_ind Long part.word (in_words (row_of part.number)) (row_of part.number)
    (λ e. by_rows (λ s. Long (in_words s)) refl refl refl refl refl refl refl refl refl part.number)
    (λ e. by_rows Long refl refl refl refl refl refl refl refl refl part.number)

-- for code: the number of a block is none of those that stand for something else
pub block_most : (part : Part) (a : ℕ) → block_of part a ≤ 7
unfolding block_of block_in holder_in
block_most part a =
    let h = holder_most (lengths_of (shape_of part)) (mirrored (shape_of part).top (size_in (shape_of part)) a) in
    omega (arith, h, seven_lengths part)
