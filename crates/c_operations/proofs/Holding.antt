-- A supplied cycle while a suspend is under way, and a write while an erase is suspended.
use mathlib.Core.Path.{◌≡◌, refl, sym, ap, ◌∙◌}
use mathlib.Core.Bool.{true, false, not, ◌||◌}
use mathlib.Core.List.{List}
use Prim.Native.Nat.{ℕ, zero, suc, ◌-◌, ◌/◌, ◌%◌, ◌≤◌, ◌<◌}
use native.Mathlib.Omega.{arith}
use lib.ListN.{length, get_or}
use lib.Dec.{eqb}
use lib.Bits.{bit_and, bit_or}
use borrow.Author.Tests.{eq-eqb, ne_eqb, lt-ltb, le-leb, le-ltb}
use Rattle.common.proofs.Choice.{and_none}
use Rattle.units.specs.Units.{units}
use Rattle.device.specs.declared.Device.{Device}
use Rattle.device.specs.Parts.{size_of, block_of}
use Rattle.model_types.specs.declared.Kind.TheVariants.{Read}
use Rattle.model_types.specs.declared.Mode.{Mode}
use Rattle.model_types.specs.declared.Mode.TheVariants.{Array, Status}
use Rattle.model_types.specs.declared.Phase.TheVariants.{Suspending as Holding, Suspended as Held}
use Rattle.model_types.specs.declared.Action.{Action}
use Rattle.model_types.specs.declared.Action.TheVariants.{ToArray, ToStatus, Resume}
use Rattle.model_types.specs.declared.Effect.TheVariants.{Nothing}
use Rattle.model_types.specs.declared.Reply.{Reply}
use Rattle.model_types.specs.declared.Reply.TheVariants.{Gives, GivesArray, Refuses}
use Rattle.model_types.specs.declared.State.{State}
use Rattle.model_types.specs.declared.Cycle.{Cycle}
use Rattle.model_levels.specs.Levels.{rp_low, vpp_low}
use Rattle.model_states.specs.States.{proper, improper, is_array, is_status}
use Rattle.model_operation.specs.Settling.{settled_as, settle_of, passed_of, suspend_passed}
use Rattle.model_commands.specs.Commands.{while_suspended}
use Rattle.model_judge.specs.Judging.{short_residue}
use Rattle.model_rules.specs.Cycles.{decided_as}
use Rattle.model_rules.specs.Inner.{in_suspended, decide_array, decide_read, decide_judged}
use Rattle.model.specs.Arrays.{seen_of}
use Rattle.c_cycle.specs.Values.{device_in, mode_in, phase_in, stray_data, stray_suspend, no_state, wear_in, state_in, state_out, kind_in, cycle_in}
use Rattle.c_cycle.specs.Answers.{state_back, answer_out}
use Rattle.c_cycle.specs.declared.DeviceNumbers.{DeviceNumbers}
use Rattle.c_cycle.specs.declared.StateNumbers.{StateNumbers}
use Rattle.c_cycle.specs.declared.BusNumbers.{BusNumbers}
use Rattle.c_cycle.proofs.Border.{state_numbers}
use Rattle.c_ordinary.proofs.Passing.{Stands}
use Rattle.c_ordinary.proofs.Passing as passing
use Rattle.c_answers.specs.Answers.{polled_as, written_as, given_as, refused_as, seen_in, shown_in}
use Rattle.c_operations.specs.Operations.{Suspending, Suspended, Supplied}
use Rattle.c_operations.proofs.Moving.{Told, told_by, polls, writes}

-- a suspend is under way
module _ (d : DeviceNumbers) (n : StateNumbers) (b : BusNumbers) (xs rs : List ℕ) (o : Supplied d b (length xs)) (r : Suspending d n) where
  abbrev D : Device
  D = device_in d

  abbrev C : Cycle
  C = cycle_in b

  abbrev S : State
  S = record { mode = Status; status = n.status; phase = Holding n.suspend; left = n.left; address = n.address; wear = wear_in n.wear }

  there : no_state n ≡ false
  unfolding no_state stray_data stray_suspend
  there = simp (r.mode, r.phase, r.unit, and_none (not (eqb n.suspend 0)))

  typed : state_in n ≡ S
  unfolding state_in mode_in phase_in
  typed = simp (there, r.mode, r.phase)

  is_proper : improper D S ≡ false
  unfolding improper proper
  is_proper =
      let top : n.status / 128 ≡ 0 = omega (arith, r.unready) in
      simp (top, r.unready, r.low, le-leb 1 n.left r.more, le-leb n.left d.erase r.most, le-leb 1 n.suspend r.some, le-leb n.suspend d.suspend r.within, lt-ltb n.address (size_of D.part) r.inside)

  enough : (k : ℕ) → short_residue D.part S C k ≡ false
  unfolding short_residue
  enough k = simp (o.ordinary.up, o.supplied)

  -- its last cycle
  abbrev T : State
  T = record { mode = Status; status = bit_or n.status 0xC0; phase = Held; left = n.left; address = n.address; wear = wear_in n.wear }

  settled_last : n.suspend ≡ 1 → settle_of D.part S C.pins ≡ settled_as T Nothing
  unfolding settle_of passed_of suspend_passed
  settled_last e = simp (o.ordinary.up, o.supplied, eq-eqb (n.suspend - 1) 0 (omega (arith, e)))

  pub held_last : n.suspend ≡ 1 → eqb b.kind 1 ≡ false → Told d n b xs rs (polled_as n b.kind (bit_or n.status 0xC0) 5 0 n.left)
  held_last e z =
      let t = polls d n b xs rs o.ordinary S T (record { typed = typed; good = is_proper; enough = enough; settled = settled_last e }) there refl z in
      ((λ i. record { seen = seen_in b.kind; value = shown_in b.kind (bit_or n.status 0xC0); state = record { mode = 1; status = bit_or n.status 0xC0; phase = 5; suspend = 0; left = n.left; «data» = r.unit i; address = n.address; wear = n.wear } }) ∙ t.0, t.1)

  -- another of its cycles
  abbrev U : State
  U = record { mode = Status; status = n.status; phase = Holding (n.suspend - 1); left = n.left; address = n.address; wear = wear_in n.wear }

  settled_more : (n.suspend ≡ 1 → ⊥) → settle_of D.part S C.pins ≡ settled_as U Nothing
  unfolding settle_of passed_of suspend_passed
  settled_more e = simp (o.ordinary.up, o.supplied, ne_eqb (n.suspend - 1) 0 (λ (q : n.suspend - 1 ≡ 0). e (omega (arith, q, r.some))))

  pub held_more : (n.suspend ≡ 1 → ⊥) → eqb b.kind 1 ≡ false → Told d n b xs rs (polled_as n b.kind n.status 6 (n.suspend - 1) n.left)
  held_more e z =
      let t = polls d n b xs rs o.ordinary S U (record { typed = typed; good = is_proper; enough = enough; settled = settled_more e }) there refl z in
      ((λ i. record { seen = seen_in b.kind; value = shown_in b.kind n.status; state = record { mode = 1; status = n.status; phase = 6; suspend = n.suspend - 1; left = n.left; «data» = r.unit i; address = n.address; wear = n.wear } }) ∙ t.0, t.1)

-- read array or read status
either : (m : ℕ) → m ≤ 1 → (is_array (mode_in m) || is_status (mode_in m)) ≡ true
unfolding mode_in
either zero l = refl
either (suc zero) l = refl
either (suc (suc m)) l = absurd (omega arith)

-- an erase is suspended
module _ (d : DeviceNumbers) (n : StateNumbers) (b : BusNumbers) (xs rs : List ℕ) (o : Supplied d b (length xs)) (r : Suspended d n) where
  abbrev D₂ : Device
  D₂ = device_in d

  abbrev C₂ : Cycle
  C₂ = cycle_in b

  abbrev S₂ : State
  S₂ = record { mode = mode_in n.mode; status = n.status; phase = Held; left = n.left; address = n.address; wear = wear_in n.wear }

  there₂ : no_state n ≡ false
  unfolding no_state stray_data stray_suspend
  there₂ = simp (le-ltb 2 n.mode (omega (arith, r.mode)), r.phase, r.unit, r.suspend)

  typed₂ : state_in n ≡ S₂
  unfolding state_in phase_in
  typed₂ = simp (there₂, r.phase)

  shows : (is_array (mode_in n.mode) || is_status (mode_in n.mode)) ≡ true
  shows = either n.mode r.mode

  is_proper₂ : improper D₂ S₂ ≡ false
  unfolding improper proper
  is_proper₂ =
      let top : n.status / 128 ≡ 1 = omega (arith, r.held) in
      simp (shows, top, r.held, r.low, le-leb 1 n.left r.more, le-leb n.left d.erase r.most, lt-ltb n.address (size_of D₂.part) r.inside)

  enough₂ : (k : ℕ) → short_residue D₂.part S₂ C₂ k ≡ false
  unfolding short_residue
  enough₂ k = simp (o.ordinary.up, o.supplied)

  settled₂ : settle_of D₂.part S₂ C₂.pins ≡ settled_as S₂ Nothing
  unfolding settle_of
  settled₂ = simp (o.ordinary.up, o.supplied)

  stands₂ : Stands d n b S₂ S₂
  stands₂ = record { typed = typed₂; good = is_proper₂; enough = enough₂; settled = settled₂ }

  pub held_array : b.kind ≡ 1 → b.data % 256 ≡ 0xFF → Told d n b xs rs (written_as n.wear 0 n.status 5 0 n.left 0 n.address)
  unfolding while_suspended
  held_array k e = let a : while_suspended (b.data % 256) ≡ ToArray = simp e in writes d n b xs rs o.ordinary S₂ S₂ stands₂ there₂ k ToArray a refl

  pub held_status : b.kind ≡ 1 → b.data % 256 ≡ 0x70 → Told d n b xs rs (written_as n.wear 1 n.status 5 0 n.left 0 n.address)
  unfolding while_suspended
  held_status k e = let a : while_suspended (b.data % 256) ≡ ToStatus = simp e in writes d n b xs rs o.ordinary S₂ S₂ stands₂ there₂ k ToStatus a refl

  pub resumes : b.kind ≡ 1 → b.data % 256 ≡ 0xD0 → Told d n b xs rs (written_as n.wear 1 (bit_and n.status 0x3F) 4 0 n.left 0 n.address)
  unfolding while_suspended
  resumes k e = let a : while_suspended (b.data % 256) ≡ Resume = simp e in writes d n b xs rs o.ordinary S₂ S₂ stands₂ there₂ k Resume a refl

  numbers : state_out S₂ ≡ n
  numbers = ap state_out (sym typed₂) ∙ state_numbers n there₂

  -- a read: the status, a unit of another block, or refusal 8
  gives : (reply : Reply) (seen v : ℕ) → decide_judged D₂ S₂ C₂ ≡ decided_as reply S₂ Nothing
      → answer_out n (record { seen = seen_of reply (units D₂.part.word xs); state = S₂ }) ≡ record { seen = seen; value = v; state = state_back n S₂ }
      → Told d n b xs rs (record { seen = seen; value = v; state = n })
  gives reply seen v e f =
      let t = told_by d n b xs rs o.ordinary S₂ S₂ stands₂ there₂ reply S₂ seen v e f in
      ((λ i. record { seen = seen; value = v; state = sym numbers i }) ∙ t.0, t.1)

  reads₂ : b.kind ≡ 0 → (m : Mode) → mode_in n.mode ≡ m → decide_judged D₂ S₂ C₂ ≡ decide_read m D₂.part S₂ C₂ (settled_as S₂ Nothing)
  unfolding kind_in
  reads₂ k m e =
      passing.up_kind d n b xs rs o.ordinary S₂ S₂ stands₂ Read (passing.kind_is d n b xs rs o.ordinary S₂ S₂ stands₂ 0 k)
      ∙ ap (λ (x : Mode). decide_read x D₂.part S₂ C₂ (settled_as S₂ Nothing)) e

  pub held_gives_status : b.kind ≡ 0 → n.mode ≡ 1 → (v : ℕ) → v ≡ n.status → Told d n b xs rs (given_as n v)
  unfolding mode_in
  held_gives_status k m v e = gives (Gives n.status) 1 v (reads₂ k Status (simp m)) (λ i. record { seen = 1; value = sym e i; state = state_back n S₂ })

  pub held_gives_unit : b.kind ≡ 0 → (n.mode ≡ 1 → ⊥) → eqb (block_of D₂.part b.address) (block_of D₂.part n.address) ≡ false
      → (v : ℕ) → v ≡ get_or (units D₂.part.word xs) b.address 0 → Told d n b xs rs (given_as n v)
  unfolding mode_in decide_array in_suspended
  held_gives_unit k m away v e =
      let z : n.mode ≡ 0 = omega (arith, r.mode, m) in
      gives (GivesArray b.address) 1 v (reads₂ k Array (simp z) ∙ simp away) (λ i. record { seen = 1; value = sym e i; state = state_back n S₂ })

  pub held_refused_lem : b.kind ≡ 0 → (n.mode ≡ 1 → ⊥) → eqb (block_of D₂.part b.address) (block_of D₂.part n.address) ≡ true
      → Told d n b xs rs (refused_as n 8)
  unfolding mode_in decide_array in_suspended
  held_refused_lem k m there =
      let z : n.mode ≡ 0 = omega (arith, r.mode, m) in
      gives (Refuses 8) 2 8 (reads₂ k Array (simp z) ∙ simp there) refl
