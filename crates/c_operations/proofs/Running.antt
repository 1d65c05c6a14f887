-- An ordinary cycle while an operation is running that has more than this cycle to go: one cycle is counted off, and a read gives the
-- status.
use mathlib.Core.Path.{◌≡◌, refl, sym, ap, ◌∙◌}
use mathlib.Core.Bool.{true, false, not}
use mathlib.Core.List.{List}
use Prim.Native.Nat.{ℕ, ◌-◌, ◌/◌, ◌%◌, ◌≤◌, ◌<◌}
use native.Mathlib.Omega.{arith}
use lib.ListN.{length}
use lib.Dec.{eqb}
use borrow.Author.Tests.{ne_eqb, lt-ltb, le-leb}
use Rattle.common.proofs.Choice.{and_none, unlike}
use Rattle.device.specs.declared.Device.{Device}
use Rattle.device.specs.Parts.{size_of}
use Rattle.model_types.specs.declared.Mode.TheVariants.{Status}
use Rattle.model_types.specs.declared.Phase.{Phase}
use Rattle.model_types.specs.declared.Phase.TheVariants.{Free, EraseAwaited, DataAwaited, Programming, Erasing, Suspending, Suspended}
use Rattle.model_types.specs.declared.Action.TheVariants.{Suspend}
use Rattle.model_types.specs.declared.Effect.TheVariants.{Nothing}
use Rattle.model_types.specs.declared.State.{State}
use Rattle.model_types.specs.declared.Cycle.{Cycle}
use Rattle.model_levels.specs.Levels.{rp_low, vpp_low}
use Rattle.model_types.specs.Phases.{is_awaited, is_busy, is_suspending, is_suspended, is_pending}
use Rattle.model_states.specs.States.{proper, improper, most_left}
use Rattle.model_operation.specs.Settling.{settled_as, settle_of, passed_of, counted_off}
use Rattle.model_commands.specs.Commands.{action_of, while_erasing}
use Rattle.model_judge.specs.Judging.{short_residue}
use Rattle.c_cycle.specs.Values.{device_in, mode_in, phase_in, stray_data, stray_suspend, no_state, wear_in, state_in, state_out, cycle_in}
use Rattle.c_cycle.specs.declared.DeviceNumbers.{DeviceNumbers}
use Rattle.c_cycle.specs.declared.StateNumbers.{StateNumbers}
use Rattle.c_cycle.specs.declared.BusNumbers.{BusNumbers}
use Rattle.c_cycle.proofs.Border.{state_numbers}
use Rattle.c_ordinary.specs.Ordinary.{Ordinary}
use Rattle.c_ordinary.proofs.Passing.{Stands}
use Rattle.c_answers.specs.Answers.{polled_as, written_as, seen_in, shown_in}
use Rattle.c_operations.specs.Operations.{Running, phase_of}
use Rattle.c_operations.proofs.Moving.{Told, polls, writes}

-- what is busy is an operation under way, not suspended, and awaits nothing
pub pending : (ph : Phase) → is_busy ph ≡ true → (is_pending ph ≡ true) × (is_suspended ph ≡ false) × (is_awaited ph ≡ false)
pending Free e = absurd (unlike (sym e))
pending EraseAwaited e = absurd (unlike (sym e))
pending DataAwaited e = absurd (unlike (sym e))
pending (Programming b) e = (refl, refl, refl)
pending Erasing e = (refl, refl, refl)
pending (Suspending n) e = (refl, refl, refl)
pending Suspended e = absurd (unlike (sym e))

-- a program that is running, and an erase, by the numbers
module _ (d : DeviceNumbers) (n : StateNumbers) (m : n.mode ≡ 1) (u : n.suspend ≡ 0) (l : n.status % 8 ≡ 0) (r : n.status / 64 ≡ 0) (k : 0 < n.left) (i : n.address < size_of (device_in d).part) where
  runs : no_state n ≡ false → is_busy (phase_of n) ≡ true → is_suspending (phase_of n) ≡ false → n.left ≤ most_left (device_in d) (phase_of n) → ((n.phase ≡ 3 → ⊥) → n.phase ≡ 4) → Running d n
  runs t b h q e = record { there = t; busy = b; unheld = h; mode = m; low = l; unready = r; more = k; most = q; inside = i; erases = e }

  pub programming : n.phase ≡ 3 → n.left ≤ d.program → Running d n
  unfolding no_state stray_data stray_suspend phase_in
  programming p q = runs (simp (m, p, u, and_none (not (eqb n.data 0)))) (simp p) (simp p) (simp p q) (λ f. absurd (f p))

  pub erasing : n.phase ≡ 4 → n.data ≡ 0 → n.left ≤ d.erase → Running d n
  unfolding no_state stray_data stray_suspend phase_in
  erasing p z q = runs (simp (m, p, u, z)) (simp p) (simp p) (simp p q) (λ f. p)

module _ (d : DeviceNumbers) (n : StateNumbers) (r : Running d n) where
  abbrev ph : Phase
  ph = phase_of n

  -- the state that the numbers stand for, with so many cycles to go
  abbrev pub going : ℕ → State
  going left = record { mode = Status; status = n.status; phase = ph; left = left; address = n.address; wear = wear_in n.wear }

  pub is_going : state_in n ≡ going n.left
  unfolding state_in mode_in
  is_going = simp (r.there, r.mode)

  pub is_proper : improper (device_in d) (going n.left) ≡ false
  unfolding improper proper
  is_proper =
      let p = pending ph r.busy in
      let top : n.status / 128 ≡ 0 = omega (arith, r.unready) in
      simp (r.busy, r.unheld, p.0, p.1, p.2, top, r.unready, r.low, le-leb 1 n.left (omega (arith, r.more)), le-leb n.left (most_left (device_in d) ph) r.most, lt-ltb n.address (size_of (device_in d).part) r.inside)

  -- the numbers with fewer cycles to go
  pub out_again : (left : ℕ) → state_out (going left) ≡ record { mode = n.mode; status = n.status; phase = n.phase; suspend = n.suspend; left = left; «data» = n.data; address = n.address; wear = n.wear }
  out_again left =
      let e : state_out (going n.left) ≡ n = ap state_out (sym is_going) ∙ state_numbers n r.there in
      (λ i. record { mode = (e i).mode; status = n.status; phase = (e i).phase; suspend = (e i).suspend; left = left; «data» = (e i).data; address = n.address; wear = n.wear })

module _ (d : DeviceNumbers) (n : StateNumbers) (b : BusNumbers) (xs rs : List ℕ) (o : Ordinary d b (length xs)) (r : Running d n) (v : vpp_low (device_in d).part (cycle_in b).pins ≡ false) (m : 1 < n.left) where
  abbrev D : Device
  D = device_in d

  abbrev C : Cycle
  C = cycle_in b

  abbrev S : State
  S = going d n r n.left

  abbrev T : State
  T = going d n r (n.left - 1)

  enough : (k : ℕ) → short_residue D.part S C k ≡ false
  unfolding short_residue
  enough k = simp (o.up, v)

  settled : settle_of D.part S C.pins ≡ settled_as T Nothing
  unfolding settle_of passed_of counted_off
  settled = simp (o.up, v, r.busy, r.unheld, ne_eqb (n.left - 1) 0 (omega (arith, m)))

  stands : Stands d n b S T
  stands = record { typed = is_going d n r; good = is_proper d n r; enough = enough; settled = settled }

  -- for code: a poll
  pub polled : eqb b.kind 1 ≡ false → Told d n b xs rs (polled_as n b.kind n.status n.phase n.suspend (n.left - 1))
  polled z =
      let t = polls d n b xs rs o S T stands r.there refl z in
      ((λ i. record { seen = seen_in b.kind; value = shown_in b.kind n.status; state = back i }) ∙ t.0, t.1)
    where
      back : record { mode = 1; status = n.status; phase = n.phase; suspend = n.suspend; left = n.left - 1; «data» = n.data; address = n.address; wear = n.wear } ≡ state_out T
      back = (λ i. record { mode = sym r.mode i; status = n.status; phase = n.phase; suspend = n.suspend; left = n.left - 1; «data» = n.data; address = n.address; wear = n.wear }) ∙ sym (out_again d n r (n.left - 1))

  -- for code: B0H while an erase is busy
  pub suspends : b.kind ≡ 1 → n.phase ≡ 4 → b.data % 256 ≡ 0xB0 → Told d n b xs rs (written_as n.wear 1 n.status 6 d.suspend (n.left - 1) 0 n.address)
  unfolding phase_in while_erasing
  suspends k p e =
      let erases : phase_of n ≡ Erasing = simp p in
      let asks : while_erasing (b.data % 256) ≡ Suspend = simp e in
      writes d n b xs rs o S T stands r.there k Suspend (ap (λ (x : Phase). action_of D.part x (b.data % 256)) erases ∙ asks) refl
