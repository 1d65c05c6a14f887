-- The data sheet's sentences that have several parts, each as a record with a field for each part.
use Rattle.std.specs.Prelude.{◌≡◌, true, false, List, ℕ, ◌+◌, ◌<◌, get_or, set, cond}
use Rattle.std.specs.Int.Bits.{bit_and, bit_or}
use Rattle.device.specs.declared.Device.{Device}
use Rattle.device.specs.Parts.{block_of}
use Rattle.model_types.specs.declared.Kind.TheVariants.{Read, Write, Idle}
use Rattle.model_types.specs.declared.Phase.TheVariants.{Programming}
use Rattle.model_types.specs.declared.Mode.TheVariants.{Array}
use Rattle.model_types.specs.declared.Effect.{Effect}
use Rattle.model_types.specs.declared.Effect.TheVariants.{Nothing, Program, Erase}
use Rattle.model_levels.specs.Levels.{rp_low, vpp_low, locked}
use Rattle.model_types.specs.Phases.{is_free, is_pending}
use Rattle.model_types.specs.Status.{SR7, SR3, with_bits, is_set}
use Rattle.model_states.specs.States.{is_at_rest, reset_of}
use Rattle.model_commands.specs.Commands.{command_of, first_write, is_refuse}
use Rattle.model_actions.specs.Performed.{performed_of, in_mode, unsupplied}
use Rattle.model.specs.declared.Seen.TheVariants.{Data, Refused}
use Rattle.model.specs.Arrays.{erased, residual}
use Rattle.model.specs.Begun.{pending_of, asked_by}
use Rattle.model_history.specs.History.{Bus, World, world_of, stepped, world_after, seen_on, seen_in, effect_by}
use Rattle.model_sheet.specs.Sheet.{Judged, Quietly, begun_at, is_erase, is_end, busy_time, after_begun, counted_after, IsLast, LastOf}
use Rattle.model_sheet.specs.Sheet.{Falls, end_state, cut_state, end_bytes, cut_bytes, is_ignored, unheard, goes_on, one_less, ErrorBit}
use Rattle.model_sheet.specs.Sheet.{clears, none_clears, is_confirm, Confirms, error_of, levelled, Comparable}

-- an operation that cycle b of v begins, over any cycles after it of which none cuts (R-second-4, R-cycle-5)
pub record Lasts (d : Device) (v : World) (b : Bus) (op : Effect) (bs : List Bus) : Type 0 where
  -- as long as fewer cycles than its time have counted it is pending, with the others to go, and the array is as it was
  pub not_sooner : counted_after d v b bs < busy_time d op
      → (pending_of d.part (after_begun d v b bs).state ≡ op)
      × ((after_begun d v b bs).state.left + counted_after d v b bs ≡ busy_time d op)
      × ((after_begun d v b bs).bytes ≡ v.bytes)
  -- the last cycle that counts ends it, whatever that cycle is: nothing is pending then, and SR.7 is set ..
  pub then_over : (e : Bus) → IsLast d v b op bs e
      → (effect_by d (after_begun d v b bs) e ≡ op) × (pending_of d.part (stepped d (after_begun d v b bs) e).state ≡ Nothing)
      × (is_set (stepped d (after_begun d v b bs) e).state.status SR7 ≡ true)
  -- .. a program has left old AND data in its unit, and every other unit as it was ..
  pub program_leaves : (e : Bus) → IsLast d v b op bs e → (a y : ℕ) → op ≡ Program a y
      → (stepped d (after_begun d v b bs) e).bytes ≡ set v.bytes a (bit_and (get_or v.bytes a 0) y)
  -- .. and an erase all ones in its block, and every other unit as it was
  pub erase_leaves : (e : Bus) → IsLast d v b op bs e → (k : ℕ) → op ≡ Erase k
      → (stepped d (after_begun d v b bs) e).bytes ≡ erased d.part k v.bytes

-- what a cut leaves in state and array (R-cycle-3, R-cycle-4, R-cycle-7)
pub record Cut (d : Device) (v : World) (b : Bus) : Type 0 where
  -- RP# low, whatever the cycle: read array, 80H, nothing awaited; no data
  pub by_reset : Judged d v b → rp_low b.cycle.pins ≡ true → Quietly d v b (world_of (reset_of v.state) (cut_bytes d v b))
  -- VPP low: the state of the cut, which a read shows ..
  pub by_read : Judged d v b → Falls d v b → b.cycle.kind ≡ Read
      → (stepped d v b ≡ world_of (cut_state v.state) (cut_bytes d v b)) × (seen_on d v b ≡ Data (cut_state v.state).status)
  pub by_idle : Judged d v b → Falls d v b → b.cycle.kind ≡ Idle
      → Quietly d v b (world_of (cut_state v.state) (cut_bytes d v b))
  -- .. and a write then does what it does at rest; one that is no command there is refused by 7, and nothing is cut
  pub by_write : Judged d v b → Falls d v b → b.cycle.kind ≡ Write
      → cond (is_refuse (first_write d.part (command_of b.cycle))) ((stepped d v b ≡ v) × (seen_on d v b ≡ Refused 7))
      (Quietly d v b
      (world_of (performed_of (first_write d.part (command_of b.cycle)) d b.cycle (cut_state v.state)) (cut_bytes d v b)))
  -- the array: of a program old AND (data OR r) in its unit; of an erase, while it is being suspended and while it is suspended too, the
  -- residue in its block; with nothing to cut it is as it was
  pub of_program : (y : ℕ) → v.state.phase ≡ Programming y
      → cut_bytes d v b
      ≡ set v.bytes v.state.address (bit_and (get_or v.bytes v.state.address 0) (bit_or y (get_or b.residue 0 0)))
  pub of_erase : is_erase v.state.phase ≡ true
      → cut_bytes d v b ≡ residual d.part (block_of d.part v.state.address) b.residue v.bytes
  pub of_nothing : is_pending v.state.phase ≡ false → cut_bytes d v b ≡ v.bytes
  -- nothing ends in a cycle in which VPP is low
  pub none_ends : vpp_low d.part b.cycle.pins ≡ true → is_end (effect_by d v b) ≡ false

-- what comes of writes that are ignored (R-busy-1, R-busy-2, R-suspended-1)
pub record Ignores (d : Device) (v : World) : Type 0 where
  -- they do what idle cycles do in their place: any cycles lead to the same state and array, and show the same
  pub as_idle : (bs : List Bus) → (world_after d v (unheard d v bs) ≡ world_after d v bs) × (seen_in d v (unheard d v bs) ≡ seen_in d v bs)
  -- where such a one ends neither the operation nor its suspend, nothing changes but the count
  pub but_count : (b : Bus) → is_ignored d v b ≡ true → vpp_low d.part b.cycle.pins ≡ false
      → goes_on v.state.phase v.state.left ≡ true
      → Quietly d v b (world_of (one_less v.state) v.bytes)

-- what comes of B0H where it does not suspend (R-write-3)
pub record OpensArray (d : Device) (v : World) (b : Bus) : Type 0 where
  -- at rest: read array, and nothing else changes
  pub at_rest : rp_low b.cycle.pins ≡ false → is_free v.state.phase ≡ true
      → Quietly d v b (world_of (in_mode Array v.state) v.bytes)
  -- in the cycle that ends an operation: the operation is done, and then read array
  pub at_end : LastOf d v b → Quietly d v b (world_of (in_mode Array (end_state v.state)) (end_bytes d v b))
  -- in the cycle in which VPP cuts one: it is cut, and then read array
  pub at_cut : Falls d v b → Quietly d v b (world_of (in_mode Array (cut_state v.state)) (cut_bytes d v b))
  -- in a cycle with RP# low it is not looked at: the reset sets read array
  pub at_reset : rp_low b.cycle.pins ≡ true → Quietly d v b (world_of (reset_of v.state) (cut_bytes d v b))

-- error bits, and what bars a start (R-status-2, R-second-3, R-lock-1)
pub record Errors (d : Device) (v : World) : Type 0 where
  -- an error bit stays over any cycles without 50H at rest and without RP# low; refused cycles, cuts and starts are among them
  pub stay : (bs : List Bus) → none_clears d v bs ≡ true → (bit : ℕ) → ErrorBit bit → is_set v.state.status bit ≡ true
      → is_set (world_after d v bs).state.status bit ≡ true
  -- those two clear all three
  pub cleared : (b : Bus) → clears d v b ≡ true → (bit : ℕ) → ErrorBit bit → is_set (stepped d v b).state.status bit ≡ false
  -- with SR.3 set nothing is begun ..
  pub sr3_bars : (b : Bus) → is_set v.state.status SR3 ≡ true → begun_at d v b ≡ Nothing
  -- .. nor with VPP low, nor in a boot block that is locked at that cycle ..
  pub low_bars : (b : Bus) → vpp_low d.part b.cycle.pins ≡ true → begun_at d v b ≡ Nothing
  pub lock_bars : (b : Bus) → locked d.part b.cycle ≡ true → begun_at d v b ≡ Nothing
  -- .. such a confirm sets SR.3 and the operation's error bit where VPP is low or SR.3 was set, else, being locked, that bit alone; and it
  -- is awaited no longer ..
  pub low_leaves : (b : Bus) → Confirms d v b → unsupplied d.part b.cycle v.state ≡ true
      → Quietly d v b
      (world_of (is_at_rest v.state v.state.mode (with_bits (with_bits v.state.status SR3) (error_of v.state.phase))) v.bytes)
  pub lock_leaves : (b : Bus) → Confirms d v b → unsupplied d.part b.cycle v.state ≡ false → locked d.part b.cycle ≡ true
      → Quietly d v b (world_of (is_at_rest v.state v.state.mode (with_bits v.state.status (error_of v.state.phase))) v.bytes)
  -- .. and nothing else bars a confirm: not SR.5, not SR.4, which no condition here names
  pub else_begins : (b : Bus) → Confirms d v b → is_set v.state.status SR3 ≡ false
      → vpp_low d.part b.cycle.pins ≡ false → locked d.part b.cycle ≡ false
      → begun_at d v b ≡ asked_by v.state.phase d.part b.cycle
  -- the levels that unlock make no difference to any other cycle
  pub lock_elsewhere : (b : Bus) (rp wp oe : ℕ) → Comparable d b (levelled rp wp oe b) → is_confirm v.state.phase b ≡ false
      → (stepped d v (levelled rp wp oe b) ≡ stepped d v b) × (seen_on d v (levelled rp wp oe b) ≡ seen_on d v b)
