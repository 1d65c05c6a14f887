-- The sentences of the data sheet, over any cycles, in one place: every device, both widths. A `Bus` is a cycle with the residue that is
-- lent with it, a `World` a state with the units of the array; the units of lent bytes are `left_units` of model.
use mathlib.Core.Path.{◌≡◌}
use mathlib.Core.Bool.{true, false}
use mathlib.Core.List.{List}
use lib.ListN.{get_or}
use lib.Dec.{eqb}
use Rattle.std.specs.Prelude.{if◌then◌else◌}
use Rattle.device.specs.declared.Device.{Device}
use Rattle.device.specs.Parts.{block_of}
use Rattle.model_types.specs.declared.Kind.TheVariants.{Read}
use Rattle.model_types.specs.declared.Mode.TheVariants.{Array}
use Rattle.model_types.specs.declared.Effect.{Effect}
use Rattle.model_types.specs.declared.Effect.TheVariants.{Nothing}
use Rattle.model_levels.specs.Levels.{rp_low, vpp_low}
use Rattle.model_types.specs.Phases.{is_suspended}
use Rattle.model.specs.declared.Seen.TheVariants.{Data, Refused}
use Rattle.model_history.specs.History.{Bus, World, stepped, world_after, seen_on, seen_in, effects_in, uncut}
use Rattle.model_suspend.specs.Suspends.{is_suspend}
use Rattle.model_sheet.specs.Sheet.{Judged, begun_at, all_bare}
use Rattle.model_sheet.specs.Sentences.{Lasts, Cut, Ignores, OpensArray, Errors}
use Rattle.model_sheet.proofs.Lasting as lasting
use Rattle.model_sheet.proofs.Cutting as cutting
use Rattle.model_sheet.proofs.Ignoring as ignoring
use Rattle.model_sheet.proofs.Opening as opening
use Rattle.model_sheet.proofs.Bits as bits
use Rattle.model_sheet.proofs.Starting as starting
use Rattle.model_sheet.proofs.Reading as reading
use Rattle.model_sheet.proofs.Idling as idling

-- An operation that is not cut takes just its P or E cycles, whatever those are. Refused cycles do not count, nor do those of a suspend,
-- from the one after B0H to D0H. Then it has left old AND data in its unit, or all ones in its block.
pub takes_its_time : (d : Device) (v : World) (b : Bus) (op : Effect) → begun_at d v b ≡ op → (op ≡ Nothing → ⊥) → (bs : List Bus)
    → uncut (effects_in d (stepped d v b) bs) ≡ true → Lasts d v b op bs
takes_its_time = lasting.whole_life

-- What a cut by RP# or VPP leaves in state and array, of a program and of an erase that runs, is being suspended or is suspended; and
-- nothing ends in a cycle in which VPP is low.
pub cut_leaves : (d : Device) (v : World) (b : Bus) → Cut d v b
cut_leaves = cutting.cut

-- What is ignored while an operation is busy, being suspended or suspended leaves everything but the count: it does what an idle cycle
-- does in its place.
pub ignored_leaves : (d : Device) (v : World) → Ignores d v
ignored_leaves = ignoring.ignores

-- B0H at rest, and in the cycle that ends or cuts an operation, sets read array. (In a running erase it suspends: `leads_to_suspended` of
-- model_suspend; as a second write it is data, or no confirm.)
pub b0_opens : (d : Device) (v : World) (b : Bus) → Judged d v b → is_suspend b.cycle ≡ true → OpensArray d v b
b0_opens = opening.opens

-- Error bits stay until 50H or a reset; SR.3 bars a start, the other two do not; the lock counts at the confirm and at no other cycle.
pub errors_stay : (d : Device) (v : World) → Errors d v
errors_stay d v = record {
  stay = λ bs. bits.stay d bs v;
  cleared = bits.cleared d v;
  sr3_bars = starting.sr3_bars d v;
  low_bars = starting.low_bars d v;
  lock_bars = starting.lock_bars d v;
  low_leaves = λ b c. starting.low_leaves d v b c.0 c.1 c.2;
  lock_leaves = λ b c. starting.lock_leaves d v b c.0 c.1 c.2;
  else_begins = λ b c. starting.else_begins d v b c.0 c.1 c.2;
  lock_elsewhere = starting.lock_elsewhere d v;
}

-- An array read of a suspended device is refused by 8 inside the suspended block, and gives the unit outside it; nothing changes.
pub suspended_reads : (d : Device) (v : World) (b : Bus) → Judged d v b → is_suspended v.state.phase ≡ true → v.state.mode ≡ Array
    → b.cycle.kind ≡ Read → rp_low b.cycle.pins ≡ false → vpp_low d.part b.cycle.pins ≡ false
    → (seen_on d v b
    ≡ (if eqb (block_of d.part b.cycle.address) (block_of d.part v.state.address) then Refused 8
    else Data (get_or v.bytes b.cycle.address 0)))
    × (stepped d v b ≡ v)
suspended_reads = reading.reads

-- Idle ignores address and data: cycles that differ in nothing but the addresses and the data of their idle cycles lead to the same state
-- and array, and show the same.
pub idle_ignores : (d : Device) (v : World) (bs cs : List Bus) → all_bare bs ≡ all_bare cs
    → (world_after d v bs ≡ world_after d v cs) × (seen_in d v bs ≡ seen_in d v cs)
idle_ignores = idling.alike
