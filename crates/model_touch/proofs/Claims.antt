-- What is claimed of which byte may change, in one place: of either engine, any device number, both widths, any list of cycles with any
-- residues, refused and cutting ones among them.
use mathlib.Core.Path.{◌≡◌, sym, ap, ◌∙◌}
use mathlib.Core.Bool.{true, false}
use mathlib.Core.List.{List}
use mathlib.Core.Logic.{◌⊎◌, ◌↔◌}
use Prim.Native.Nat.{ℕ}
use Rattle.common.specs.Lists.{Bytes}
use Rattle.units.specs.Address.{byte_at}
use Rattle.device.specs.declared.Part.{Part}
use Rattle.device.specs.declared.Device.{Device}
use Rattle.device.specs.Parts.{block_of}
use Rattle.model_types.specs.declared.Phase.TheVariants.{EraseAwaited, DataAwaited}
use Rattle.model_types.specs.declared.Effect.TheVariants.{Nothing}
use Rattle.model_levels.specs.Levels.{vpp_high}
use Rattle.model_types.specs.Phases.{is_pending}
use Rattle.model_commands.specs.Commands.{command_of}
use Rattle.model.specs.Begun.{operation_of}
use Rattle.model_history.specs.History.{Bus, World, world_after}
use Rattle.model_touch.specs.Touch.{Engine, by_rules, by_table, Ours, after_cycle, after_all, before, At, effect_on, begun_on, in_unit, in_block, byte_in, Differs, Confirmed, ConfirmedBefore, Unlocked, Manual, Begun, IsConfirm, stopped, wrong_start, on_units, buses_on}
use Rattle.model_touch.proofs.Confirms.{held, asked_how}
use Rattle.model_touch.proofs.Manual as statement
use Rattle.model_touch.proofs.Further as further
use Rattle.model_touch.proofs.Engines.{one_engine, either_engine}

-- The statement of the manual, from any start with no operation running, being suspended or suspended: a second write may be awaited, and
-- the state may be improper. That the array holds bytes is what a lent slice is.
pub manual : {g : Engine} → Ours g → (d : Device) (v : World) (bs : List Bus) → is_pending v.state.phase ≡ false → Bytes v.bytes → Manual g d v bs
manual o d v bs idle bytes = either_engine (λ (g : Engine). Manual g d v bs) (statement.manual d v bs idle bytes) o

-- A confirm on a byte is D0H after 20H at an address of its block, or data after 40H or 10H at the address of its unit.
pub confirm_is : {g : Engine} {d : Device} {v : World} {bs : List Bus} {x : ℕ} (k : Confirmed g d v bs x)
    → (((before g d v bs k.index).state.phase ≡ EraseAwaited) × (command_of k.bus.cycle ≡ 0xD0) × (in_block d.part (block_of d.part k.bus.cycle.address) x ≡ true))
    ⊎ (((before g d v bs k.index).state.phase ≡ DataAwaited) × (in_unit d.part k.bus.cycle.address x ≡ true))
confirm_is {g} {d} {v} {bs} {x} k = asked_how d.part x (before g d v bs k.index).state.phase k.bus.cycle k.own

-- Every confirm on a boot byte was made unlocked, not only that of a byte that changed.
pub boot_confirm : {g : Engine} → Ours g → (d : Device) (v : World) (bs : List Bus) (x : ℕ) (k : Confirmed g d v bs x) → in_block d.part 0 x ≡ true → Unlocked k
boot_confirm o d v bs x = either_engine (λ (g : Engine). (k : Confirmed g d v bs x) → in_block d.part 0 x ≡ true → Unlocked k) (λ k h. statement.boot_confirm k h) o

-- The bytes of a program are one byte, or in word mode the low and the high byte of one word, by the one way from word to byte addresses.
pub own_bytes : (part : Part) (a x : ℕ) → (in_unit part a x ≡ true) ↔ ((x ≡ byte_at part.word a false) ⊎ (x ≡ byte_at part.word a true))
own_bytes = further.own_bytes

-- A byte is in one block alone.
pub one_block : (part : Part) (j k x : ℕ) → in_block part j x ≡ true → in_block part k x ≡ true → j ≡ k
one_block part j k x p q = sym (held part x j p) ∙ held part x k q

-- A byte that differs at a point of the list was confirmed by one of the cycles in front of it ..
pub confirm_sooner : {g : Engine} → Ours g → (d : Device) (v : World) (bs : List Bus) → is_pending v.state.phase ≡ false → Bytes v.bytes
    → (i x : ℕ) → Differs v (before g d v bs i) x → ConfirmedBefore g d v bs i x
confirm_sooner o d v bs idle bytes i x =
    either_engine (λ (g : Engine). Differs v (before g d v bs i) x → ConfirmedBefore g d v bs i x) (statement.changed d v bs idle bytes i x) o

-- .. and so was one that a cycle at that point changes: the cycle that changes a byte comes after its confirm.
pub confirm_earlier : {g : Engine} → Ours g → (d : Device) (v : World) (bs : List Bus) → is_pending v.state.phase ≡ false → Bytes v.bytes
    → (i : ℕ) (b : Bus) (x : ℕ) → Differs (before g d v bs i) (after_cycle g d (before g d v bs i) b) x → ConfirmedBefore g d v bs i x
confirm_earlier o d v bs idle bytes i b x =
    either_engine (λ (g : Engine). Differs (before g d v bs i) (after_cycle g d (before g d v bs i) b) x → ConfirmedBefore g d v bs i x)
    (statement.changed_in d v bs idle bytes i b x) o

-- An operation that ends or is cut was begun by an earlier cycle of the list.
pub was_begun : {g : Engine} → Ours g → (d : Device) (v : World) (bs : List Bus) → is_pending v.state.phase ≡ false
    → (i : ℕ) (b : Bus) → (operation_of (effect_on d (before g d v bs i) b) ≡ Nothing → ⊥) → Begun g d v bs i (operation_of (effect_on d (before g d v bs i) b))
was_begun o d v bs idle i b =
    either_engine (λ (g : Engine). (operation_of (effect_on d (before g d v bs i) b) ≡ Nothing → ⊥) → Begun g d v bs i (operation_of (effect_on d (before g d v bs i) b)))
    (further.was_begun d v bs idle i b) o

-- A byte that no operation was confirmed on is as it was at every point of the list.
pub as_it_was : {g : Engine} → Ours g → (d : Device) (v : World) (bs : List Bus) → is_pending v.state.phase ≡ false → Bytes v.bytes
    → (x : ℕ) → (Confirmed g d v bs x → ⊥) → (i : ℕ) → byte_in (before g d v bs i) x ≡ byte_in v x
as_it_was o d v bs idle bytes x =
    either_engine (λ (g : Engine). (Confirmed g d v bs x → ⊥) → (i : ℕ) → byte_in (before g d v bs i) x ≡ byte_in v x) (further.as_it_was d v bs idle bytes x) o

-- A list without VPP high changes nothing.
pub never_high : {g : Engine} → Ours g → (d : Device) (v : World) (bs : List Bus) → is_pending v.state.phase ≡ false → Bytes v.bytes
    → ((i : ℕ) (b : Bus) → At bs i b → vpp_high d.part b.cycle.pins ≡ false) → (i : ℕ) → (before g d v bs i).bytes ≡ v.bytes
never_high o d v bs idle bytes low = either_engine (λ (g : Engine). (i : ℕ) → (before g d v bs i).bytes ≡ v.bytes) (further.never_high d v bs idle bytes low) o

-- A list in which every confirm is refused, barred or locked changes nothing ..
pub all_stopped : {g : Engine} → Ours g → (d : Device) (v : World) (bs : List Bus) → is_pending v.state.phase ≡ false → Bytes v.bytes
    → ((i : ℕ) (b : Bus) → At bs i b → IsConfirm d (before g d v bs i) b → stopped d (before g d v bs i) b ≡ true)
    → (i : ℕ) → (before g d v bs i).bytes ≡ v.bytes
all_stopped o d v bs idle bytes =
    either_engine (λ (g : Engine). ((i : ℕ) (b : Bus) → At bs i b → IsConfirm d (before g d v bs i) b → stopped d (before g d v bs i) b ≡ true)
    → (i : ℕ) → (before g d v bs i).bytes ≡ v.bytes)
    (further.all_stopped d v bs idle bytes) o

-- .. and so does one that begins nothing.
pub none_begun : {g : Engine} → Ours g → (d : Device) (v : World) (bs : List Bus) → is_pending v.state.phase ≡ false → Bytes v.bytes
    → ((i : ℕ) (b : Bus) → At bs i b → begun_on d (before g d v bs i) b ≡ Nothing) → (i : ℕ) → (before g d v bs i).bytes ≡ v.bytes
none_begun o d v bs idle bytes =
    either_engine (λ (g : Engine). ((i : ℕ) (b : Bus) → At bs i b → begun_on d (before g d v bs i) b ≡ Nothing) → (i : ℕ) → (before g d v bs i).bytes ≡ v.bytes)
    (further.none_begun d v bs idle bytes) o

-- From an improper state, on an unknown device or an array of another length nothing changes, state nor bytes.
pub wrong_start_lem : {g : Engine} → Ours g → (d : Device) (v : World) (bs : List Bus) → wrong_start d v ≡ true → (i : ℕ) → before g d v bs i ≡ v
wrong_start_lem o d v bs e = either_engine (λ (g : Engine). (i : ℕ) → before g d v bs i ≡ v) (λ i. further.wrong_start_lem d bs i v e) o

-- The two engines lead to the same state and the same lent bytes, after any cycles.
pub same_history : (d : Device) (v : World) (bs : List Bus) → after_all by_table d v bs ≡ after_all by_rules d v bs
same_history d v bs = ap (λ (g : Engine). after_all g d v bs) one_engine

-- The units of the lent bytes have the history that the model's other claims are about.
pub units_history : {g : Engine} → Ours g → (d : Device) (v : World) (bs : List Bus) → on_units d (after_all g d v bs) ≡ world_after d (on_units d v) (buses_on d bs)
units_history o d v bs = either_engine (λ (g : Engine). on_units d (after_all g d v bs) ≡ world_after d (on_units d v) (buses_on d bs)) (further.units_history bs d v) o
