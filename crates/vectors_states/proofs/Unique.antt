-- Two results that a promise of this crate allows are equal, and so is what it leaves in each thing lent.
use mathlib.Core.Path.{◌≡◌}
use mathlib.Core.List.{List}
use mathlib.Core.Bool.{Bool}
use Prim.Native.Nat.{ℕ}
use lib.ListN.{length, replicate}
use Rattle.common.specs.Choice.{Unique}
use Rattle.common.proofs.Choice.{only}
use Rattle.device.specs.declared.Device.{Device}
use Rattle.model_types.specs.declared.Cycle.{Cycle}
use Rattle.model_types.specs.declared.Kind.{Kind}
use Rattle.model_types.specs.declared.Mode.{Mode}
use Rattle.model_types.specs.declared.Phase.{Phase}
use Rattle.model_types.specs.declared.Pins.{Pins}
use Rattle.model_types.specs.declared.State.{State}
use Rattle.model_types.specs.declared.Wear.{Wear}
use Rattle.vectors_states.specs.Letters.{mode_by, phase_by, mode_letter, phase_letter, wear_at, state_at, word_by, device_at, same_wear, same_state}
use Rattle.vectors_states.specs.Cycles.{kind_letter, kind_by, cycle_at, levels_at}

pub mode_by_unique : (letter : ℕ) → Unique (λ (r : Mode). r ≡ mode_by letter)
mode_by_unique letter = only (mode_by letter)

pub phase_by_unique : (letter value : ℕ) → Unique (λ (r : Phase). r ≡ phase_by letter value)
phase_by_unique letter value = only (phase_by letter value)

pub mode_letter_unique : (m : Mode) → Unique (λ (r : ℕ). r ≡ mode_letter m)
mode_letter_unique m = only (mode_letter m)

pub phase_letter_unique : (p : Phase) → Unique (λ (r : ℕ). r ≡ phase_letter p)
phase_letter_unique p = only (phase_letter p)

pub wear_at_unique : (row : List ℕ) (place : ℕ) → Unique (λ (r : Wear). r ≡ wear_at row place)
wear_at_unique row place = only (wear_at row place)

pub state_at_unique : (row : List ℕ) (worn : Wear) → Unique (λ (r : State). r ≡ state_at row worn)
state_at_unique row worn = only (state_at row worn)

pub device_at_unique : (row : List ℕ) → Unique (λ (r : Device). r ≡ device_at row)
device_at_unique row = only (device_at row)

pub word_by_unique : (digit : ℕ) → Unique (λ (r : Bool). r ≡ word_by digit)
word_by_unique digit = only (word_by digit)

pub same_wear_unique : (a b : Wear) → Unique (λ (r : Bool). r ≡ same_wear a b)
same_wear_unique a b = only (same_wear a b)

pub same_state_unique : (a b : State) → Unique (λ (r : Bool). r ≡ same_state a b)
same_state_unique a b = only (same_state a b)

pub kind_letter_unique : (kind : Kind) → Unique (λ (r : ℕ). r ≡ kind_letter kind)
kind_letter_unique kind = only (kind_letter kind)

pub kind_by_unique : (letter : ℕ) → Unique (λ (r : Kind). r ≡ kind_by letter)
kind_by_unique letter = only (kind_by letter)

pub cycle_at_unique : (row : List ℕ) (letter : ℕ) → Unique (λ (r : Cycle). r ≡ cycle_at row letter)
cycle_at_unique row letter = only (cycle_at row letter)

pub levels_at_unique : (row : List ℕ) → Unique (λ (r : Pins). r ≡ levels_at row)
levels_at_unique row = only (levels_at row)

-- the array made
pub vast_unique : Unique (λ (r : List ℕ). (r ≡ replicate {A = ℕ} 524289 0) × (524289 ≡ length r))
vast_unique r q p t = only (replicate {A = ℕ} 524289 0) r q p.0 t.0
