-- What is claimed of one block, in one place.
use mathlib.Core.Path.{◌≡◌}
use mathlib.Core.Logic.{◌↔◌}
use mathlib.Core.List.{List}
use Prim.Native.Nat.{ℕ}
use Rattle.common.specs.Numbers.{Foremost, NoRow}
use Rattle.file_block.specs.Block.{unsound_rows, unsound_number}
use Rattle.file_block.proofs.Tables as tables

-- The numbers: a slice is refused as block i of n by m exactly where m's own condition holds and that of no number before it does.
pub fault_exactly : (first i n : ℕ) (b : List ℕ) (m : ℕ) → (m ≡ 0 → ⊥) → (unsound_number first i n b ≡ m) ↔ Foremost (unsound_rows first i n b) m
fault_exactly = tables.fault_exactly

-- Nothing is refused exactly where none of the six conditions holds.
pub sound_exactly : (first i n : ℕ) (b : List ℕ) → (unsound_number first i n b ≡ 0) ↔ NoRow (unsound_rows first i n b)
sound_exactly = tables.sound_exactly
