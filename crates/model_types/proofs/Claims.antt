-- What is claimed of words in blocks and of counts, in one place.
use mathlib.Core.Path.{◌≡◌}
use mathlib.Core.Bool.{Bool, true, false}
use Prim.Native.Nat.{ℕ, ◌<◌, ◌+◌, ◌≤◌, min}
use native.Mathlib.Omega.{arith}
use Rattle.units.specs.Address.{byte_of, byte_at}
use Rattle.device.specs.Parts.{size_of, start_of, block_of}
use Rattle.device.proofs.TwoWidths.{in_bytes, word_wide, start_twice, both_bytes}
use Rattle.model_types.specs.declared.Wear.{Wear}
use Rattle.model_types.specs.Counts.{stop, count_of, raised, raised_at, worn}
use Rattle.model_types.proofs.Wears as wears

-- A block begins at the byte of A-1 zero of its first word.
pub starts_at_words : (n k : ℕ) → start_of (in_bytes n) k ≡ byte_of true (start_of (word_wide n) k)
starts_at_words = start_twice

-- Both bytes of a word, by the one way from word addresses to byte addresses, lie in the word's block.
pub words_in_blocks : (n a : ℕ) (high : Bool) → a < size_of (word_wide n) → block_of (in_bytes n) (byte_at true a high) ≡ block_of (word_wide n) a
words_in_blocks n a true h = both_bytes n a 1 h (omega arith)
words_in_blocks n a false h = both_bytes n a 0 h (omega arith)

-- One more erase of block k counts at block k alone.
pub count_worn : (w : Wear) (k j : ℕ) → j < 7 → count_of (worn w k) j ≡ raised_at j k (count_of w j)
count_worn = wears.count_worn

-- A count goes up by one until it stops.
pub raised_is : (n : ℕ) → n ≤ stop → raised n ≡ min (n + 1) stop
raised_is = wears.raised_is

-- Two wears with the same seven counts are the same.
pub same_wear : (v w : Wear) → ((k : ℕ) → k < 7 → count_of v k ≡ count_of w k) → v ≡ w
same_wear = wears.same_wear
