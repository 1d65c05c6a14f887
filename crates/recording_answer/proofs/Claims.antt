-- What is claimed of the words for a recording, in one place.
use mathlib.Core.Path.{◌≡◌}
use mathlib.Core.List.{List}
use Prim.Native.Nat.{ℕ, ◌<◌}
use lib.ListN.{length, get_or}
use Rattle.recording_answer.specs.Lines.{data_text, address_text, first_apart}
use Rattle.recording_answer.proofs.Widths as widths
use Rattle.recording_answer.proofs.Apart as apart

-- No number is told by its low digits alone: two numbers of 64 bits that are told by the same digits are the same, as data ..
pub data_told_whole : (v w : ℕ) → v < 0x10000000000000000 → w < 0x10000000000000000 → data_text v ≡ data_text w → v ≡ w
data_told_whole = widths.data_tells

-- .. and as an address.
pub address_told_whole : (v w : ℕ) → v < 0x10000000000000000 → w < 0x10000000000000000 → address_text v ≡ address_text w → v ≡ w
address_told_whole = widths.address_tells

-- A place that is told as one where the arrays differ is one: it lies in both, and the bytes there are not the same.
pub place_differs : (xs ys : List ℕ) → length xs ≡ length ys → first_apart xs ys < length ys → get_or xs (first_apart xs ys) 0 ≡ get_or ys (first_apart xs ys) 0 → ⊥
place_differs = apart.place_differs
