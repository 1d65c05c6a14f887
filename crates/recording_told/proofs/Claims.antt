-- What is claimed of what is said of a recording, in one place.
use mathlib.Core.Path.{◌≡◌}
use mathlib.Core.Bool.{true}
use mathlib.Core.List.{List}
use mathlib.Core.Logic.{◌↔◌}
use Prim.Native.Nat.{ℕ, ◌≤◌}
use lib.ListN.{length, get_or}
use Rattle.recording_text.specs.Texts.{judged_of}
use Rattle.recording_told.specs.Tellings.{told_of}
use Rattle.recording_told.proofs.Letters as letters
use Rattle.recording_told.proofs.Lengths as lengths

-- Acceptance is said, by a line that begins with an `a` (97), exactly where no line is bad and the check accepts the records.
pub accepted_exactly : (text promised xs : List ℕ)
    → (((judged_of text promised xs).bad ≡ 0) × ((judged_of text promised xs).checked.accepted ≡ true)) ↔ (get_or (told_of text promised xs) 0 0 ≡ 97)
accepted_exactly = letters.accepted_exactly

-- A room of 128 bytes holds whatever is said.
pub told_most : (text promised xs : List ℕ) → length (told_of text promised xs) ≤ 128
told_most = lengths.told_most
