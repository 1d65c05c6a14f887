-- A reading's answer, what it tells and what it leaves, by what the reader makes.
use mathlib.Core.Path.{◌≡◌, sym, ◌∙◌, ap}
use mathlib.Core.List.{List}
use Prim.Native.Nat.{ℕ}
use lib.IntN.{ℤ}
use lib.ListN.{length}
use Rattle.file_codec.specs.File.{Outcome, in_room, left_in}
use Rattle.reading.specs.Readings.{answer_as, answer_told, told_as}
use Rattle.reading.specs.declared.ReadingAnswer.{ReadingAnswer}

-- what is known of one outcome is known of another that it is
pub read_told : (x : ℤ) (room : List ℕ) (o q : Outcome) → o ≡ q → {r : ReadingAnswer} → r ≡ answer_as x q → answer_told r ≡ told_as x q → {left : List ℕ} → left ≡ left_in room q
    → (r ≡ answer_as x o) × ((answer_told r ≡ told_as x o) × (left ≡ left_in room o))
read_told x room o q e a b c = (a ∙ ap (answer_as x) (sym e), (b ∙ ap (told_as x) (sym e), c ∙ ap (left_in room) (sym e)))

-- the same through the voltage's own bits and what the reader is asked
pub read_on : (x y : ℤ) → y ≡ x → (room : List ℕ) (o q : Outcome) → q ≡ o → (r : ReadingAnswer) (left : List ℕ) → r ≡ answer_as y (in_room (length room) q) → answer_told r ≡ told_as y (in_room (length room) q)
    → left ≡ left_in room (in_room (length room) q)
    → (r ≡ answer_as x (in_room (length room) o)) × ((answer_told r ≡ told_as x (in_room (length room) o)) × (left ≡ left_in room (in_room (length room) o)))
read_on x y f room o q e r left a b c =
    read_told x room (in_room (length room) o) (in_room (length room) q) (ap (in_room (length room)) (sym e)) {r = r}
    (a ∙ ap (λ (z : ℤ). answer_as z (in_room (length room) q)) f) (b ∙ ap (λ (z : ℤ). told_as z (in_room (length room) q)) f) {left = left} c
