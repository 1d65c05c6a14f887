-- What is claimed of a load that may be interrupted as numbers, in one place.
use mathlib.Core.Path.{◌≡◌}
use mathlib.Core.List.{List}
use Prim.Native.Nat.{ℕ}
use Rattle.loader.specs.declared.Saying.TheVariants.{Refused}
use Rattle.loader_held.specs.declared.Pair.{Pair}
use Rattle.c_records.specs.Records.{saying_out}
use Rattle.c_held.specs.declared.HeldNumbers.{HeldNumbers}
use Rattle.c_held.specs.Helds.{held_in, held_out, held_back, stepped_held, scratch_stepped_held, room_stepped_held}
use Rattle.c_held.proofs.Border as border

-- There and back: the two records have numbers, and these numbers stand for them.
pub held_back_lem : (q : Pair) → held_in (held_out q) ≡ q
held_back_lem = border.held_back_lem

-- Records that are not moved go back as the numbers that came, those that stand for none too.
pub held_same : (n : HeldNumbers) → held_back n (held_in n) ≡ n
held_same = border.held_same

-- A refused step gives its number; the records, scratch and the room go back as they came.
pub held_step_refused : (n : HeldNumbers) (v : ℕ) (w sc ps bs room : List ℕ) → (border.number n v w sc ps bs room ≡ 0 → ⊥)
    → (stepped_held n v w sc ps bs room ≡ record { turn = saying_out (Refused (border.number n v w sc ps bs room)); held = n })
    × (scratch_stepped_held n v w sc bs room ≡ sc)
    × (room_stepped_held n v w sc bs room ≡ room)
held_step_refused = border.held_step_refused
