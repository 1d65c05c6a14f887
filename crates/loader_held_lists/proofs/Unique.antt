-- Two results that a promise of this crate allows are equal.
use mathlib.Core.Path.{◌≡◌}
use mathlib.Core.Bool.{Bool}
use mathlib.Core.List.{List}
use Prim.Native.Nat.{ℕ}
use Rattle.common.specs.Choice.{Unique}
use Rattle.common.proofs.Choice.{only}
use Rattle.device.specs.declared.Part.{Part}
use Rattle.loader_held_lists.specs.Listings.{past_array, in_loaded, room_number, held_number}

pub past_array_unique : (part : Part) (a : ℕ) → Unique (λ (r : Bool). r ≡ past_array part a)
past_array_unique part a = only (past_array part a)

pub in_loaded_unique : (part : Part) (k a : ℕ) → Unique (λ (r : Bool). r ≡ in_loaded part k a)
in_loaded_unique part k a = only (in_loaded part k a)

pub room_number_unique : (word : Bool) (n room : ℕ) → Unique (λ (r : ℕ). r ≡ room_number word n room)
room_number_unique word n room = only (room_number word n room)

pub list_number_unique : (part : Part) (k : ℕ) (bs : List ℕ) (room : ℕ) → Unique (λ (r : ℕ). r ≡ held_number part k bs room)
list_number_unique part k bs room = only (held_number part k bs room)
