-- Two results that the promise of this crate allows are equal, and so is what it leaves in each slice lent.
use mathlib.Core.Path.{◌≡◌}
use mathlib.Core.List.{List}
use Prim.Native.Nat.{ℕ}
use Rattle.common.specs.Choice.{Unique}
use Rattle.common.proofs.Choice.{only}
use Rattle.text.specs.declared.Told.{Told}
use Rattle.text.specs.Writing.{laid_at, told_on}
use Rattle.table_text.specs.Shown.{shown_of}

pub show_unique : (file letter room out : List ℕ)
    → Unique (λ (r : Told). r ≡ told_on (shown_of file letter room).said.stream out (shown_of file letter room).said.line)
show_unique file letter room out = only (told_on (shown_of file letter room).said.stream out (shown_of file letter room).said.line)

pub show_out_unique : (file letter room out : List ℕ)
    → Unique (λ (left : List ℕ). left ≡ laid_at out 0 (shown_of file letter room).said.line)
show_out_unique file letter room out = only (laid_at out 0 (shown_of file letter room).said.line)

pub show_room_unique : (file letter room out : List ℕ)
    → Unique (λ (left : List ℕ). left ≡ (shown_of file letter room).room)
show_room_unique file letter room out = only (shown_of file letter room).room
