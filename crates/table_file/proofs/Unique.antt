-- Two results that the promise of this crate allows are equal, and so is what it leaves in each slice lent.
use mathlib.Core.Path.{◌≡◌}
use mathlib.Core.List.{List}
use Prim.Native.Nat.{ℕ}
use lib.ListN.{length}
use Rattle.common.specs.Choice.{Unique}
use Rattle.common.proofs.Choice.{only}
use Rattle.text.specs.declared.Told.{Told}
use Rattle.text.specs.Writing.{laid_at, told_on}
use Rattle.table_file.specs.Files.{made_of}

pub make_unique : (text letter payload out : List ℕ)
    → Unique (λ (r : Told). r ≡ told_on (made_of text letter payload (length out)).said.stream out (made_of text letter payload (length out)).said.line)
make_unique text letter payload out = only (told_on (made_of text letter payload (length out)).said.stream out (made_of text letter payload (length out)).said.line)

pub make_out_unique : (text letter payload out : List ℕ)
    → Unique (λ (left : List ℕ). left ≡ laid_at out 0 (made_of text letter payload (length out)).said.line)
make_out_unique text letter payload out = only (laid_at out 0 (made_of text letter payload (length out)).said.line)

pub make_payload_unique : (text letter payload out : List ℕ)
    → Unique (λ (left : List ℕ). left ≡ (made_of text letter payload (length out)).payload)
make_payload_unique text letter payload out = only (made_of text letter payload (length out)).payload
