-- Two results that a promise of this crate allows are equal, and so is what it leaves in each thing lent.
use mathlib.Core.Path.{◌≡◌, sym, ◌∙◌}
use mathlib.Core.Bool.{Bool}
use mathlib.Core.List.{List}
use Prim.Native.Nat.{ℕ}
use Rattle.common.specs.Lists.{Bytes}
use Rattle.units.specs.Units.{units, spare}
use Rattle.units.proofs.Widths.{same_bytes}
use Rattle.common.specs.Choice.{Unique}
use Rattle.common.proofs.Choice.{only}
use Rattle.loader.specs.declared.Loader.{Loader}
use Rattle.loader_moves.specs.Moves.{next_of}
use Rattle.loader_stores.specs.Stores.{store_of}

pub advance_unique : (l : Loader) (b : ℕ) (w sc : List ℕ) → Unique (λ (r : Loader). r ≡ next_of l b w (store_of l b w sc))
advance_unique l b w sc = only (next_of l b w (store_of l b w sc))

-- what store_erase, store_program and advance leave in scratch: bytes are known by their units and by the byte that is in none
pub units_unique : (w : Bool) (us odd x y : List ℕ) → Bytes x → Bytes y → (units w x ≡ us) × (spare w x ≡ odd) → (units w y ≡ us) × (spare w y ≡ odd) → x ≡ y
units_unique w us odd x y a b p q = same_bytes w x y a b (p.0 ∙ sym q.0) (p.1 ∙ sym q.1)
