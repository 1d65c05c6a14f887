-- Two results that a promise of this crate allows are equal, and so is what it leaves in each thing lent.
use mathlib.Core.Path.{◌≡◌, sym, ◌∙◌}
use mathlib.Core.Bool.{Bool}
use mathlib.Core.List.{List}
use Prim.Native.Nat.{ℕ}
use Rattle.common.specs.Choice.{Unique}
use Rattle.common.proofs.Choice.{only}
use Rattle.common.specs.Lists.{Bytes}
use Rattle.units.specs.Units.{units, spare}
use Rattle.units.proofs.Widths.{same_bytes}
use Rattle.loader_blocks.specs.declared.Done.{Done}
use Rattle.loader_blocks.specs.declared.Found.{Found}
use Rattle.loader_blocks.specs.Blocks.{block_done, block_found, block_read, block_met, block_rises}

pub load_block_unique : (word : Bool) (once each : ℕ) (h w s : List ℕ) → Unique (λ (r : Done). r ≡ block_done word once each h w s)
load_block_unique word once each h w s = only (block_done word once each h w s)

pub look_at_block_unique : (word : Bool) (h w s : List ℕ) → Unique (λ (r : Found). r ≡ block_found word h w s)
look_at_block_unique word h w s = only (block_found word h w s)

pub look_at_block_scratch_unique : (word : Bool) (h w s : List ℕ) → Unique (λ (left : List ℕ). left ≡ block_read word h w s)
look_at_block_scratch_unique word h w s = only (block_read word h w s)

pub verify_block_unique : (word : Bool) (h w s : List ℕ) → Unique (λ (r : ℕ). r ≡ block_met word h w s)
verify_block_unique word h w s = only (block_met word h w s)

pub must_rise_unique : (word : Bool) (h w : List ℕ) → Unique (λ (r : Bool). r ≡ block_rises word h w)
must_rise_unique word h w = only (block_rises word h w)

-- what load_block and verify_block leave in what is lent: bytes are known by their units and by the byte that is in none
pub left_unique : (w : Bool) (us odd x y : List ℕ) → Bytes x → Bytes y → (units w x ≡ us) × (spare w x ≡ odd) → (units w y ≡ us) × (spare w y ≡ odd) → x ≡ y
left_unique w us odd x y a b p q = same_bytes w x y a b (p.0 ∙ sym q.0) (p.1 ∙ sym q.1)
