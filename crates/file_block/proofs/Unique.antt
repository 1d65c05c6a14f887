-- Two results that a promise of this crate allows are equal, and so is what it leaves in each thing lent.
use mathlib.Core.Path.{◌≡◌, sym, ◌∙◌}
use mathlib.Core.List.{List}
use mathlib.Core.Bool.{Bool}
use Prim.Native.Nat.{ℕ, ◌<◌}
use Rattle.common.specs.Choice.{Unique}
use Rattle.common.proofs.Choice.{only}
use Rattle.std.specs.Prelude.{Result}
use Rattle.file_check.specs.Refusal.{found_number}
use Rattle.file_check.specs.declared.refusal.FileRefusal.{FileRefusal}
use Rattle.file_check.proofs.Refusals.{found_once}
use Rattle.file_block.specs.Block.{is_letter, used_of, unsound_number}

pub is_letter_unique : (x : ℕ) → Unique (λ (r : Bool). r ≡ is_letter x)
is_letter_unique x = only (is_letter x)

pub used_unique : (b : List ℕ) → Unique (λ (r : ℕ). (r ≡ used_of b) × (r < 65536))
used_unique b r q p s = only (used_of b) r q p.0 s.0

pub judge_block_unique : (first i n : ℕ) (b : List ℕ) → Unique (λ (r : Result (Unit {0}) FileRefusal). found_number r ≡ unsound_number first i n b)
judge_block_unique first i n b r q p s = found_once r q (p ∙ sym s)
