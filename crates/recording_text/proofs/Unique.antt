-- Two results that a promise of this crate allows are equal, and so is what it leaves in each thing lent.
use mathlib.Core.Path.{◌≡◌}
use mathlib.Core.List.{List}
use Prim.Native.Nat.{ℕ}
use Rattle.common.specs.Choice.{Unique}
use Rattle.common.proofs.Choice.{only}
use Rattle.recording_text.specs.declared.Judged.{Judged}
use Rattle.recording_text.specs.Texts.{judged_of, array_judged}

pub judge_unique : (text promised bytes : List ℕ) → Unique (λ (r : Judged). r ≡ judged_of text promised bytes)
judge_unique text promised bytes = only (judged_of text promised bytes)

pub judge_array_unique : (text bytes : List ℕ) → Unique (λ (left : List ℕ). left ≡ array_judged text bytes)
judge_array_unique text bytes = only (array_judged text bytes)
