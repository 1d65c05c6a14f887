-- Two results that a promise of this crate allows are equal, and so is what it leaves in each thing lent.
use mathlib.Core.Path.{◌≡◌}
use mathlib.Core.List.{List}
use Prim.Native.Nat.{ℕ}
use Rattle.common.specs.Choice.{Unique}
use Rattle.common.proofs.Choice.{only}
use Rattle.text.specs.Writing.{laid_at, behind}
use Rattle.recording_text.specs.Texts.{array_judged}
use Rattle.recording_told.specs.Tellings.{told_of}

pub tell_unique : (text promised array out : List ℕ) → Unique (λ (r : ℕ). r ≡ behind out 0 (told_of text promised array))
tell_unique text promised array out = only (behind out 0 (told_of text promised array))

pub tell_out_unique : (text promised array out : List ℕ) → Unique (λ (left : List ℕ). left ≡ laid_at out 0 (told_of text promised array))
tell_out_unique text promised array out = only (laid_at out 0 (told_of text promised array))

pub tell_array_unique : (text array : List ℕ) → Unique (λ (left : List ℕ). left ≡ array_judged text array)
tell_array_unique text array = only (array_judged text array)
