-- Two results that a promise of this crate allows are equal, and so is what it leaves in the slice lent.
use mathlib.Core.Path.{◌≡◌}
use mathlib.Core.List.{List}
use Prim.Native.Nat.{ℕ}
use Rattle.common.specs.Choice.{Unique}
use Rattle.common.proofs.Choice.{only}
use Rattle.text.specs.Writing.{laid_at, behind}
use Rattle.refusal_words.specs.Words.{file_words, refused_text}

pub put_file_words_unique : (out : List ℕ) (at n : ℕ) → Unique (λ (r : ℕ). r ≡ behind out at (file_words n))
put_file_words_unique out at n = only (behind out at (file_words n))

pub put_file_words_left_unique : (out : List ℕ) (at n : ℕ) → Unique (λ (left : List ℕ). left ≡ laid_at out at (file_words n))
put_file_words_left_unique out at n = only (laid_at out at (file_words n))

pub put_refused_unique : (out : List ℕ) (at n : ℕ) → Unique (λ (r : ℕ). r ≡ behind out at (refused_text n))
put_refused_unique out at n = only (behind out at (refused_text n))

pub put_refused_left_unique : (out : List ℕ) (at n : ℕ) → Unique (λ (left : List ℕ). left ≡ laid_at out at (refused_text n))
put_refused_left_unique out at n = only (laid_at out at (refused_text n))
