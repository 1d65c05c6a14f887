-- Two results that a promise of this crate allows are equal, and so is what it leaves in each thing lent.
use mathlib.Core.Path.{◌≡◌}
use mathlib.Core.List.{List}
use Prim.Native.Nat.{ℕ}
use Rattle.common.specs.Choice.{Unique}
use Rattle.common.proofs.Choice.{only}
use Rattle.text.specs.Writing.{laid_at, behind}
use Rattle.store_answer.specs.Words.{refused_line, change_line}
use Rattle.store_answer.specs.Listing.{list_of}

pub say_refusal_unique : (n : ℕ) (out : List ℕ) → Unique (λ (r : ℕ). r ≡ behind out 0 (refused_line n))
say_refusal_unique n out = only (behind out 0 (refused_line n))

pub say_refusal_out_unique : (n : ℕ) (out : List ℕ) → Unique (λ (left : List ℕ). left ≡ laid_at out 0 (refused_line n))
say_refusal_out_unique n out = only (laid_at out 0 (refused_line n))

pub say_change_unique : (end erases : ℕ) (out : List ℕ) → Unique (λ (r : ℕ). r ≡ behind out 0 (change_line end erases))
say_change_unique end erases out = only (behind out 0 (change_line end erases))

pub say_change_out_unique : (end erases : ℕ) (out : List ℕ) → Unique (λ (left : List ℕ). left ≡ laid_at out 0 (change_line end erases))
say_change_out_unique end erases out = only (laid_at out 0 (change_line end erases))

pub list_unique : (main out : List ℕ) → Unique (λ (r : ℕ). r ≡ behind out 0 (list_of main))
list_unique main out = only (behind out 0 (list_of main))

pub list_out_unique : (main out : List ℕ) → Unique (λ (left : List ℕ). left ≡ laid_at out 0 (list_of main))
list_out_unique main out = only (laid_at out 0 (list_of main))
