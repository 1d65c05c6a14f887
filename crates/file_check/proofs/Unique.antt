-- Two results that a promise of this crate allows are equal, and so is what it leaves in each thing lent.
use mathlib.Core.Path.{◌≡◌, sym, ◌∙◌}
use mathlib.Core.List.{List}
use mathlib.Core.Bool.{Bool}
use Prim.Native.Nat.{ℕ, ◌<◌}
use lib.ListN.{take}
use Rattle.std.specs.Prelude.{Result}
use Rattle.common.specs.Choice.{Unique}
use Rattle.common.proofs.Choice.{only}
use Rattle.file_check.specs.Check.{check_of, all_are, check_number, pair}
use Rattle.file_check.specs.Refusal.{number_of, found_number}
use Rattle.file_check.specs.declared.refusal.FileRefusal.{FileRefusal}
use Rattle.file_check.proofs.Refusals.{found_once}

pub check_unique : (b : List ℕ) → Unique (λ (r : ℕ). r ≡ check_of (take 510 b))
check_unique b = only (check_of (take 510 b))

pub joined_unique : (high low : ℕ) → Unique (λ (r : ℕ). (r ≡ pair high low) × (r < 65536))
joined_unique high low r q p s = only (pair high low) r q p.0 s.0

pub all_ff_unique : (s : List ℕ) → Unique (λ (r : Bool). r ≡ all_are 255 s)
all_ff_unique s = only (all_are 255 s)

pub judge_check_unique : (b : List ℕ) → Unique (λ (r : Result (Unit {0}) FileRefusal). found_number r ≡ check_number b)
judge_check_unique b r q p s = found_once r q (p ∙ sym s)

pub number_unique : (x : FileRefusal) → Unique (λ (r : ℕ). r ≡ number_of x)
number_unique x = only (number_of x)
