-- Two results that a promise of this crate allows are equal.
use mathlib.Core.Path.{◌≡◌}
use mathlib.Core.List.{List}
use Prim.Native.Nat.{ℕ}
use Rattle.common.specs.Choice.{Unique}
use Rattle.common.proofs.Choice.{only}
use Rattle.loader.specs.declared.Stage.{Stage}
use Rattle.loader.specs.declared.Loader.{Loader}
use Rattle.loader_moves.specs.Moves.{moved_to, ended_by, after_read, erase_polled, program_polled, verify_more}

pub moved_unique : (l : Loader) (stage : Stage) (place polls : ℕ) → Unique (λ (r : Loader). r ≡ moved_to l stage place polls)
moved_unique l stage place polls = only (moved_to l stage place polls)

pub ended_by_unique : (l : Loader) (n : ℕ) → Unique (λ (r : Loader). r ≡ ended_by l n)
ended_by_unique l n = only (ended_by l n)

pub read_more_unique : (l : Loader) (w sc : List ℕ) → Unique (λ (r : Loader). r ≡ after_read l w sc)
read_more_unique l w sc = only (after_read l w sc)

pub erase_polled_unique : (l : Loader) (b : ℕ) (w sc : List ℕ) → Unique (λ (r : Loader). r ≡ erase_polled l b w sc)
erase_polled_unique l b w sc = only (erase_polled l b w sc)

pub program_polled_unique : (l : Loader) (b : ℕ) (w sc : List ℕ) → Unique (λ (r : Loader). r ≡ program_polled l b w sc)
program_polled_unique l b w sc = only (program_polled l b w sc)

pub verify_more_unique : (l : Loader) (b : ℕ) (w : List ℕ) → Unique (λ (r : Loader). r ≡ verify_more l b w)
verify_more_unique l b w = only (verify_more l b w)
