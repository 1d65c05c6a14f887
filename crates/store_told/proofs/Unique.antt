-- Two results that the promise of this crate allows are equal, and so is what it leaves in each thing lent.
use mathlib.Core.Path.{◌≡◌}
use mathlib.Core.List.{List}
use Prim.Native.Nat.{ℕ}
use Rattle.common.specs.Choice.{Unique}
use Rattle.common.proofs.Choice.{only}
use Rattle.text.specs.Writing.{laid_at}
use Rattle.store_told.specs.declared.Said.{Said}
use Rattle.store_told.specs.Sayings.{answered, answered_on}

pub answer_unique : (count : ℕ) (word image device letter volts file memory scratch out : List ℕ) → Unique (λ (r : Said). r ≡ answered_on out (answered count word image device letter volts file memory scratch))
answer_unique count word image device letter volts file memory scratch out = only (answered_on out (answered count word image device letter volts file memory scratch))

pub answer_out_unique : (count : ℕ) (word image device letter volts file memory scratch out : List ℕ) → Unique (λ (left : List ℕ). left ≡ laid_at out 0 (answered count word image device letter volts file memory scratch).line)
answer_out_unique count word image device letter volts file memory scratch out = only (laid_at out 0 (answered count word image device letter volts file memory scratch).line)

pub answer_image_unique : (count : ℕ) (word image device letter volts file memory scratch out : List ℕ) → Unique (λ (left : List ℕ). left ≡ (answered count word image device letter volts file memory scratch).image)
answer_image_unique count word image device letter volts file memory scratch out = only (answered count word image device letter volts file memory scratch).image

pub answer_memory_unique : (count : ℕ) (word image device letter volts file memory scratch out : List ℕ) → Unique (λ (left : List ℕ). left ≡ (answered count word image device letter volts file memory scratch).memory)
answer_memory_unique count word image device letter volts file memory scratch out = only (answered count word image device letter volts file memory scratch).memory

pub answer_scratch_unique : (count : ℕ) (word image device letter volts file memory scratch out : List ℕ) → Unique (λ (left : List ℕ). left ≡ (answered count word image device letter volts file memory scratch).scratch)
answer_scratch_unique count word image device letter volts file memory scratch out = only (answered count word image device letter volts file memory scratch).scratch
