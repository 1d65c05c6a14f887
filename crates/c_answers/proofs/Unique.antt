-- Two results that a promise of this crate allows are equal, and so is what it leaves in the array.
use mathlib.Core.Path.{◌≡◌}
use mathlib.Core.List.{List}
use Prim.Native.Nat.{ℕ}
use lib.Bits.{bit_and}
use Rattle.common.specs.Choice.{Unique}
use Rattle.common.proofs.Choice.{only}
use Rattle.c_cycle.specs.Answers.{cycled, array_cycled}
use Rattle.c_cycle.specs.declared.DeviceNumbers.{DeviceNumbers}
use Rattle.c_cycle.specs.declared.StateNumbers.{StateNumbers}
use Rattle.c_cycle.specs.declared.BusNumbers.{BusNumbers}
use Rattle.c_cycle.specs.declared.AnswerNumbers.{AnswerNumbers}
use Rattle.c_answers.specs.Answers.{polled_as, written_as, worn_in, given_as, refused_as, ended_as, cut_as}

pub typed_unique : (d : DeviceNumbers) (s : StateNumbers) (c : BusNumbers) (xs rs : List ℕ) → Unique (λ (r : AnswerNumbers). r ≡ cycled d s c xs rs)
typed_unique d s c xs rs = only (cycled d s c xs rs)

pub typed_array_unique : (d : DeviceNumbers) (s : StateNumbers) (c : BusNumbers) (xs rs : List ℕ) → Unique (λ (left : List ℕ). left ≡ array_cycled d s c xs rs)
typed_array_unique d s c xs rs = only (array_cycled d s c xs rs)

pub polled_unique : (n : StateNumbers) (kind sr phase suspend left : ℕ) → Unique (λ (r : AnswerNumbers). r ≡ polled_as n kind sr phase suspend left)
polled_unique n kind sr phase suspend left = only (polled_as n kind sr phase suspend left)

pub written_unique : (n : StateNumbers) (mode sr phase suspend left unit address : ℕ)
    → Unique (λ (r : AnswerNumbers). r ≡ written_as n.wear mode sr phase suspend left unit address)
written_unique n mode sr phase suspend left unit address = only (written_as n.wear mode sr phase suspend left unit address)

pub worn_unique : (n : StateNumbers) (time address block : ℕ)
    → Unique (λ (r : AnswerNumbers). r ≡ written_as (worn_in n.wear block) 1 (bit_and n.status 0x7F) 4 0 time 0 address)
worn_unique n time address block = only (written_as (worn_in n.wear block) 1 (bit_and n.status 0x7F) 4 0 time 0 address)

pub given_unique : (n : StateNumbers) (v : ℕ) → Unique (λ (r : AnswerNumbers). r ≡ given_as n v)
given_unique n v = only (given_as n v)

pub ended_unique : (n : StateNumbers) (kind : ℕ) → Unique (λ (r : AnswerNumbers). r ≡ ended_as n kind)
ended_unique n kind = only (ended_as n kind)

pub cut_unique : (n : StateNumbers) (b : BusNumbers) (bits : ℕ) → Unique (λ (r : AnswerNumbers). r ≡ cut_as n b bits)
cut_unique n b bits = only (cut_as n b bits)

pub refused_unique : (n : StateNumbers) (number : ℕ) → Unique (λ (r : AnswerNumbers). r ≡ refused_as n number)
refused_unique n number = only (refused_as n number)
