-- Two results that a promise of this crate allows are equal.
use mathlib.Core.Path.{◌≡◌}
use mathlib.Core.Bool.{Bool}
use mathlib.Core.List.{List}
use Prim.Native.Nat.{ℕ}
use lib.IntN.{ℤ}
use Rattle.common.specs.Choice.{Unique}
use Rattle.common.proofs.Choice.{only}
use Rattle.reading_table.specs.Table.{volts_of, tenths_of, rises_to, shape_wrong, table_number}
use Rattle.reading_table.specs.Faults.{fault_of}
use Rattle.reading_table.specs.Search.{seek_of}

pub volts_unique : (p : List ℕ) (i : ℕ) → Unique (λ (r : ℤ). r ≡ volts_of p i)
volts_unique p i = only (volts_of p i)

pub tenths_unique : (p : List ℕ) (i : ℕ) → Unique (λ (r : ℤ). r ≡ tenths_of p i)
tenths_unique p i = only (tenths_of p i)

pub rises_to_unique : (p : List ℕ) (i j : ℕ) → Unique (λ (r : Bool). r ≡ rises_to p i j)
rises_to_unique p i j = only (rises_to p i j)

pub shape_wrong_unique : (p : List ℕ) → Unique (λ (r : Bool). r ≡ shape_wrong p)
shape_wrong_unique p = only (shape_wrong p)

pub judge_table_unique : (p : List ℕ) → Unique (λ (r : ℕ). r ≡ table_number p)
judge_table_unique p = only (table_number p)

pub seek_unique : (p : List ℕ) (x : ℤ) → Unique (λ (r : ℕ). r ≡ seek_of p x)
seek_unique p x = only (seek_of p x)

pub first_fault_unique : (p : List ℕ) → Unique (λ (r : ℕ). r ≡ fault_of p)
first_fault_unique p = only (fault_of p)
