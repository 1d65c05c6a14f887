-- Two results that a promise of this crate allows are equal, and so is what it leaves in each thing lent.
use mathlib.Core.Path.{◌≡◌}
use mathlib.Core.Bool.{Bool}
use Prim.Native.Nat.{ℕ}
use Rattle.common.specs.Choice.{Unique}
use Rattle.common.proofs.Choice.{only}
use Rattle.device.specs.Parts.{is_large, unknown_part, unknown_device, size_of, length_of, start_of, block_of, code_of}
use Rattle.device.specs.declared.Part.{Part}
use Rattle.device.specs.Inner.{span_of}
use Rattle.device.specs.declared.Device.{Device}
use Rattle.device.specs.declared.Span.{Span}

pub unknown_part_unique : (p : Part) → Unique (λ (r : Bool). r ≡ unknown_part p)
unknown_part_unique p = only (unknown_part p)

pub is_large_unique : (p : Part) → Unique (λ (r : Bool). r ≡ is_large p)
is_large_unique p = only (is_large p)

pub unknown_device_unique : (d : Device) → Unique (λ (r : Bool). r ≡ unknown_device d)
unknown_device_unique d = only (unknown_device d)

pub size_unique : (p : Part) → Unique (λ (r : ℕ). r ≡ size_of p)
size_unique p = only (size_of p)

pub length_unique : (p : Part) (k : ℕ) → Unique (λ (r : ℕ). r ≡ length_of p k)
length_unique p k = only (length_of p k)

pub start_unique : (p : Part) (k : ℕ) → Unique (λ (r : ℕ). r ≡ start_of p k)
start_unique p k = only (start_of p k)

pub block_span_unique : (p : Part) (k : ℕ) → Unique (λ (r : Span). r ≡ span_of p k)
block_span_unique p k = only (span_of p k)

pub block_of_unique : (p : Part) (a : ℕ) → Unique (λ (r : ℕ). r ≡ block_of p a)
block_of_unique p a = only (block_of p a)

pub code_unique : (p : Part) → Unique (λ (r : ℕ). r ≡ code_of p)
code_unique p = only (code_of p)
