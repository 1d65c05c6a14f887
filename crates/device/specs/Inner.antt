-- What only the code's shape asks for: first address and length of a block together, so that the description is read once.
use Rattle.std.specs.Prelude.{ℕ}
use Rattle.device.specs.Parts.{start_in, length_in, start_of, length_of}
use Rattle.device.specs.declared.Part.{Part}
use Rattle.device.specs.declared.Shape.{Shape}
use Rattle.device.specs.declared.Span.{Span}

-- where block k of a description lies
abbrev pub span_in : Shape → ℕ → Span
span_in s k = record { first = start_in s k; length = length_in s k }

-- where block k of a part lies
abbrev pub span_of : Part → ℕ → Span
span_of p k = record { first = start_of p k; length = length_of p k }
