-- The tests of a cycle's kind.
use Rattle.std.specs.Prelude.{Bool, true, false}
use Rattle.model_types.specs.declared.Kind.{Kind}
use Rattle.model_types.specs.declared.Kind.TheVariants.{Read, Write, Idle}

-- a read
abbrev pub is_read : Kind → Bool
is_read Read = true
is_read Write = false
is_read Idle = false

-- a write
abbrev pub is_write : Kind → Bool
is_write Read = false
is_write Write = true
is_write Idle = false

-- neither
abbrev pub is_idle : Kind → Bool
is_idle Read = false
is_idle Write = false
is_idle Idle = true
