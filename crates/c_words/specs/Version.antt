-- The version, as the file VERSION has it.
use Rattle.std.specs.Prelude.{ℕ, ◌+◌, ◌*◌}

-- the major number of the version
abbrev pub major : ℕ
major = 0

-- the minor number of the version
abbrev pub minor : ℕ
minor = 11

-- the patch number of the version
abbrev pub patch : ℕ
patch = 3

-- the three numbers as one
abbrev pub version : ℕ
version = major * 10000 + minor * 100 + patch
