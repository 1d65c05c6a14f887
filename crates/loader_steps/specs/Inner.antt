-- What only the code's shape asks for: it adds addresses in 32 bits. A record that a start or a step takes has its place inside the block,
-- and there an address is the sum (`here_is`).
use Rattle.std.specs.Prelude.{ℕ, ◌+◌, ltb, if◌then◌else◌}
use Rattle.loader.specs.declared.Loader.{Loader}
use Rattle.loader_steps.specs.Addresses.{first_address}

-- no block is that long
abbrev pub reach : ℕ
reach = 16777216

-- the address so many units behind a first one, as far as that
abbrev pub address_from : ℕ → ℕ → ℕ
address_from first place = if ltb place reach then first + place else first

-- the address of the unit at the record's place
unfoldable pub here_of : Loader → ℕ
here_of l = address_from (first_address l) l.place
