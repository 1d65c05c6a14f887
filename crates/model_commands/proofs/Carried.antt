-- What a cycle's command is where the data is a byte.
use mathlib.Core.Path.{◌≡◌}
use Prim.Native.Nat.{◌<◌}
use native.Mathlib.Nat.{mod-eq_of_lt}
use Rattle.model_types.specs.declared.Cycle.{Cycle}
use Rattle.model_commands.specs.Commands.{command_of}

-- a byte is its own command
pub command_byte : (c : Cycle) → c.data < 256 → command_of c ≡ c.data
unfolding command_of
command_byte c h = mod-eq_of_lt h
