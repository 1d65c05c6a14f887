-- What only the code's shape asks for. Not part of what a buyer must believe.
use Rattle.std.specs.Prelude.{List, ℕ, ◌+◌, ◌<◌, get_or}
use Rattle.device.specs.declared.Device.{Device}
use Rattle.device.specs.Parts.{size_of}
use Rattle.model_types.specs.declared.State.{State}
use Rattle.loader.specs.declared.Loader.{Loader}
use Rattle.loader.specs.Stages.{end_by}
use Rattle.loader_steps.specs.Front.{end_address}
use Rattle.loader_run.specs.declared.Ran.{Ran}
use Rattle.loader_held.specs.declared.Hold.{Hold}
use Rattle.loader_held_run.specs.declared.Holding.{Holding}

-- every address to read is inside the array
abbrev pub ReadsInside : Device → List ℕ → Type 0
ReadsInside d bs = (i : ℕ) → get_or bs i 0 < size_of d.part

-- more cycles than one interruption for k readings and the polls after it take, in a load of n units
abbrev pub pause_bound : ℕ → ℕ → ℕ
pause_bound n k = n + (k + 262160)

-- the records and the state between two cycles, and what is returned of them after so many
abbrev pub holding_of : Loader → Hold → State → Holding
holding_of l h s = record { loader = l; hold = h; state = s }

-- what is returned of them after n cycles
abbrev pub holding_ran : Holding → ℕ → Ran
holding_ran h n =
    record { count = n; end = end_by h.loader.stage; address = end_address h.loader (end_by h.loader.stage); state = h.state }
