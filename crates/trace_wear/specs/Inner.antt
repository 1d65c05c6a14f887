-- How the code goes: the lines are counted first, then so many are replayed. Not part of what a buyer must believe.
use Rattle.std.specs.Prelude.{List, ℕ, zero, suc, take, drop}
use Rattle.model_types.specs.declared.State.{State}
use Rattle.trace_lines.specs.Lines.{cycle_stated}
use Rattle.trace_replay.specs.Replays.{line_step, array_by}

-- the state after the first k lines
unfoldable pub states_of : ℕ → State → List ℕ → List ℕ → List ℕ → State
states_of zero s xs rs text = s
states_of (suc k) s xs rs text =
    states_of k (line_step s (cycle_stated (take 20 text)) xs rs).state (array_by s (cycle_stated (take 20 text)) xs rs) rs (drop 20 text)
