-- The report on traces, defined from their cycles.
use Rattle.std.specs.Prelude.{◌≡◌, List, [], ◌∷◌, ℕ, ◌≤◌, min}
use Rattle.device.specs.declared.Device.{Device}
use Rattle.model_types.specs.declared.Wear.{Wear}
use Rattle.model_types.specs.Counts.{stop}
use Rattle.model_states.specs.States.{fresh_state}
use Rattle.model_history.specs.History.{Bus, world_of, world_after, erases_begun}
use Rattle.wear.specs.declared.Tally.{Tally}
use Rattle.wear.specs.Counted.{summary}

-- a trace: any cycles, each with its residue, on a fresh device that holds some units
pub record Trace : Type 0 where
  pub held : List ℕ
  pub buses : List Bus

-- the erases of block k that it begins (R-wear-3)
abbrev pub begun_of : Device → ℕ → Trace → ℕ
begun_of d k t = erases_begun d (world_of fresh_state t.held) k t.buses

-- the counts that it leaves in the state
abbrev pub wear_of : Device → Trace → Wear
wear_of d t = (world_after d (world_of fresh_state t.held) t.buses).state.wear

-- the erases of block k that each of several traces begins
abbrev pub begun_all : Device → ℕ → List Trace → List ℕ
begun_all d k [] = []
begun_all d k (t ∷ ts) = begun_of d k t ∷ begun_all d k ts

-- the counts that each of several traces leaves
abbrev pub wears_of : Device → List Trace → List Wear
wears_of d [] = []
wears_of d (t ∷ ts) = wear_of d t ∷ wears_of d ts

-- the line of block k, from the cycles (R-wear-3)
abbrev pub line_of : Device → List Trace → ℕ → Tally
line_of d ts k = summary (begun_all d k ts)

-- a line t beside the line u from the cycles, whether or not some trace reached the stop: the total is at most that of the cycles, the
-- largest and the smallest are the cycles' up to the stop, and as many traces passed
pub record Beside (t u : Tally) : Type 0 where
  pub total : t.total ≤ u.total
  pub largest : t.largest ≡ min u.largest stop
  pub smallest : t.smallest ≡ min u.smallest stop
  pub passed : t.passed ≡ u.passed

-- seven counts for each trace, one after the other
abbrev pub flat : List Wear → List ℕ
flat [] = []
flat (w ∷ ws) = w.block0 ∷ w.block1 ∷ w.block2 ∷ w.block3 ∷ w.block4 ∷ w.block5 ∷ w.block6 ∷ flat ws
