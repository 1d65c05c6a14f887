-- Texts of traces as traces of cycles: the cycles that their lines state.
use Rattle.std.specs.Prelude.{List, [], ◌∷◌, ℕ, zero, suc, eqb, take, drop, if◌then◌else◌}
use Rattle.model_types.specs.declared.Wear.{Wear}
use Rattle.model_history.specs.History.{Bus}
use Rattle.trace_lines.specs.Lines.{is_line, cycle_stated}
use Rattle.trace_replay.specs.Answers.{mark_of}
use Rattle.wear_claims.specs.Traces.{Trace}
use Rattle.trace_wear.specs.Wears.{state_left}

-- the cycles that the good lines at the front of a text state, k at most, each with the same residue
unfoldable pub buses_from : ℕ → List ℕ → List ℕ → List Bus
buses_from zero rs text = []
buses_from (suc k) rs text = if is_line (take 20 text)
    then record { cycle = cycle_stated (take 20 text); residue = rs } ∷ buses_from k rs (drop 20 text) else []

-- a text as a trace, on a device that holds xs
abbrev pub trace_of : List ℕ → List ℕ → List ℕ → Trace
trace_of xs rs text = record { held = xs; buses = buses_from 9998 rs text }

-- texts, each on a fresh device that holds xs
abbrev pub traces_of : List ℕ → List ℕ → List (List ℕ) → List Trace
traces_of xs rs [] = []
traces_of xs rs (t ∷ ts) = trace_of xs rs t ∷ traces_of xs rs ts

-- the counts that they leave
abbrev pub worn_all : List ℕ → List ℕ → List (List ℕ) → List Wear
worn_all xs rs [] = []
worn_all xs rs (t ∷ ts) = (state_left xs rs t).wear ∷ worn_all xs rs ts

-- how the trace program ends a trace whose bad line is n: with its mark, or without a word where there is none
unfoldable pub end_before : ℕ → List ℕ
end_before n = if eqb n 0 then [] else mark_of n
