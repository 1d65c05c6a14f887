-- How the code tests a line: the length first, then the cycle as a trace line, then the answer and the count. Not part of what a buyer
-- must believe: that these tests together are `is_record` is proved (`record_runs`).
use Rattle.std.specs.Prelude.{Bool, true, false, ◌||◌, List, [], ◌∷◌, ◌++◌, ℕ, take}
use Rattle.trace_lines.specs.Inner.{met_from}
use Rattle.recording_lines.specs.Records.{answer_form, count_form}

-- the trace line that a record line begins with
abbrev pub trace_line : List ℕ → List ℕ
trace_line xs = take 19 xs ++ (10 ∷ [])

-- the answer at its places, the count at its places
abbrev pub answer_met : List ℕ → Bool
answer_met xs = met_from true (answer_form true) 19 xs || met_from true (answer_form false) 19 xs

-- .. the count at its places
abbrev pub count_met : List ℕ → Bool
count_met xs = met_from true (count_form true) 24 xs || met_from true (count_form false) 24 xs
