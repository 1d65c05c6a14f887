-- The wear that a whole recording leaves: the counts of the state that its judgement leaves on a blank bench T, or its first fault.
use Rattle.std.specs.Prelude.{Bool, List, [], ◌∷◌, ℕ, ◌+◌, eqb, ltb, get_or, replicate, if◌then◌else◌, Result, Ok}
use Rattle.model_types.specs.declared.Wear.{Wear}
use Rattle.recording_text.specs.declared.Judged.{Judged}
use Rattle.recording_text.specs.Texts.{judged_of}
use Rattle.trace_wear.specs.declared.BadLine.{BadLine}
use Rattle.trace_wear.specs.Wears.{bad_as}

-- a text is taken as a recording: its first line goes on at the place where a line of a trace ends
unfoldable pub looks_recorded : List ℕ → Bool
looks_recorded text = eqb (get_or text 19 0) 32

-- judged on a blank part; nothing is promised
unfoldable pub judged_blank : List ℕ → Judged
judged_blank text = judged_of text [] (replicate {A = ℕ} 16384 255)

-- the first line that is none or whose record is at fault, 0 where there is neither: the end is not asked
unfoldable pub fault_in : ℕ → ℕ → ℕ → ℕ
fault_in lines bad at = if ltb at lines then at + 1 else bad

-- .. of a judgement
abbrev pub fault_of : Judged → ℕ
fault_of j = fault_in j.lines j.bad j.checked.at

-- its counts; a recording with a fault has none
abbrev pub worn_by : Judged → Result Wear BadLine
worn_by j = if eqb (fault_of j) 0 then Ok j.checked.state.wear else bad_as (fault_of j)

-- the wear that a recording leaves on a blank bench T
unfoldable pub worn_recorded : List ℕ → Result Wear BadLine
worn_recorded text = worn_by (judged_blank text)

-- what a recording tells: the number of its first fault, 0 where none is, and the counts
abbrev pub told_by : Judged → ℕ × List Wear
told_by j = if eqb (fault_of j) 0 then (0, j.checked.state.wear ∷ []) else (fault_of j, [])

-- .. of a recording, judged on a blank bench T
unfoldable pub recorded_told : List ℕ → ℕ × List Wear
recorded_told text = told_by (judged_blank text)
