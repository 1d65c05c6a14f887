-- The wear that a whole trace leaves: the counts of its last state, or its first bad line.
use Rattle.std.specs.Prelude.{List, [], ◌∷◌, ℕ, zero, suc, eqb, length, take, drop, if◌then◌else◌, Result, Ok, Err}
use Rattle.model_types.specs.declared.State.{State}
use Rattle.model_types.specs.declared.Wear.{Wear}
use Rattle.model_states.specs.States.{fresh_state}
use Rattle.trace_lines.specs.Lines.{is_line, cycle_stated}
use Rattle.trace_replay.specs.Replays.{line_step, array_by, array_left}
use Rattle.trace_wear.specs.declared.BadLine.{BadLine}

-- the state that the replay's walk leaves, k lines before the last that may be answered
unfoldable pub state_from : ℕ → State → List ℕ → List ℕ → List ℕ → State
state_from zero s xs rs text = s
state_from (suc k) s xs rs text =
    if is_line (take 20 text)
    then state_from k (line_step s (cycle_stated (take 20 text)) xs rs).state (array_by s (cycle_stated (take 20 text)) xs rs) rs
    (drop 20 text)
    else s

-- what a trace that ends before line n has for a bad line: none, which is 0, where no byte is left over
unfoldable pub bad_at : ℕ → ℕ → ℕ
bad_at n left = if eqb left 0 then 0 else n

-- the first bad line by the same walk, from line n on
unfoldable pub bad_from : ℕ → ℕ → List ℕ → ℕ
bad_from zero n text = bad_at n (length text)
bad_from (suc k) n text = if is_line (take 20 text) then bad_from k (suc n) (drop 20 text) else bad_at n (length text)

-- a whole trace: a fresh device, lines counted from 1, line 9999 never answered
unfoldable pub state_left : List ℕ → List ℕ → List ℕ → State
state_left xs rs text = state_from 9998 fresh_state xs rs text

-- the first line that is none, 0 where there is no such line
unfoldable pub bad_line : List ℕ → ℕ
bad_line text = bad_from 9998 1 text

-- no counts, for a bad line
abbrev pub bad_as : ℕ → Result Wear BadLine
bad_as n = Err (record { line = n })

-- its counts; a trace with a bad line has none
unfoldable pub worn_of : List ℕ → List ℕ → List ℕ → Result Wear BadLine
worn_of xs rs text = if eqb (bad_line text) 0 then Ok (state_left xs rs text).wear else bad_as (bad_line text)

-- a trace's counts by their cases: the number of its first bad line, 0 where none is, and the counts
abbrev pub worn_told : Result Wear BadLine → ℕ × List Wear
worn_told (Ok w) = (0, w ∷ [])
worn_told (Err e) = (e.line, [])

-- what a trace tells
unfoldable pub count_told : List ℕ → List ℕ → List ℕ → ℕ × List Wear
count_told xs rs text = if eqb (bad_line text) 0 then (0, (state_left xs rs text).wear ∷ []) else (bad_line text, [])

-- the array that it leaves; a trace with a bad line is not replayed
unfoldable pub array_worn : List ℕ → List ℕ → List ℕ → List ℕ
array_worn xs rs text = if eqb (bad_line text) 0 then array_left xs rs text else xs
