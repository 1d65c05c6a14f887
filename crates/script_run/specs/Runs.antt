-- A script run: its output and the array that it leaves, by the replay of its lines written out.
use Rattle.std.specs.Prelude.{List, ℕ, eqb, if◌then◌else◌}
use Rattle.script_lines.specs.Scripts.{lines_written, trace_of}
use Rattle.script_judge.specs.Judges.{script_judged}
use Rattle.script_judge.specs.Reads.{script_in}
use Rattle.trace_replay.specs.Answers.{mark_of}
use Rattle.trace_replay.specs.Replays.{output_of, array_left}

-- the trace that a script's text stands for: the lines of its script written out
abbrev pub trace_in : List ℕ → List ℕ
trace_in text = trace_of (lines_written (script_in text))

-- the output: without a fault, the replay's of that trace; else the mark of the first line at fault, alone (R-script-2, R-script-3)
unfoldable pub script_output : List ℕ → List ℕ → List ℕ → List ℕ
script_output xs rs text = if eqb (script_judged text).fault 0 then output_of xs rs (trace_in text) else mark_of (script_judged text).fault

-- the array: without a fault, as the replay of that trace leaves it; else as it was
unfoldable pub script_array : List ℕ → List ℕ → List ℕ → List ℕ
script_array xs rs text = if eqb (script_judged text).fault 0 then array_left xs rs (trace_in text) else xs
