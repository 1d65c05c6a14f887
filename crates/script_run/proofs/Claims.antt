-- What is claimed of the run of a script, in one place.
use mathlib.Core.Path.{◌≡◌}
use mathlib.Core.List.{List, []}
use Prim.Native.Nat.{ℕ, ◌*◌, ◌≤◌}
use lib.ListN.{length, take}
use Rattle.script_lines.specs.Scripts.{Script, print_on, Allowed, lines_written, trace_of}
use Rattle.script_judge.specs.Faults.{FaultAt}
use Rattle.trace_replay.specs.Answers.{mark_of}
use Rattle.trace_replay.specs.Replays.{output_of, array_left}
use Rattle.script_run.specs.Runs.{script_output, script_array}
use Rattle.script_run.proofs.SameRuns as same_runs

-- The run of every allowed script gives the same output as its lines written out, replayed as a trace, and leaves the same array.
pub same_output : (s : Script) (xs rs : List ℕ) → Allowed s → script_output xs rs (print_on s []) ≡ output_of xs rs (trace_of (lines_written s))
same_output = same_runs.same_output

pub same_array : (s : Script) (xs rs : List ℕ) → Allowed s → script_array xs rs (print_on s []) ≡ array_left xs rs (trace_of (lines_written s))
same_array = same_runs.same_array

-- That is an answer of eight bytes for each line written out, and no mark.
pub output_length : (s : Script) (xs rs : List ℕ) → Allowed s → length (script_output xs rs (print_on s [])) ≡ 8 * length (lines_written s)
output_length = same_runs.output_length

-- Any other text prints the mark of its first line at fault, alone, and nothing is run: the array is as it was.
pub fault_alone : (xs rs text : List ℕ) (i : ℕ) → FaultAt text i → (script_output xs rs text ≡ mark_of i) × (script_array xs rs text ≡ xs)
fault_alone = same_runs.fault_alone

-- The empty script prints nothing.
pub empty_script : (xs rs : List ℕ) → script_output xs rs [] ≡ []
empty_script = same_runs.empty_script

-- No output is longer than 9,998 answers: room of 79,984 bytes is never too short.
pub output_most : (xs rs text : List ℕ) → length (script_output xs rs text) ≤ 79984
output_most = same_runs.output_most

-- 60,001 bytes of a text are enough: what lies past them changes neither the output nor the array.
pub cut_run : (xs rs text : List ℕ) → (script_output xs rs (take 60001 text) ≡ script_output xs rs text) × (script_array xs rs (take 60001 text) ≡ script_array xs rs text)
cut_run = same_runs.cut_run
