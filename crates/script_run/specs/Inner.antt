-- What the functions of the run promise each other. Not part of what a buyer must believe: the run's promise is `script_output` and
-- `script_array`.
use Rattle.std.specs.Prelude.{◌≡◌, List, [], ◌∷◌, ◌++◌, ℕ, ◌+◌, ◌-◌, ◌*◌, ◌≤◌, ◌<◌, length, take, drop, if◌then◌else◌}
use Rattle.common.specs.Lists.{overlaid}
use Rattle.model_types.specs.declared.State.{State}
use Rattle.model_types.specs.declared.Cycle.{Cycle}
use Rattle.trace_lines.specs.Lines.{cycle_stated}
use Rattle.script_lines.specs.Scripts.{Script, print_on, Formed, lines_in, times_on, lines_written}
use Rattle.script_lines.specs.Words.{word_in, is_closes}
use Rattle.script_lines.specs.Inner.{Stop}
use Rattle.trace_replay.specs.Answers.{printed_of}
use Rattle.trace_replay.specs.Replays.{line_step, array_by}
use Rattle.script_run.specs.declared.Run.{Run}

-- cycles made one after the other: the state and the array that they leave, and the answers to them
unfoldable pub state_through : List Cycle → State → List ℕ → List ℕ → State
state_through [] s xs rs = s
state_through (c ∷ cs) s xs rs = state_through cs (line_step s c xs rs).state (array_by s c xs rs) rs

-- .. the array that the cycles leave
unfoldable pub array_through : List Cycle → State → List ℕ → List ℕ → List ℕ
array_through [] s xs rs = xs
array_through (c ∷ cs) s xs rs = array_through cs (line_step s c xs rs).state (array_by s c xs rs) rs

-- .. the answers to the cycles, as they are printed
unfoldable pub answers_through : List Cycle → State → List ℕ → List ℕ → List ℕ
answers_through [] s xs rs = []
answers_through (c ∷ cs) s xs rs =
    printed_of (line_step s c xs rs) ++ answers_through cs (line_step s c xs rs).state (array_by s c xs rs) rs

-- a run past the trace line at x
abbrev pub line_run : List ℕ → Run → List ℕ → List ℕ → Run
line_run text x xs rs = record {
  at = x.at + 20;
  left = x.left - 1;
  used = x.used + 8;
  state = (line_step x.state (cycle_stated (take 20 (drop x.at text))) xs rs).state;
}

-- a run past the opening line at x; at x again, with the output and the device as z has them
abbrev pub past_open : Run → Run
past_open x = record { at = x.at + 6; left = x.left - 1; used = x.used; state = x.state }

-- a run at x again, with the output and the device as z has them
abbrev pub back_to : Run → Run → Run
back_to x z = record { at = x.at; left = x.left; used = z.used; state = z.state }

-- a run past the closing line at x, where there is one
abbrev pub past_close : Run → Run
past_close x = record { at = x.at + 2; left = x.left - 1; used = x.used; state = x.state }

-- a run past its closing line, where there is one
unfoldable pub close_run : List ℕ → Run → Run
close_run text x = if is_closes (word_in x.left (drop x.at text)) then past_close x else x

-- from x to r the cycles cs were made: r stands before tail, k lines on; the answers are laid over the output
pub record Ran (text : List ℕ) (x r : Run) (xs rs out xs' out' : List ℕ) (cs : List Cycle) (tail : List ℕ) (k : ℕ) : Type 0 where
  pub stands : drop r.at text ≡ tail
  pub lines : r.left + k ≡ x.left
  pub used : r.used ≡ x.used + 8 * length cs
  pub state : r.state ≡ state_through cs x.state xs rs
  pub array : xs' ≡ array_through cs x.state xs rs
  pub laid : out' ≡ overlaid out x.used (answers_through cs x.state xs rs)

-- whatever list is printed at x, at most d levels deep, with room for its answers: its lines written out were run
unfoldable pub RunRead : List ℕ → Run → ℕ → Run → List ℕ → List ℕ → List ℕ → List ℕ → List ℕ → Type 0
RunRead text x d r xs rs out xs' out' =
    (c : Script) (tail : List ℕ) → Formed d c → Stop tail → drop x.at text ≡ print_on c tail → lines_in c ≤ x.left
    → x.used + 8 * length (lines_written c) ≤ length out
    → Ran text x r xs rs out xs' out' (lines_written c) tail (lines_in c)

-- from x to y items were run: whatever runs the list from y on runs it from x on
unfoldable pub Leads : List ℕ → ℕ → Run → Run → List ℕ → List ℕ → List ℕ → List ℕ → List ℕ → Type 0
Leads text d x y xs rs out ys out₁ = (r : Run) (xs' out' : List ℕ) → RunRead text y d r ys rs out₁ xs' out'
    → RunRead text x d r xs rs out xs' out'

-- an item run: where no byte was taken the list ends here, else it goes on
unfoldable pub ItemRun : List ℕ → Run → ℕ → Run → List ℕ → List ℕ → List ℕ → List ℕ → List ℕ → Type 0
ItemRun text x d r xs rs out xs' out' = (r.at ≡ x.at → RunRead text x d r xs rs out xs' out')
    × (x.at < r.at → Leads text d x r xs rs out xs' out')

-- a list run n times over
unfoldable pub AgainRead : List ℕ → Run → ℕ → ℕ → Run → List ℕ → List ℕ → List ℕ → List ℕ → List ℕ → Type 0
AgainRead text x d n r xs rs out xs' out' =
    (c : Script) (tail : List ℕ) → Formed d c → Stop tail → drop x.at text ≡ print_on c tail → lines_in c ≤ x.left → 1 ≤ n
    → x.used + 8 * length (times_on n (lines_written c) []) ≤ length out
    → Ran text x r xs rs out xs' out' (times_on n (lines_written c) []) tail (lines_in c)

-- rounds of a list that were run, from x to y: whatever runs the m that are left runs all n
unfoldable pub Rounds : List ℕ → Run → ℕ → ℕ → Run → ℕ → List ℕ → List ℕ → List ℕ → List ℕ → List ℕ → Type 0
Rounds text x d n y m xs rs out ys out₁ = (r : Run) (xs' out' : List ℕ) → AgainRead text y d m r ys rs out₁ xs' out'
    → AgainRead text x d n r xs rs out xs' out'
