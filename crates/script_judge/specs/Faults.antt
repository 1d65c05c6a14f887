-- The first line at fault, told without a reader: the lines before it can go on to a script, with it they cannot.
use Rattle.std.specs.Prelude.{◌≡◌, List, [], ◌∷◌, ◌++◌, ℕ, ◌+◌, ◌*◌, ◌≤◌, length}
use Rattle.model_types.specs.declared.Cycle.{Cycle}
use Rattle.trace_lines.specs.Lines.{line_of}
use Rattle.script_lines.specs.Scripts.{Script, done, line, group, open_by, close_by, Formed}

-- a line of a script: it states a cycle, opens a group so many times repeated, or closes one
pub data Mark : Type 0 where
  a_line : Cycle → Mark
  an_open : ℕ → Mark
  a_close : Mark

-- how it is printed
abbrev pub form_of : Mark → List ℕ
form_of (a_line c) = line_of c
form_of (an_open n) = open_by n
form_of a_close = close_by

-- a script's lines, and behind them others
unfoldable pub marks_on : Script → List Mark → List Mark
marks_on done ms = ms
marks_on (line c r) ms = a_line c ∷ marks_on r ms
marks_on (group n b r) ms = an_open n ∷ marks_on b (a_close ∷ marks_on r ms)

-- lines printed, and behind them some text
unfoldable pub bytes_on : List Mark → List ℕ → List ℕ
bytes_on [] text = text
bytes_on (m ∷ ms) text = form_of m ++ bytes_on ms text

-- lines that some script of the form, however long, begins with
pub record Begins (ms : List Mark) : Type 0 where
  pub more : List Mark
  pub script : Script
  pub formed : Formed 8 script
  pub lines : ms ++ more ≡ marks_on script []

-- how many trace lines they write out: each adds the product of the counts around it (the products around the open groups, and
-- the one at hand)
unfoldable pub sums : List ℕ → ℕ → List Mark → ℕ
sums K p [] = 0
sums K p (a_line c ∷ ms) = p + sums K p ms
sums K p (an_open n ∷ ms) = sums (p ∷ K) (p * n) ms
sums [] p (a_close ∷ ms) = sums [] p ms
sums (q ∷ K) p (a_close ∷ ms) = sums K q ms

-- nothing is wrong so far: they can go on to a script, and neither they nor what they write out are too many (R-script-3)
pub record Fine (ms : List Mark) : Type 0 where
  pub begins : Begins ms
  pub short : length ms ≤ 3000
  pub few : sums [] 1 ms ≤ 9998

-- line i is the first at fault: the lines before it are fine; with whatever line stands there they are not; and where the text
-- ends there, they are no whole script (R-script-3)
pub record FaultAt (text : List ℕ) (i : ℕ) : Type 0 where
  pub before : List Mark
  pub behind : List ℕ
  pub text_is : text ≡ bytes_on before behind
  pub number : i ≡ 1 + length before
  pub fine : Fine before
  pub not_fine : (m : Mark) (behind' : List ℕ) → behind ≡ form_of m ++ behind' → Fine (before ++ (m ∷ [])) → ⊥
  pub not_whole : behind ≡ [] → (s : Script) → Formed 8 s → before ≡ marks_on s [] → ⊥
