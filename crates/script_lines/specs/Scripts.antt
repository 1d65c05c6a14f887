-- The scripts: how one is printed, which are allowed, and their lines written out. Nothing is read here.
use Rattle.std.specs.Prelude.{List, [], ◌∷◌, ◌++◌, ℕ, zero, suc, ◌+◌, ◌*◌, ◌/◌, ◌≤◌}
use Rattle.model_types.specs.declared.Cycle.{Cycle}
use Rattle.trace_lines.specs.Lines.{decimal_digit, line_of, Fits}

-- a list of items: none; a trace line, here the cycle that it states, and the items after it; or a group, its count and its own
-- list, and the items after it (R-script-1)
pub data Script : Type 0 where
  done : Script
  line : Cycle → Script → Script
  group : ℕ → Script → Script → Script

-- the line that opens a group of count n: '(', a space, three digits, a newline (R-script-1)
abbrev pub open_by : ℕ → List ℕ
open_by n = 40 ∷ 32 ∷ decimal_digit (n / 100) ∷ decimal_digit (n / 10) ∷ decimal_digit n ∷ 10 ∷ []

-- the line that closes a group: ')' and a newline (R-script-1)
abbrev pub close_by : List ℕ
close_by = 41 ∷ 10 ∷ []

-- a script's text, and behind it some other text
unfoldable pub print_on : Script → List ℕ → List ℕ
print_on done text = text
print_on (line c r) text = line_of c ++ print_on r text
print_on (group n b r) text = open_by n ++ print_on b (close_by ++ print_on r text)

-- a list that is not empty
abbrev pub Some : Script → Type 0
Some done = ⊥
Some (line c r) = Unit {0}
Some (group n b r) = Unit {0}

-- of the form, with groups at most d deep: cycles that fit a line, counts from 1 to 999, no group empty (R-script-1)
unfoldable pub Formed : ℕ → Script → Type 0
Formed d done = Unit {0}
Formed d (line c r) = Fits c × Formed d r
Formed zero (group n b r) = ⊥
Formed (suc d) (group n b r) = (1 ≤ n) × (n ≤ 999) × Some b × Formed d b × Formed (suc d) r

-- how many lines a script has: a group has two of its own
unfoldable pub lines_in : Script → ℕ
lines_in done = 0
lines_in (line c r) = 1 + lines_in r
lines_in (group n b r) = 2 + lines_in b + lines_in r

-- how many trace lines it writes out where the counts around it have the product p: each line adds that product (R-script-3)
unfoldable pub written_in : ℕ → Script → ℕ
written_in p done = 0
written_in p (line c r) = p + written_in p r
written_in p (group n b r) = written_in (p * n) b + written_in p r

-- the scripts allowed: of the form, eight deep; at most 3,000 lines; at most 9,998 written out (R-script-2)
pub record Allowed (s : Script) : Type 0 where
  pub formed : Formed 8 s
  pub short : lines_in s ≤ 3000
  pub few : written_in 1 s ≤ 9998

-- a list n times over, and another behind it
unfoldable pub times_on : ℕ → List Cycle → List Cycle → List Cycle
times_on zero cs ds = ds
times_on (suc n) cs ds = cs ++ times_on n cs ds

-- the lines written out: the cycles that they state
unfoldable pub lines_written : Script → List Cycle
lines_written done = []
lines_written (line c r) = c ∷ lines_written r
lines_written (group n b r) = times_on n (lines_written b) (lines_written r)

-- cycles as a trace: their lines one behind the other
unfoldable pub trace_of : List Cycle → List ℕ
trace_of [] = []
trace_of (c ∷ cs) = line_of c ++ trace_of cs
