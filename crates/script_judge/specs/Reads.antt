-- The script that a text states.
use Rattle.std.specs.Prelude.{List, ℕ, zero, suc, take, drop}
use Rattle.trace_lines.specs.Lines.{cycle_stated}
use Rattle.script_lines.specs.declared.Word.{Word}
use Rattle.script_lines.specs.declared.Word.TheVariants.{Ends, Bad, Traced, Opens, Closes}
use Rattle.script_lines.specs.Scripts.{Script, done, line, group}
use Rattle.script_lines.specs.Words.{word_in}

-- a list of items, and the text behind it
pub record Listed : Type 0 where
  pub script : Script
  pub behind : List ℕ

-- no item stands here; a trace line before a list; a group before a list
abbrev pub no_item : List ℕ → Listed
no_item text = record { script = done; behind = text }

-- a trace line before a list
abbrev pub line_then : List ℕ → Listed → Listed
line_then text r = record { script = line (cycle_stated (take 20 text)) r.script; behind = r.behind }

-- a group before a list
abbrev pub group_then : ℕ → Script → Listed → Listed
group_then n b r = record { script = group n b r.script; behind = r.behind }

-- the list that begins with a word, read by f from the next item on: behind a group's own list stands its closing line
abbrev pub list_by : Word → List ℕ → (List ℕ → Listed) → Listed
list_by Ends text f = no_item text
list_by Bad text f = no_item text
list_by Traced text f = line_then text (f (drop 20 text))
list_by (Opens n) text f = group_then n (f (drop 6 text)).script (f (drop 2 (f (drop 6 text)).behind))
list_by Closes text f = no_item text

-- the list at the front of a text, of so many lines at most
unfoldable pub list_in : ℕ → List ℕ → Listed
list_in zero text = no_item text
list_in (suc n) text = list_by (word_in (suc n) text) text (λ (t : List ℕ). list_in n t)

-- the script that a text of 3,000 lines at most states
unfoldable pub script_in : List ℕ → Script
script_in text = (list_in 3000 text).script
