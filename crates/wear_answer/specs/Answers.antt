-- What the wear program says of traces: a line for each that is not counted, and the table where all are.
use Rattle.std.specs.Prelude.{Bool, true, false, not, ◌&&◌, List, [], ℕ, eqb, ltb, length, replicate, if◌then◌else◌, Result, Ok, Err}
use Rattle.model_types.specs.declared.Wear.{Wear}
use Rattle.trace_wear.specs.declared.BadLine.{BadLine}
use Rattle.trace_wear.specs.Wears.{worn_of}
use Rattle.recording_wear.specs.Recorded.{looks_recorded, worn_recorded}
use Rattle.wear.specs.declared.Reported.{Reported}
use Rattle.wear.specs.Reports.{no_report}
use Rattle.wear.specs.Refusals.{added_to}
use Rattle.wear_print.specs.Tables.{table_text, line_text, count_in}
use Rattle.wear_answer.specs.declared.Counting.{Counting}
use Rattle.wear_answer.specs.declared.Said.{Said}

-- no trace yet
abbrev pub none_yet : Counting
none_yet = record { report = no_report; good = true }

-- a trace on bench T, fresh, with an array and a residue of FFH
unfoldable pub worn_traced : List ℕ → Result Wear BadLine
worn_traced text = worn_of (replicate {A = ℕ} 16384 255) (replicate {A = ℕ} 16384 255) text

-- a recording or a trace: which of them it is, its first line says
unfoldable pub worn_fresh : List ℕ → Result Wear BadLine
worn_fresh text = if looks_recorded text then worn_recorded text else worn_traced text

-- it was not read to its end: fewer bytes than 9,999 lines of a recording have, and the file does not end there
unfoldable pub unread : ℕ → Bool → Bool
unread n ended = ltb n 309969 && not ended

-- what one trace comes to: what is known then, and the line that says why it is not counted
pub record Told : Type 0 where
  pub counting : Counting
  pub line : List ℕ

-- the same with the line in the front of a lent slice
abbrev pub said_in : List ℕ → Told → Said
said_in out t = record { counting = t.counting; used = count_in out t.line }

-- a trace that is not counted: a sign, its argument's number, and what is wrong
abbrev pub uncounted : Counting → ℕ → ℕ → ℕ → Told
uncounted c sign k n = record { counting = record { report = c.report; good = false }; line = line_text sign k n }

-- a trace that the report takes, or an X (88) and the report's refusal
unfoldable pub added_said : Counting → ℕ → Reported → Told
added_said c k r =
    if eqb r.number 0 then record { counting = record { report = r.report; good = c.good }; line = [] }
    else uncounted c 88 k r.number

-- counts from bench T, which is device 3
abbrev pub wear_said : Counting → ℕ → Wear → Told
wear_said c k w = added_said c k (added_to 3 c.report 3 w)

-- a trace replayed: its counts, or a ? (63) and its first bad line
abbrev pub worn_said : Counting → ℕ → Result Wear BadLine → Told
worn_said c k (Ok w) = wear_said c k w
worn_said c k (Err e) = uncounted c 63 k e.line

-- one trace more: a ! (33) and 0 where it was not read to its end, else what its replay comes to
unfoldable pub more_said : Counting → ℕ → List ℕ → Bool → Told
more_said c k text ended = if unread (length text) ended then uncounted c 33 k 0 else worn_said c k (worn_fresh text)

-- what is said at the end: the table, where every trace was counted
unfoldable pub final_text : Counting → List ℕ
final_text c = if c.good then table_text c.report else []
