-- What is claimed of scripts and their judge, in one place.
use mathlib.Core.Path.{◌≡◌}
use mathlib.Core.List.{List, []}
use mathlib.Core.Logic.{◌↔◌}
use Prim.Native.Nat.{ℕ}
use lib.ListN.{length, take}
use Rattle.script_lines.specs.Scripts.{Script, print_on, Formed, lines_written, Allowed}
use Rattle.script_judge.specs.Judges.{fine_as, script_judged}
use Rattle.script_judge.specs.Reads.{script_in}
use Rattle.script_judge.specs.Faults.{FaultAt}
use Rattle.script_judge.proofs.Reader as reader
use Rattle.script_judge.proofs.OnePrint as once
use Rattle.script_judge.proofs.Cuts as cuts
use Rattle.script_judge.proofs.Ends as ends

-- Exactly the allowed scripts are read: a text has no line at fault and states s exactly where s is allowed and the text is its
-- print. (Both halves: what is read was printed, and what is allowed is read.)
pub read_exactly : (text : List ℕ) (s : Script) → (((script_judged text).fault ≡ 0) × (script_in text ≡ s)) ↔ (Allowed s × (print_on s [] ≡ text))
read_exactly = reader.read_exactly

pub read_printed : (text : List ℕ) → (script_judged text).fault ≡ 0 → Allowed (script_in text) × (print_on (script_in text) [] ≡ text)
read_printed = reader.read_printed

-- Each in one way: two scripts of the form that print alike are one, whether allowed or too long.
pub print_once : (s t : Script) → Formed 8 s → Formed 8 t → print_on s [] ≡ print_on t [] → s ≡ t
print_once = once.in_one_way

-- A text with a line at fault is the print of no allowed script.
pub not_read : (text : List ℕ) → ((script_judged text).fault ≡ 0 → ⊥) ↔ ((s : Script) → Allowed s → print_on s [] ≡ text → ⊥)
not_read = reader.not_read

-- The line that the judge gives is the first at fault, as it is told without a reader, and there is no other.
pub first_fault : (text : List ℕ) (i : ℕ) → (i ≡ 0 → ⊥) → ((script_judged text).fault ≡ i) ↔ FaultAt text i
first_fault = ends.first_fault

pub one_fault : (text : List ℕ) (i j : ℕ) → FaultAt text i → FaultAt text j → i ≡ j
one_fault = ends.one_fault

-- An allowed script has none, and the lines counted are those written out, each group's as often as its count says.
pub judged_fine : (s : Script) → Allowed s → script_judged (print_on s []) ≡ fine_as (length (lines_written s))
judged_fine = reader.judged_fine

-- 60,001 bytes of a text are enough to judge it: 3,000 lines of 20 bytes, and one byte of the line past them.
pub cut_judged : (text : List ℕ) → script_judged (take 60001 text) ≡ script_judged text
cut_judged = cuts.cut_judged

-- The empty text is the empty script.
pub empty_script : script_judged [] ≡ fine_as 0
empty_script = ends.empty_script
