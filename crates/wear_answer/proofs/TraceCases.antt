-- What a trace comes to, way by way, and that no line leaves a slice as it is.
use mathlib.Core.Path.{◌≡◌, sym, ap, ap₂, ◌∙◌}
use mathlib.Core.Bool.{Bool, true, false}
use mathlib.Core.List.{List, []}
use Prim.Native.Nat.{ℕ, zero-le}
use lib.Dec.{eqb, ltb}
use lib.ListN.{length}
use Rattle.common.proofs.Choice.{if_true, if_false, if_same}
use Rattle.std.specs.Counts.{IsPrefixLen}
use Rattle.std.specs.Prelude.{Result}
use Rattle.model_types.specs.declared.Wear.{Wear}
use Rattle.trace_wear.specs.declared.BadLine.{BadLine}
use Rattle.wear.specs.declared.Reported.{Reported}
use Rattle.wear_print.specs.Tables.{table_text, line_text, laid_in, count_in}
use Rattle.wear_print.proofs.Laying.{counts}
use Rattle.wear_answer.specs.declared.Counting.{Counting}
use Rattle.wear_answer.specs.declared.Said.{Said}
use Rattle.wear_answer.specs.Answers.{worn_fresh, unread, Told, said_in, uncounted, added_said, worn_said, more_said, final_text}

-- no line: nothing is used, and nothing is left otherwise
pub none_used : (out : List ℕ) → 0 ≡ count_in out []
unfolding count_in
none_used out = sym (if_same (ltb (length out) 512) 0)

pub none_laid : (out : List ℕ) → out ≡ laid_in out []
unfolding laid_in
none_laid out = sym (if_same (ltb (length out) 512) out)

-- what is said of one thing is said of an equal one
pub same : (out o : List ℕ) (r : Said) (s t : Told) → s ≡ t → r ≡ said_in out s → o ≡ laid_in out s.line → IsPrefixLen r.used o
    → (r ≡ said_in out t) × ((o ≡ laid_in out t.line) × IsPrefixLen r.used o)
same out o r s t e f g h = (f ∙ ap (said_in out) e, (g ∙ ap (λ (z : Told). laid_in out z.line) e, h))

-- a trace that is not counted: no longer are all good
pub spoiled : (out : List ℕ) (c : Counting) (sign k n : ℕ) {g : Bool} {u : ℕ} → g ≡ false → u ≡ count_in out (line_text sign k n)
    → record { counting = record { report = c.report; good = g }; used = u } ≡ said_in out (uncounted c sign k n)
spoiled out c sign k n e f = ap₂ (λ (g : Bool) (u : ℕ). record { counting = record { report = c.report; good = g }; used = u }) e f

-- without a line
pub silent : (out : List ℕ) (c : Counting) (t : Told) → record { counting = c; line = [] } ≡ t
    → (record { counting = c; used = 0 } ≡ said_in out t) × ((out ≡ laid_in out t.line) × IsPrefixLen 0 out)
silent out c t e =
    same out out (record { counting = c; used = 0 }) (record { counting = c; line = [] }) t e (ap (λ (n : ℕ). record { counting = c; used = n }) (none_used out)) (none_laid out) (counts 0 out zero-le)

-- the report takes it, or not
pub taken : (c : Counting) (k : ℕ) (r : Reported) → eqb r.number 0 ≡ true → record { counting = record { report = r.report; good = c.good }; line = [] } ≡ added_said c k r
unfolding added_said
taken c k r e = sym (if_true (eqb r.number 0) (record { counting = record { report = r.report; good = c.good }; line = [] }) (uncounted c 88 k r.number) e)

pub refused : (c : Counting) (k : ℕ) (r : Reported) → eqb r.number 0 ≡ false → uncounted c 88 k r.number ≡ added_said c k r
unfolding added_said
refused c k r e = sym (if_false (eqb r.number 0) (record { counting = record { report = r.report; good = c.good }; line = [] }) (uncounted c 88 k r.number) e)

-- it was not read to its end, or it was
pub cut : (c : Counting) (k : ℕ) (text : List ℕ) (ended : Bool) → unread (length text) ended ≡ true → uncounted c 33 k 0 ≡ more_said c k text ended
unfolding more_said
cut c k text ended e = sym (if_true (unread (length text) ended) (uncounted c 33 k 0) (worn_said c k (worn_fresh text)) e)

pub whole : (c : Counting) (k : ℕ) (text : List ℕ) (ended : Bool) (w : Result Wear BadLine) → unread (length text) ended ≡ false → worn_fresh text ≡ w → worn_said c k w ≡ more_said c k text ended
unfolding more_said
whole c k text ended w e f = ap (worn_said c k) (sym f) ∙ sym (if_false (unread (length text) ended) (uncounted c 33 k 0) (worn_said c k (worn_fresh text)) e)

-- the end, where all are counted, and where not
pub all_counted : (c : Counting) → c.good ≡ true → table_text c.report ≡ final_text c
unfolding final_text
all_counted c e = sym (if_true c.good (table_text c.report) [] e)

pub not_counted : (c : Counting) → c.good ≡ false → [] ≡ final_text c
unfolding final_text
not_counted c e = sym (if_false c.good (table_text c.report) [] e)
