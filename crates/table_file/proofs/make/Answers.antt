-- `table_file::make` meets its contract.
use mathlib.Core.Path.{refl, ap, ◌∙◌}
use Prim.Native.Nat.{ℕ}
use lib.ListN.{length}
use borrow.Author.Tests.{eq-eqb, ne_eqb, lt-ltb, le-ltb}
use Rattle.text.specs.declared.Told.{Told}
use Rattle.text.specs.Writing.{laid_at, told_on}
use Rattle.text.proofs.Laying.{front_used}
use Rattle.reading_text.specs.Tables.{table_scanned}
use Rattle.table_file.specs.Files.{complaint, scanned_said, long_line, usage, Made}
use Rattle.table_file.proofs.AnswerCases.{complained, made_good, made_long, made_wrong}
use Rattle.table_file.proofs.make.Goals as goal

pub returns-then-text-gt-LONGEST : goal.returns-then-text-gt-LONGEST
returns-then-text-gt-LONGEST c =
    let a = c.args in
    let out = a.out.now in
    let p = c.put_long-used in
    let t = complained out p.new.out long_line (complaint long_line) p.result refl p.ensures.result p.ensures.out_left in
    let e = made_long a.text.now a.letter.now a.payload.now (length out) (eq-eqb _ _ c.if-letter-eq1.true) (lt-ltb _ _ c.if-text-gt-LONGEST.true) in
    record { result = t.0 ∙ ap (λ (z : Made). told_on z.said.stream out z.said.line) e; out_left = t.1 ∙ ap (λ (z : Made). laid_at out 0 z.said.line) e; payload_left = ap (λ (z : Made). z.payload) e; out_used = front_used out long_line p.new.out p.result p.ensures.result p.ensures.out_left }

pub returns-then-letter-eq1 : goal.returns-then-letter-eq1
returns-then-letter-eq1 c =
    let a = c.args in
    let out = a.out.now in
    let q = c.put_read in
    let n = c.nth in
    let Q = table_scanned a.text.now a.payload.now in
    let e = made_good a.text.now a.letter.now a.payload.now (length out) (eq-eqb _ _ c.if-letter-eq1.true) (le-ltb _ _ c.if-text-gt-LONGEST.false) in record { result = q.ensures.result ∙ ap (λ (z : ℕ). told_on (scanned_said z (length out) Q).stream out (scanned_said z (length out) Q).line) n.ensures ∙ ap (λ (z : Made). told_on z.said.stream out z.said.line) e; out_left = q.ensures.out_left ∙ ap (λ (z : ℕ). laid_at out 0 (scanned_said z (length out) Q).line) n.ensures ∙ ap (λ (z : Made). laid_at out 0 z.said.line) e; payload_left = q.ensures.payload_left ∙ ap (λ (z : Made). z.payload) e; out_used = front_used out (scanned_said n.result (length out) Q).line _ q.result.used (ap (λ (z : Told). z.used) q.ensures.result) q.ensures.out_left }

pub returns : goal.returns
returns c =
    let a = c.args in
    let out = a.out.now in
    let p = c.put_usage-used in
    let t = complained out p.new.out usage (complaint usage) p.result refl p.ensures.result p.ensures.out_left in
    let e = made_wrong a.text.now a.letter.now a.payload.now (length out) (ne_eqb _ _ c.if-letter-eq1.false) in
    record { result = t.0 ∙ ap (λ (z : Made). told_on z.said.stream out z.said.line) e; out_left = t.1 ∙ ap (λ (z : Made). laid_at out 0 z.said.line) e; payload_left = ap (λ (z : Made). z.payload) e; out_used = front_used out usage p.new.out p.result p.ensures.result p.ensures.out_left }
