-- `reading_text::read_table` meets its contract.
use mathlib.Core.Path.{refl, sym, ap, ◌∙◌, subst}
use Prim.Native.Nat.{ℕ, zero-le, ◌+◌, ◌/◌, ◌≤◌}
use lib.ListN.{get_or, length, drop}
use Rattle.reading_text.specs.declared.Scan.{Scan}
use Rattle.reading_text.specs.Tables.{Scanned, scan_more, scan_all, table_read, table_scanned}
use Rattle.reading_text.proofs.Told.{end_told}
use Rattle.reading_text.proofs.Walks.{step_next, step_end, step_few}
use Rattle.reading_text.proofs.read_table.Goals as goal

pub loop-b-init : goal.loop-b-init
unfolding table_scanned
loop-b-init c = rw c.scan_start-s.ensures (refl, zero-le)

pub loop-b-preserved : goal.loop-b-preserved
loop-b-preserved c =
    let l = c.loop-b in
    let a = c.args in
    let s = c.step-s.ensures in
    let few = subst (λ (n : ℕ). l.s.knots ≤ n / 6) (sym l.auto.out) l.invariant.1 in
    let kept = subst (λ (n : ℕ). (scan_more l.s (get_or a.text.now l.b-index 0) l.out).scan.knots ≤ n / 6) l.auto.out (step_few l.s l.out few (get_or a.text.now l.b-index 0)) in (
      (λ j. scan_all (drop (l.b-index + 1) a.text.now) (record { scan = s.result j; payload = s.out_left j }))
          ∙ sym (step_next (record { scan = l.s; payload = l.out }) a.text.now l.b-index c.loop-b-test.true)
          ∙ l.invariant.0,
      subst (λ (z : Scan). z.knots ≤ length a.out.now / 6) (sym s.result) kept,
    )

pub returns-clause-told : goal.returns-clause-told
returns-clause-told c =
    let l = c.loop-b in
    let a = c.args in
    let e = sym (step_end (record { scan = l.s; payload = l.out }) a.text.now l.b-index c.loop-b-test.false) ∙ l.invariant.0 in
    end_told (table_scanned a.text.now a.out.now).scan (c.table_end.ensures ∙ ap (λ (q : Scanned). table_read q.scan) e)
