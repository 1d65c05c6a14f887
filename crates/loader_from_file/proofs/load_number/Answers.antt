-- `loader_from_file::load_number` meets its contract.
use mathlib.Core.Path.{◌≡◌, sym, ◌∙◌}
use lib.Dec.{eqb}
use borrow.Author.Tests.{eq-eqb, ne_eqb}
use Rattle.common.proofs.Choice.{if_true, if_false}
use Rattle.loader_run.specs.Runs.{run_number, lent_number}
use Rattle.loader_from_file.proofs.Judging.{file_after}
use Rattle.loader_from_file.proofs.load_number.Goals as goal

pub returns-then-n-eq0 : goal.returns-then-n-eq0
returns-then-n-eq0 c =
    let a = c.args in
    let n = lent_number a.j a.array a.wanted a.scratch in
    let e : c.run_number-n.result ≡ n = c.run_number-n.ensures ∙ (λ i. run_number a.j (c.lent_in.ensures i) (c.lent_in-2.ensures i) (c.lent_in-3.ensures i)) in
    c.file_number.ensures ∙ sym (file_after a.j a.array a.wanted a.scratch a.file.now a.asked ∙ if_true (eqb n 0) _ _ (eq-eqb n 0 (sym e ∙ c.if-n-eq0.true)))

pub returns : goal.returns
returns c =
    let a = c.args in
    let n = lent_number a.j a.array a.wanted a.scratch in
    let e : c.run_number-n.result ≡ n = c.run_number-n.ensures ∙ (λ i. run_number a.j (c.lent_in.ensures i) (c.lent_in-2.ensures i) (c.lent_in-3.ensures i)) in
    e ∙ sym (file_after a.j a.array a.wanted a.scratch a.file.now a.asked ∙ if_false (eqb n 0) _ _ (ne_eqb n 0 (λ q. c.if-n-eq0.false (e ∙ q))))
