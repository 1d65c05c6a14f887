use mathlib.Core.Path.{◌≡◌, sym, ◌∙◌}
use Rattle.loader_run.specs.Runs.{run_number, lent_number}
use Rattle.loader_from_file.specs.Loads.{file_number}
use Rattle.loader_held_file.proofs.HeldFileJudging.{by_run, by_file, by_lists}
use Rattle.loader_held_file.proofs.held_load_number.Goals as goal

pub returns-then-n-ne0 : goal.returns-then-n-ne0
returns-then-n-ne0 c =
    let a = c.args in
    let e : c.run_number-n.result ≡ lent_number a.j a.array a.wanted a.scratch =
    c.run_number-n.ensures ∙ (λ i. run_number a.j (c.lent_in.ensures i) (c.lent_in-2.ensures i) (c.lent_in-3.ensures i)) in
    e ∙ sym (by_run a.j a.array a.wanted a.scratch a.file.now a.asked a.addresses.now a.room (λ q. c.if-n-ne0.true (e ∙ q)))

pub returns-then-m-ne0 : goal.returns-then-m-ne0
returns-then-m-ne0 c =
    let a = c.args in
    let e : c.run_number-n.result ≡ lent_number a.j a.array a.wanted a.scratch =
    c.run_number-n.ensures ∙ (λ i. run_number a.j (c.lent_in.ensures i) (c.lent_in-2.ensures i) (c.lent_in-3.ensures i)) in
    let f : c.file_number-m.result ≡ file_number a.file.now a.asked a.wanted = c.file_number-m.ensures in
    f ∙ sym (by_file a.j a.array a.wanted a.scratch a.file.now a.asked a.addresses.now a.room (sym e ∙ c.if-n-ne0.false) (λ q. c.if-m-ne0.true (f ∙ q)))

pub returns : goal.returns
returns c =
    let a = c.args in
    let e : c.run_number-n.result ≡ lent_number a.j a.array a.wanted a.scratch =
    c.run_number-n.ensures ∙ (λ i. run_number a.j (c.lent_in.ensures i) (c.lent_in-2.ensures i) (c.lent_in-3.ensures i)) in
    let f : c.file_number-m.result ≡ file_number a.file.now a.asked a.wanted = c.file_number-m.ensures in
    c.list_number.ensures ∙ sym (by_lists a.j a.array a.wanted a.scratch a.file.now a.asked a.addresses.now a.room (sym e ∙ c.if-n-ne0.false) (sym f ∙ c.if-m-ne0.false))
