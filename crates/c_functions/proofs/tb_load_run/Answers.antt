use mathlib.Core.Path.{ap, ◌∙◌}
use Rattle.loader_run.specs.declared.Ran.{Ran}
use Rattle.loader_run.specs.Runs.{lent_run}
use Rattle.c_records.specs.Records.{ran_out}
use Rattle.c_functions.specs.Calls.{run_at_of, array_run_at, scratch_run_at}
use Rattle.c_functions.proofs.tb_load_run.Goals as goal

pub returns : goal.returns
unfolding run_at_of array_run_at scratch_run_at
returns c =
    let a = c.args in
    let xs = a.array.now in
    let w = a.wanted.now in
    let sc = a.scratch.now in
    let e = c.job_in-j.ensures in
    let r = c.run_quick-r.ensures in record { result = c.ran_out.ensures ∙ ap (λ (x : Ran). ran_out a.state x) (r.result ∙ (λ i. (lent_run (e i) xs w sc).ran)); array_left = r.array_left ∙ (λ i. (lent_run (e i) xs w sc).bytes); scratch_left = r.scratch_left ∙ (λ i. (lent_run (e i) xs w sc).scratch) }
