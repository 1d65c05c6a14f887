use mathlib.Core.Path.{ap, ◌∙◌}
use Rattle.loader_run.specs.declared.Ran.{Ran}
use Rattle.loader_from_file.specs.Loads.{load_left}
use Rattle.c_records.specs.Records.{ran_out}
use Rattle.c_functions.specs.Calls.{file_at_of, array_file_at, wanted_file_at, scratch_file_at}
use Rattle.c_functions.proofs.tb_load.Goals as goal

pub returns : goal.returns
unfolding file_at_of array_file_at wanted_file_at scratch_file_at
returns c =
    let a = c.args in
    let f = a.file.now in
    let xs = a.array.now in
    let w = a.wanted.now in
    let sc = a.scratch.now in
    let e = c.job_in-j.ensures in
    let r = c.load-r.ensures in record { result = c.ran_out.ensures ∙ ap (λ (x : Ran). ran_out a.state x) (r.result ∙ (λ i. (load_left (e i) xs w sc f a.letter).ran)); array_left = r.array_left ∙ (λ i. (load_left (e i) xs w sc f a.letter).bytes); wanted_left = r.wanted_left ∙ (λ i. (load_left (e i) xs w sc f a.letter).wanted); scratch_left = r.scratch_left ∙ (λ i. (load_left (e i) xs w sc f a.letter).scratch) }
