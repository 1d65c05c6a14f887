use mathlib.Core.Path.{ap, ◌∙◌}
use Rattle.loader_run.specs.declared.Ran.{Ran}
use Rattle.c_records.specs.Records.{ran_out}
use Rattle.loader_held_file.specs.HeldLoads.{held_file_left}
use Rattle.c_held.specs.Helds.{held_load_of, held_load_left}
use Rattle.c_held.proofs.tb_held_load.Goals as goal

pub returns : goal.returns
unfolding held_load_of held_load_left
returns c =
    let a = c.args in
    let f = a.file.now in
    let xs = a.array.now in
    let w = a.wanted.now in
    let sc = a.scratch.now in
    let ps = a.polls.now in
    let bs = a.addresses.now in
    let room = a.room.now in
    let e = c.job_in-j.ensures in
    let r = c.load_held-ran.ensures in record { result = c.ran_out.ensures ∙ ap (λ (x : Ran). ran_out a.state x) (r.result ∙ (λ i. (held_file_left (e i) xs w sc f a.letter ps bs room).ran)); array_left = r.array_left ∙ (λ i. (held_file_left (e i) xs w sc f a.letter ps bs room).bytes); wanted_left = r.wanted_left ∙ (λ i. (held_file_left (e i) xs w sc f a.letter ps bs room).wanted); scratch_left = r.scratch_left ∙ (λ i. (held_file_left (e i) xs w sc f a.letter ps bs room).scratch); room_left = r.room_left ∙ (λ i. (held_file_left (e i) xs w sc f a.letter ps bs room).room) }
