use mathlib.Core.Path.{ap, ◌∙◌}
use Rattle.loader_run.specs.declared.Ran.{Ran}
use Rattle.c_records.specs.Records.{ran_out}
use Rattle.loader_held_run.specs.HeldRuns.{HeldLeft, lent_held}
use Rattle.c_held.specs.Helds.{held_run_of, held_run_left}
use Rattle.c_held.proofs.tb_held_run.Goals as goal

pub returns : goal.returns
unfolding held_run_of held_run_left
returns c =
    let a = c.args in
    let xs = a.array.now in
    let w = a.wanted.now in
    let sc = a.scratch.now in
    let ps = a.polls.now in
    let bs = a.addresses.now in
    let room = a.room.now in
    let e = c.job_in-j.ensures in
    let r = c.run_held_quick-ran.ensures in record { result = c.ran_out.ensures ∙ ap (λ (x : Ran). ran_out a.state x) (ap (λ (x : HeldLeft). x.ran) r ∙ (λ i. (lent_held (e i) xs w sc ps bs room).ran)); array_left = ap (λ (x : HeldLeft). x.bytes) r ∙ (λ i. (lent_held (e i) xs w sc ps bs room).bytes); scratch_left = ap (λ (x : HeldLeft). x.scratch) r ∙ (λ i. (lent_held (e i) xs w sc ps bs room).scratch); room_left = ap (λ (x : HeldLeft). x.room) r ∙ (λ i. (lent_held (e i) xs w sc ps bs room).room) }
