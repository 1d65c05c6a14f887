-- `c_store::tb_store_add` meets its contract.
use mathlib.Core.Path.{◌≡◌, ap, ◌∙◌}
use Rattle.loader_run.specs.declared.Ran.{Ran}
use Rattle.c_records.specs.Records.{ran_out}
use Rattle.store.specs.Stores.{add_left}
use Rattle.c_cycle.specs.Values.{device_in, state_in, pins_in}
use Rattle.c_store.specs.Calls.{added}
use Rattle.c_store.proofs.tb_store_add.Goals as goal

pub returns : goal.returns
unfolding added
returns c =
    let a = c.args in
    let X = a.array.now in
    let M = a.memory.now in
    let S = a.scratch.now in
    let d : c.device_in-d.result ≡ device_in a.device = c.device_in-d.ensures in
    let s : c.state_in-s.result ≡ state_in a.state = c.state_in-s.ensures in
    let p : c.pins_in-p.result ≡ pins_in a.rp a.wp a.vpp = c.pins_in-p.ensures in
    let r = c.add_file-r.ensures in record { result = c.ran_out.ensures ∙ ap (λ (x : Ran). ran_out a.state x) (r.result ∙ (λ i. (add_left (d i) (s i) (p i) X M S a.file.now a.letter).ran)); array_left = r.array_left ∙ (λ i. (add_left (d i) (s i) (p i) X M S a.file.now a.letter).bytes); memory_left = r.memory_left ∙ (λ i. (add_left (d i) (s i) (p i) X M S a.file.now a.letter).memory); scratch_left = r.scratch_left ∙ (λ i. (add_left (d i) (s i) (p i) X M S a.file.now a.letter).scratch) }
