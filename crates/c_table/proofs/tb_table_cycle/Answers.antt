use mathlib.Core.Path.{◌∙◌}
use Rattle.table_engine.proofs.Claims.{engines_agree}
use Rattle.c_cycle.proofs.Cycles.{cycle_given}
use Rattle.c_table.proofs.tb_table_cycle.Goals as goal

pub returns : goal.returns
returns c =
    let a = c.args in
    let xs = a.array.now in
    let rs = a.residue.now in
    let cycle = c.cycle-a in
    let agree =
    engines_agree c.device_in-d.result c.state_in-s.result
    c.cycle_in-c.result xs rs in
    let both = cycle_given a.device a.state a.bus xs rs _ _ _ _ _ _ c.device_in-d.ensures
    c.state_in-s.ensures c.cycle_in-c.ensures
    (cycle.ensures.result ∙ agree.0) (cycle.ensures.array_left ∙ agree.1) c.answer_out.ensures in record { result = both.0; array_left = both.1 }
