-- `c_steps::first_turn` meets its contract.
use Rattle.c_records.specs.Records.{saying_at}
use Rattle.c_steps.proofs.first_turn.Goals as goal

pub returns : goal.returns
returns c =
    let a = c.args in
    λ i. saying_at 0 0 0 (record { kind = 1; rp = a.rp; oe = 0; wp = a.wp; «data» = c.command_for.ensures i; vpp = a.vpp; address = c.address_in.ensures i })
