-- `c_steps::on_to` meets its contract.
use Rattle.c_records.specs.Records.{saying_at}
use Rattle.c_steps.proofs.on_to.Goals as goal

pub returns : goal.returns
returns c =
    let a = c.args in
    let r = a.r in
    λ i. record {
      turn = saying_at 0 0 0 (record { kind = r.kind; rp = a.rp; oe = 0; wp = a.wp; «data» = c.data_in-carried.ensures i; vpp = a.vpp; address = c.address_in-address.ensures i });
      loader = c.moved_on.ensures i;
    }
