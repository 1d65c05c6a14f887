-- `c_steps::first_record` meets its contract.
use Rattle.c_steps.proofs.first_record.Goals as goal

pub returns : goal.returns
returns c =
    let a = c.args in
    λ i. record {
      part = a.part;
      word = a.word;
      rp = a.rp;
      wp = a.wp;
      block = a.block;
      stage = c.stage_for.ensures i;
      end = 0;
      verify = c.verify_for.ensures i;
      high = 0;
      vpp = a.vpp;
      polls = 0;
      place = 0;
    }
