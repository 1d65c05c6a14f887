-- `c_answers::polled` meets its contract.
use Rattle.c_answers.proofs.polled.Goals as goal

pub returns : goal.returns
returns c = λ i.
    record {
      seen = c.seen_in.ensures i;
      value = c.shown_in.ensures i;
      state = record { mode = 1; status = c.args.status; phase = c.args.phase; suspend = c.args.suspend; left = c.args.left; «data» = c.args.n.data; address = c.args.n.address; wear = c.args.n.wear };
    }
