-- `loader_held_quick::more` meets its contract.
use Prim.Native.Nat.{◌+◌}
use Rattle.loader_held_quick.proofs.more.Goals as goal

pub returns : goal.returns
returns c =
    let r = c.args.r in
    λ i. record {
      count = r.count + c.args.added;
      end = r.end;
      address = r.address;
      state =
          record {
            mode = c.turned_mode-next.ensures i;
            status = r.state.status;
            phase = r.state.phase;
            left = r.state.left;
            address = r.state.address;
            wear = r.state.wear;
          };
    }
