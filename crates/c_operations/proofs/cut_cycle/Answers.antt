-- `c_operations::cut_cycle` meets its contract.
use Rattle.c_operations.proofs.Supplying.{cutting}
use Rattle.c_operations.proofs.cut_cycle.Goals as goal

pub program_cut-requires : goal.program_cut-requires
program_cut-requires c = (c.requires.0, c.is_running.ensures c.if-is_running.true c.requires.1, cutting c.args.d c.args.b _ c.requires.0 c.requires.2 c.if-b.true, c.if-n-eq3.true)

pub erase_cut-requires : goal.erase_cut-requires
erase_cut-requires c = let run = c.is_running.ensures c.if-is_running.true c.requires.1 in
    (c.requires.0, run, cutting c.args.d c.args.b _ c.requires.0 c.requires.2 c.if-b.true, run.erases c.if-n-eq3.false)
