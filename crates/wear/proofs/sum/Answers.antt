-- `wear::sum` meets its contract: the traces and the seven blocks are all that there is.
use mathlib.Core.Path.{◌≡◌, sym, ◌∙◌}
use native.Mathlib.Omega.{arith}
use Rattle.wear.specs.Reports.{no_report, report_from, tally_of}
use Rattle.wear.proofs.Blockwise.{traces_are}
use Rattle.wear.proofs.sum.Goals as goal

pub returns : goal.returns
unfolding tally_of
returns c =
    let e : c.args.n ≡ (report_from c.args.n 0 c.args.s.now no_report).traces = sym (traces_are c.args.n 0 c.args.s.now no_report (omega arith) ∙ omega arith) in
    λ i. record {
      traces = e i;
      block0 = c.column.ensures i;
      block1 = c.column-2.ensures i;
      block2 = c.column-3.ensures i;
      block3 = c.column-4.ensures i;
      block4 = c.column-5.ensures i;
      block5 = c.column-6.ensures i;
      block6 = c.column-7.ensures i;
    }
