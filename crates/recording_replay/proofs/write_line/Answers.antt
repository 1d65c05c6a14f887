-- `recording_replay::write_line` meets its contract.
use mathlib.Core.List.{◌++◌}
use lib.ListN.{take}
use Rattle.text.proofs.Laying.{laid_first, laid_more}
use Rattle.recording_replay.specs.Recorded.{answer_for, count_for}
use Rattle.recording_replay.proofs.write_line.Goals as goal

pub returns : goal.returns
returns c =
    let a = c.args in
    let xs = a.out.now in
    let p0 = c.put_text-a in
    let p1 = c.put_answer-b in
    let p2 = c.put_count in
    let f0 = laid_first xs (take 19 a.line.now) p0.new.out 0 p0.result p0.ensures.result p0.ensures.out_left in
    let f1 = laid_more xs (take 19 a.line.now) (answer_for a.seen) p0.new.out p1.new.out 0 p0.result p1.result f0 p1.ensures.result p1.ensures.out_left in
    let f2 = laid_more xs (take 19 a.line.now ++ answer_for a.seen) (count_for a.busy) p1.new.out p2.new.out 0 p1.result p2.result f1 p2.ensures.result p2.ensures.out_left in
    f2.bytes
