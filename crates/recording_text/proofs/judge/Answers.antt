-- `recording_text::judge` meets its contract: the walk from a fresh bench over the text's records, and its end.
use Rattle.recording_text.proofs.Judging.{read_few, left, judged}
use Rattle.recording_text.proofs.judge.Goals as goal

pub bad_after-requires : goal.bad_after-requires
bad_after-requires c =
    let a = c.args in
    read_few a.text.now a.promised.now a.array.now c.bench-d.result c.fresh-s.result c.begin-from.result c.walk_lines-c.result
    c.bench-d.ensures c.fresh-s.ensures c.begin-from.ensures c.walk_lines-c.ensures.0

pub returns : goal.returns
returns c =
    let a = c.args in
    let d = c.bench-d in
    let s = c.fresh-s in
    let w = c.begin-from in
    let x = c.walk_lines-c in
    let e = c.end-x in record {
      result = judged a.text.now a.promised.now a.array.now d.result s.result w.result x.result d.ensures s.ensures w.ensures x.ensures.0
          x.new.array e.new.array x.ensures.1 e.ensures.1 e.result c.bad_after.result e.ensures.0 c.bad_after.ensures;
      array_left = left a.text.now a.promised.now a.array.now d.result s.result w.result x.result d.ensures s.ensures w.ensures x.ensures.0
          x.new.array e.new.array x.ensures.1 e.ensures.1;
    }
