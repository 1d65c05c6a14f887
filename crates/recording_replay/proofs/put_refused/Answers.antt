-- `recording_replay::put_refused` meets its contract.
use mathlib.Core.List.{List, ◌++◌}
use Prim.Native.Nat.{ℕ}
use Rattle.text.specs.Digits.{decimal_of}
use Rattle.text.specs.Writing.{bytes}
use Rattle.text.proofs.Laying.{laid_first, laid_more}
use Rattle.recording_replay.specs.Recorded.{line_note}
use Rattle.recording_replay.proofs.put_refused.Goals as goal

pub returns : goal.returns
returns c =
    let a = c.args in
    let xs = a.out.now in
    let p0 = c.put_line-a in
    let p1 = c.put_decimal-b in
    let p2 = c.put_text in
    let A : List ℕ = line_note a.line (bytes ": the cycle is refused by ") in
    let f0 = laid_first xs A p0.new.out 0 p0.result p0.ensures.result p0.ensures.out_left in
    let f1 = laid_more xs A (decimal_of a.number) p0.new.out p1.new.out 0 p0.result p1.result f0 p1.ensures.result p1.ensures.out_left in
    let f2 = laid_more xs (A ++ decimal_of a.number) (bytes ", which is no answer of a device: there is no recording\n") p1.new.out p2.new.out 0 p1.result p2.result f1 p2.ensures.result p2.ensures.out_left in
    record { result = f2.place; out_left = f2.bytes }
