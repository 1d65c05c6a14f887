-- `store_answer::put_list` meets its contract.
use mathlib.Core.Bool.{true, false}
use Rattle.text.proofs.Laying.{laid_first, laid_more}
use Rattle.store_answer.specs.Listing.{pieces_of}
use Rattle.store_answer.proofs.put_list.Goals as goal

pub returns : goal.returns
returns c =
    let a = c.args in
    let out = a.out.now in
    let M = a.main.now in
    let p0 = c.put_pieces-a in
    let p1 = c.put_pieces in
    let f0 = laid_first out (pieces_of false M) p0.new.out 0 p0.result p0.ensures.result p0.ensures.out_left in
    let f1 = laid_more out (pieces_of false M) (pieces_of true M) p0.new.out p1.new.out 0 p0.result p1.result f0 p1.ensures.result p1.ensures.out_left in
    record { result = f1.place; out_left = f1.bytes }
