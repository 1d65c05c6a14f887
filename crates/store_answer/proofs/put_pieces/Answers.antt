-- `store_answer::put_pieces` meets its contract: what is left to tell, laid behind what stands, is all that is told.
use mathlib.Core.Path.{refl}
use native.Mathlib.Omega.{arith}
use Rattle.store_answer.proofs.Rounds.{goes_start, goes_on, goes_end}
use Rattle.store_answer.proofs.put_pieces.Goals as goal

pub loop-p-init : goal.loop-p-init
loop-p-init c = let a = c.args in goes_start a.rows a.main.now a.out.now a.at _ c.requires.0 refl

pub loop-p-preserved : goal.loop-p-preserved
loop-p-preserved c =
    let a = c.args in
    let l = c.loop-p in
    let k = c.put_piece-a in
    let w = c.pace_on-w in
    goes_on a.rows a.main.now a.out.now l.out k.new.out a.at _ l.p l.a k.result l.w w.result l.invariant (omega arith) k.ensures.result k.ensures.out_left w.ensures

pub returns : goal.returns
returns c =
    let a = c.args in
    let l = c.loop-p in
    let both = goes_end a.rows a.main.now a.out.now l.out a.at _ l.p l.a l.w l.invariant (omega arith) in record { result = both.0; out_left = both.1 }
