-- `table_text::put_knots` meets its contract: the lines that are left, laid behind those that stand, are the table's.
use mathlib.Core.Path.{◌∙◌}
use mir.Syntax.{w16, w32}
use mir.ValLaws.{to_z-of_z}
use Rattle.table_text.proofs.Rounds.{goes_start, goes_on, goes_end}
use Rattle.table_text.proofs.put_knots.Goals as goal

pub loop-i-init : goal.loop-i-init
loop-i-init c = goes_start c.args.out.now c.args.payload.now

pub loop-i-preserved : goal.loop-i-preserved
loop-i-preserved c =
    let a = c.args in
    let l = c.loop-i in
    let k = c.put_knot-at in
    let v = c.volts-volts in
    let t = c.tenths-tenths in
    goes_on a.out.now a.payload.now l.out k.new.out _ l.i l.at k.result _ _ l.invariant c.loop-i-test.true (to_z-of_z w32 v.result (record { sfits = v.type_inv }) ∙ v.ensures) (to_z-of_z w16 t.result (record { sfits = t.type_inv }) ∙ t.ensures) k.ensures.result k.ensures.out_left

pub returns : goal.returns
returns c = let a = c.args in let l = c.loop-i in let both = goes_end a.out.now a.payload.now l.out _ l.i l.at l.invariant c.loop-i-test.false in record { result = both.0; out_left = both.1 }
