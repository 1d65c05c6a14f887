-- `script_run::marked` meets its contract.
use mathlib.Core.Path.{refl}
use native.Mathlib.Omega.{arith}
use Rattle.script_run.proofs.Lines.{mark_short, mark_short_out, mark_long, mark_long_out, mark_used}
use Rattle.script_run.proofs.marked.Goals as goal

pub returns-then-out-lt7 : goal.returns-then-out-lt7
returns-then-out-lt7 c =
    let a = c.args in
    record { result = mark_short a.fault a.out.now c.if-out-lt7.true; out_left = mark_short_out a.fault a.out.now c.if-out-lt7.true; out_used = (omega arith, refl) }

pub returns : goal.returns
returns c =
    let a = c.args in let k = c.write_mark in let l = c.if-out-lt7.false in
    record { result = mark_long a.fault a.out.now l; out_left = mark_long_out a.fault a.out.now k.new.out l k.ensures; out_used = mark_used a.out.now k.new.out l k.auto.out }
