-- `c_recording::at_rest` meets its contract.
use mathlib.Core.Path.{sym, ◌∙◌}
use native.Mathlib.Omega.{arith}
use Rattle.common.proofs.Choice.{unlike}
use Rattle.c_recording.proofs.at_rest.Goals as goal

pub returns-then-key-gt2 : goal.returns-then-key-gt2
returns-then-key-gt2 c = λ e. absurd (unlike (sym e ∙ c.unknown.ensures))

pub returns-then-r-eq0 : goal.returns-then-r-eq0
returns-then-r-eq0 c = λ e u. c.rest_read.ensures e u (let s = c.if-key-gt2.false in omega (arith, s), c.if-key-eq2.true)

pub returns-then-key-eq2 : goal.returns-then-key-eq2
returns-then-key-eq2 c = λ e u. c.rest_write.ensures e c.args.array.now u (let s = c.if-key-gt2.false in omega (arith, s), c.if-key-eq2.true)

pub returns-then-key-ne1 : goal.returns-then-key-ne1
returns-then-key-ne1 c = λ e. absurd (unlike (sym e ∙ c.unknown-then-key-ne1.ensures))

pub data_write-requires : goal.data_write-requires
data_write-requires c = (let s = c.if-key-ne1.false in omega (arith, s), c.if-key-eq10.true)

pub returns-then-key-eq10 : goal.returns-then-key-eq10
returns-then-key-eq10 c = λ e u. c.data_write.ensures e c.args.array.now u

pub returns : goal.returns
returns c = λ e. absurd (unlike (sym e ∙ c.unknown-2.ensures))
