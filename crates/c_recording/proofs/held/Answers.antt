-- `c_recording::held` meets its contract.
use mathlib.Core.Path.{sym, ◌∙◌}
use native.Mathlib.Omega.{arith}
use Rattle.common.proofs.Choice.{unlike}
use Rattle.c_recording.proofs.held.Goals as goal

pub returns-then-key-gt1 : goal.returns-then-key-gt1
returns-then-key-gt1 c = λ e. absurd (unlike (sym e ∙ c.unknown.ensures))

pub returns-then-rest-eq0 : goal.returns-then-rest-eq0
returns-then-rest-eq0 c = λ e. absurd (unlike (sym e ∙ c.unknown-then-rest-eq0.ensures))

pub returns-then-rest-ne0 : goal.returns-then-rest-ne0
returns-then-rest-ne0 c = λ e. absurd (unlike (sym e ∙ c.unknown-then-rest-ne0.ensures))

pub returns-then-units-rest : goal.returns-then-units-rest
returns-then-units-rest c = λ e. absurd (unlike (sym e ∙ c.unknown-then-units-rest.ensures))

pub held_read-requires : goal.held_read-requires
held_read-requires c = (record { low = (let s = c.if-key-gt1.false in omega (arith, s)); phase = c.requires; more = (let s = c.if-rest-eq0.false in omega (arith, s)); unit = (let s = c.if-rest-ne0.false in omega (arith, s)); supplied = c.is_high.ensures c.if-is_high.true }, c.if-r-eq0.true)

pub returns-then-r-eq0 : goal.returns-then-r-eq0
returns-then-r-eq0 c = let l = c.if-units-rest.false in λ e u s. c.held_read.ensures e u (let b = (s (omega (arith, l))).0 in omega (arith, l, b))

pub held_write-requires : goal.held_write-requires
held_write-requires c = (record { low = (let s = c.if-key-gt1.false in omega (arith, s)); phase = c.requires; more = (let s = c.if-rest-eq0.false in omega (arith, s)); unit = (let s = c.if-rest-ne0.false in omega (arith, s)); supplied = c.is_high.ensures c.if-is_high.true }, c.if-r-eq1.true)

pub returns-then-r-eq1 : goal.returns-then-r-eq1
returns-then-r-eq1 c = let l = c.if-units-rest.false in λ e u s. c.held_write.ensures e c.args.array.now u (let b = (s (omega (arith, l))).0 in omega (arith, l, b))

pub returns : goal.returns
returns c = λ e. absurd (unlike (sym e ∙ c.unknown-2.ensures))
