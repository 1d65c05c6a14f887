-- `c_recording::erasing` meets its contract.
use mathlib.Core.Path.{sym, ◌∙◌}
use native.Mathlib.Omega.{arith}
use Rattle.common.proofs.Choice.{unlike}
use Rattle.c_recording.proofs.erasing.Goals as goal

pub returns-then-key-ne1 : goal.returns-then-key-ne1
returns-then-key-ne1 c = λ e. absurd (unlike (sym e ∙ c.unknown.ensures))

pub returns-then-rest-lt2 : goal.returns-then-rest-lt2
returns-then-rest-lt2 c = λ e. absurd (unlike (sym e ∙ c.unknown-then-rest-lt2.ensures))

pub returns-then-rest-ne0 : goal.returns-then-rest-ne0
returns-then-rest-ne0 c = λ e. absurd (unlike (sym e ∙ c.unknown-then-rest-ne0.ensures))

pub returns-then-units-rest : goal.returns-then-units-rest
returns-then-units-rest c = λ e. absurd (unlike (sym e ∙ c.unknown-then-units-rest.ensures))

pub erase_poll-requires : goal.erase_poll-requires
erase_poll-requires c = (record { low = (let s = c.if-key-ne1.false in omega (arith, s)); phase = c.requires; more = (let s = c.if-rest-lt2.false in omega (arith, s)); unit = (let s = c.if-rest-ne0.false in omega (arith, s)); supplied = c.is_high.ensures c.if-is_high.true }, c.if-r-eq0.true)

pub returns-then-r-eq0 : goal.returns-then-r-eq0
returns-then-r-eq0 c = let l = c.if-units-rest.false in λ e xs u s. c.erase_poll.ensures e xs u (let b = (s (omega (arith, l))).0 in omega (arith, l, b))

pub suspend_write-requires : goal.suspend_write-requires
suspend_write-requires c = (record { low = (let s = c.if-key-ne1.false in omega (arith, s)); phase = c.requires; more = (let s = c.if-rest-lt2.false in omega (arith, s)); unit = (let s = c.if-rest-ne0.false in omega (arith, s)); supplied = c.is_high.ensures c.if-is_high.true }, c.if-r-eq1.true)

pub returns-then-r-eq1 : goal.returns-then-r-eq1
returns-then-r-eq1 c = let l = c.if-units-rest.false in λ e xs u s. c.suspend_write.ensures e xs u (let b = (s (omega (arith, l))).0 in omega (arith, l, b))

pub returns : goal.returns
returns c = λ e. absurd (unlike (sym e ∙ c.unknown-2.ensures))
