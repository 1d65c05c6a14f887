-- `c_recording::running` meets its contract.
use mathlib.Core.Path.{refl, sym, ◌∙◌}
use native.Mathlib.Omega.{arith}
use Rattle.common.proofs.Choice.{unlike}
use Rattle.c_recording.proofs.running.Goals as goal

pub returns-then-r-ne0 : goal.returns-then-r-ne0
returns-then-r-ne0 c = record { told = λ e. absurd (unlike (sym e ∙ c.unknown.ensures)); array_left = λ z. refl }

pub returns-then-r-ne1 : goal.returns-then-r-ne1
returns-then-r-ne1 c = record { told = λ e. absurd (unlike (sym e ∙ c.unknown-then-r-ne1.ensures)); array_left = λ z. refl }

pub returns-then-key-ne1 : goal.returns-then-key-ne1
returns-then-key-ne1 c = record { told = λ e. absurd (unlike (sym e ∙ c.unknown-then-key-ne1.ensures)); array_left = λ z. refl }

pub returns-then-key-ne12 : goal.returns-then-key-ne12
returns-then-key-ne12 c = record { told = λ e. absurd (unlike (sym e ∙ c.unknown-then-key-ne12.ensures)); array_left = λ z. refl }

pub returns-then-units-rest : goal.returns-then-units-rest
returns-then-units-rest c = record { told = λ e. absurd (unlike (sym e ∙ c.unknown-then-units-rest.ensures)); array_left = λ z. refl }

pub last_poll-requires : goal.last_poll-requires
last_poll-requires c = (record { low = (let s = c.if-key-ne1.false in omega (arith, s)); phase = (let s = c.if-key-ne12.false in omega (arith, s)); kind = (let s = c.if-r-ne0.false in omega (arith, s)); seen = (let s = c.if-r-ne1.false in omega (arith, s)); supplied = c.is_high.ensures c.if-is_high.true }, c.if-rest-eq1.true)

pub returns-then-rest-eq1 : goal.returns-then-rest-eq1
returns-then-rest-eq1 c = let l = c.if-units-rest.false in record { told = λ e u s. c.last_poll.ensures.told e u (let b = (s (omega (arith, l))).0 in omega (arith, l, b)); array_left = c.last_poll.ensures.array_left }

pub more_poll-requires : goal.more_poll-requires
more_poll-requires c = (record { low = (let s = c.if-key-ne1.false in omega (arith, s)); phase = (let s = c.if-key-ne12.false in omega (arith, s)); kind = (let s = c.if-r-ne0.false in omega (arith, s)); seen = (let s = c.if-r-ne1.false in omega (arith, s)); supplied = c.is_high.ensures c.if-is_high.true }, c.if-rest-eq1.false)

pub returns-then-is_high : goal.returns-then-is_high
returns-then-is_high c = let l = c.if-units-rest.false in record { told = λ e u s. c.more_poll.ensures e c.args.array.now u (let b = (s (omega (arith, l))).0 in omega (arith, l, b)); array_left = λ z. refl }

pub returns : goal.returns
returns c = record { told = λ e. absurd (unlike (sym e ∙ c.unknown-2.ensures)); array_left = λ z. refl }
