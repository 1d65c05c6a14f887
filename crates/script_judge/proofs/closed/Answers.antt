-- `script_judge::closed` meets its contract.
use mathlib.Core.Path.{sym, ◌∙◌}
use native.Mathlib.Omega.{arith}
use Rattle.common.proofs.Choice.{if_true, if_false}
use Rattle.script_judge.proofs.Reading as reading
use Rattle.script_judge.proofs.closed.Goals as goal

pub past-requires : goal.past-requires
past-requires c =
    let a = c.args in let h = c.requires in let w = sym c.closes_at.ensures ∙ c.if-closes_at.true in
    (h.0, omega arith, reading.was_close a.text.now a.x h.1 w, h.1)

pub returns-then-closes_at : goal.returns-then-closes_at
returns-then-closes_at c =
    let w = sym c.closes_at.ensures ∙ c.if-closes_at.true in
    c.past.ensures ∙ sym (if_true _ _ _ w)

pub returns : goal.returns
returns c =
    let w = sym c.closes_at.ensures ∙ c.if-closes_at.false in
    c.fault_at.ensures ∙ sym (if_false _ _ _ w)
