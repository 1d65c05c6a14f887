-- `script_run::past_close` meets its contract.
use mathlib.Core.Path.{sym, ◌∙◌}
use Rattle.script_run.proofs.Runs.{closes_room, close_true, close_false}
use Rattle.script_run.proofs.past_close.Goals as goal

pub overflow_sub-result : goal.overflow_sub-result
overflow_sub-result c =
    let a = c.args in let w = sym c.closes_at.ensures ∙ c.if-closes_at.true in (closes_room a.text.now a.x.left a.x.at w).0

pub returns-then-closes_at : goal.returns-then-closes_at
returns-then-closes_at c =
    let a = c.args in let w = sym c.closes_at.ensures ∙ c.if-closes_at.true in sym (close_true a.text.now a.x w)

pub returns : goal.returns
returns c =
    let a = c.args in let w = sym c.closes_at.ensures ∙ c.if-closes_at.false in sym (close_false a.text.now a.x w)
