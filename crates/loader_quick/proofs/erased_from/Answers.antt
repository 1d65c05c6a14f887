-- `loader_quick::erased_from` meets its contract.
use mathlib.Core.Path.{sym, ◌∙◌}
use Rattle.common.proofs.Choice.{if_true, if_false}
use Rattle.model_types.specs.Counts.{worn}
use Rattle.loader_quick.proofs.erased_from.Goals as goal

pub returns-then-erased : goal.returns-then-erased
returns-then-erased c =
    let a = c.args in
    let s = a.s in
    λ i. record { mode = s.mode; status = s.status; phase = s.phase; left = s.left; address = s.address; wear = (c.wear_out-worn.ensures ∙ sym (if_true a.erased (worn s.wear a.block) s.wear c.if-erased.true)) i }

pub returns : goal.returns
returns c =
    let a = c.args in
    let s = a.s in
    λ i. record { mode = s.mode; status = s.status; phase = s.phase; left = s.left; address = s.address; wear = sym (if_false a.erased (worn s.wear a.block) s.wear c.if-erased.false) i }
