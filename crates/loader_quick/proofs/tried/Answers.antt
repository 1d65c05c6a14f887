-- `loader_quick::tried` meets its contract.
use mathlib.Core.Path.{sym, ap, ◌∙◌}
use Prim.Native.Nat.{ℕ, ◌+◌}
use Rattle.common.proofs.Choice.{if_true, if_false}
use Rattle.model_types.specs.declared.Mode.TheVariants.{Status}
use Rattle.model_states.specs.States.{is_at_rest}
use Rattle.loader_quick.specs.Quick.{tried_of}
use Rattle.loader_quick.proofs.tried.Goals as goal

pub returns-then-differs : goal.returns-then-differs
unfolding tried_of
returns-then-differs c =
    let a = c.args in
    (λ i. record { count = a.n + 5; end = c.fault_end.ensures i; address = 0; state = (c.at_rest.ensures ∙ ap (λ (y : ℕ). is_at_rest a.s Status y) c.fault_bits.ensures) i })
    ∙ sym (if_true a.f.differs _ _ c.if-differs.true)

pub returns : goal.returns
unfolding tried_of
returns c =
    let a = c.args in
    (λ i. record { count = a.n + 2; end = 0; address = 0; state = c.at_rest-2.ensures i }) ∙ sym (if_false a.f.differs _ _ c.if-differs.false)
