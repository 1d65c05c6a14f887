-- `loader_quick::finished` meets its contract.
use mathlib.Core.Path.{◌∙◌}
use Prim.Native.Nat.{◌+◌}
use Rattle.model_states.specs.States.{is_at_rest}
use Rattle.loader_quick.proofs.finished.Goals as goal

pub returns : goal.returns
returns c =
    let a = c.args in
    λ i. record { count = a.n + 2 + a.w.cycles; end = 0; address = 0; state = (c.at_rest-state.ensures ∙ (λ j. is_at_rest (c.erased_from-worn.ensures j) (c.mode_by-mode.ensures j) 128)) i }
