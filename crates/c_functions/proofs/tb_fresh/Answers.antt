use mathlib.Core.Path.{ap, ◌∙◌}
use Rattle.model_types.specs.declared.State.{State}
use Rattle.c_cycle.specs.Values.{state_out}
use Rattle.c_functions.proofs.tb_fresh.Goals as goal

pub returns : goal.returns
returns c = c.state_out.ensures ∙ ap (λ (x : State). state_out x) c.fresh.ensures
