use mathlib.Core.Path.{sym, ◌∙◌}
use Rattle.c_cycle.specs.Answers.{state_back}
use Rattle.c_cycle.proofs.states.state_back.Goals as goal

pub returns-then-no_state : goal.returns-then-no_state
unfolding state_back
returns-then-no_state c = simp (sym c.no_state.ensures ∙ c.if-no_state.true)

pub returns : goal.returns
unfolding state_back
returns c = simp (c.state_out.ensures, sym c.no_state.ensures ∙ c.if-no_state.false)
