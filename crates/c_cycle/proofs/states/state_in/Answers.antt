use mathlib.Core.Path.{sym, ◌∙◌}
use Rattle.c_cycle.specs.Values.{state_in}
use Rattle.c_cycle.proofs.states.state_in.Goals as goal

pub returns-then-no_state : goal.returns-then-no_state
unfolding state_in
returns-then-no_state c = simp (c.unworn.ensures, sym c.no_state.ensures ∙ c.if-no_state.true)

pub returns : goal.returns
unfolding state_in
returns c = simp (c.wear_in.ensures, c.phase_in.ensures, c.mode_in.ensures, sym c.no_state.ensures ∙ c.if-no_state.false)
