-- `vectors_states::state_at` meets its contract.
use Rattle.vectors_states.specs.Letters.{state_at}
use Rattle.vectors_states.proofs.state_at.Goals as goal

pub returns : goal.returns
unfolding state_at
returns c = simp (c.word_at-address.ensures, c.half_at-left.ensures, c.phase_by-phase.ensures, c.nth-2.ensures, c.half_at-value.ensures, c.mode_by-mode.ensures, c.nth.ensures, c.byte_at-status.ensures)
