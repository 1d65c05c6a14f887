-- `recording_replay::busy_of` meets its contract.
use mathlib.Core.Path.{sym, ◌∙◌}
use Rattle.recording_replay.specs.Recorded.{busy_of}
use Rattle.recording_replay.proofs.busy_of.Goals as goal

pub returns-then-starts : goal.returns-then-starts
unfolding busy_of
returns-then-starts c = simp (c.time_awaited.ensures, sym c.starts.ensures ∙ c.if-starts.true)

pub returns : goal.returns
unfolding busy_of
returns c = simp (sym c.starts.ensures ∙ c.if-starts.false)
