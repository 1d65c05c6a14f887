-- `recording_replay::made_from` meets its contract.
use Rattle.recording_replay.proofs.made_from.Goals as goal

pub returns : goal.returns
returns c = simp (c.used_for.ensures, c.is_free.ensures)
