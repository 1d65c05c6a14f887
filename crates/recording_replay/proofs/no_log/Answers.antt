-- `recording_replay::no_log` meets its contract.
use Rattle.recording_replay.proofs.no_log.Goals as goal

pub returns : goal.returns
returns c = simp c.fresh-s.ensures
