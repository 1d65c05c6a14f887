-- `recording_replay::log_by` meets its contract.
use Rattle.recording_replay.proofs.log_by.Goals as goal

pub returns : goal.returns
returns c = simp (c.first_of-2.ensures, c.first_number.ensures, c.first_of.ensures, c.cuts-gone.ensures, c.number_in-m.ensures)
