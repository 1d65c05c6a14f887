-- `recording_lines::good_answer` meets its contract.
use Rattle.recording_lines.proofs.good_answer.Goals as goal

pub returns : goal.returns
returns c = simp (c.silent.ensures, c.told.ensures)
