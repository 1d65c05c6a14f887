-- `recording_lines::good_count` meets its contract.
use Rattle.recording_lines.proofs.good_count.Goals as goal

pub returns : goal.returns
returns c = simp (c.uncounted.ensures, c.counted.ensures)
