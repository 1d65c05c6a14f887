-- `recording_lines::record_in` meets its contract.
use Rattle.recording_lines.specs.Records.{record_stated}
use Rattle.recording_lines.proofs.record_in.Goals as goal

pub returns : goal.returns
unfolding record_stated
returns c = simp (c.count_in-n.ensures, c.heard_in-heard.ensures, c.cycle_in-c.ensures)
