-- `recording_lines::two` meets its contract.
use Rattle.recording_lines.proofs.two.Goals as goal

pub returns : goal.returns
returns c = simp (c.hex_digit-2.ensures.0, c.hex_digit.ensures.0)
