-- `recording_lines::told` meets its contract.
use Rattle.recording_lines.proofs.told.Goals as goal

pub returns : goal.returns
returns c = simp (c.is_hex-2.ensures, c.nth-5.ensures, c.is_hex.ensures, c.nth-4.ensures, c.nth-3.ensures, c.nth-2.ensures, c.nth.ensures)
