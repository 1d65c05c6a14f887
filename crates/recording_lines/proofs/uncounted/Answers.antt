-- `recording_lines::uncounted` meets its contract.
use Rattle.recording_lines.proofs.uncounted.Goals as goal

pub returns : goal.returns
returns c = simp (c.nth-7.ensures, c.nth-6.ensures, c.nth-5.ensures, c.nth-4.ensures, c.nth-3.ensures, c.nth-2.ensures, c.nth.ensures)
