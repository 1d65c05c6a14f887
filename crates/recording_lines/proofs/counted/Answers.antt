-- `recording_lines::counted` meets its contract.
use Rattle.recording_lines.proofs.counted.Goals as goal

pub returns : goal.returns
returns c = simp (c.nth-7.ensures, c.is_digit-5.ensures, c.nth-6.ensures, c.is_digit-4.ensures, c.nth-5.ensures, c.is_digit-3.ensures, c.nth-4.ensures, c.is_digit-2.ensures, c.nth-3.ensures, c.is_digit.ensures, c.nth-2.ensures, c.nth.ensures)
