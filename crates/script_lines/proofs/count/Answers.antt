-- `script_lines::count` meets its contract.
use Rattle.script_lines.proofs.count.Goals as goal

pub returns : goal.returns
returns c = simp (c.digit-c.ensures, c.nth-3.ensures, c.digit-b.ensures, c.nth-2.ensures, c.digit-a.ensures, c.nth.ensures)
