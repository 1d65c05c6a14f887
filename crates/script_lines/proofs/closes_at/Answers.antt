-- `script_lines::closes_at` meets its contract.
use Rattle.script_lines.proofs.closes_at.Goals as goal

pub returns : goal.returns
returns c = simp (c.is_closes.ensures, c.word_at.ensures)
