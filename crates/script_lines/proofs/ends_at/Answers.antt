-- `script_lines::ends_at` meets its contract.
use Rattle.script_lines.proofs.ends_at.Goals as goal

pub returns : goal.returns
returns c = simp (c.is_ends.ensures, c.word_at.ensures)
