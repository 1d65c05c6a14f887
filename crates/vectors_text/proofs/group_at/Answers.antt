-- `vectors_text::group_at` meets its contract.
use Rattle.vectors_text.specs.Text.{group_at}
use Rattle.vectors_text.proofs.group_at.Goals as goal

pub returns : goal.returns
unfolding group_at
returns c = simp (c.nth-d.ensures, c.nth-c.ensures, c.nth-b.ensures, c.nth-a.ensures)
