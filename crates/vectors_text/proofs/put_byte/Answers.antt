-- `vectors_text::put_byte` meets its contract: the search finds this too, but takes minutes to refuse the edit of the place.
use Rattle.vectors_text.proofs.put_byte.Goals as goal

pub returns : goal.returns
returns c = rw c.byte_at.ensures at (rw c.size_at.ensures at c.put.ensures)
