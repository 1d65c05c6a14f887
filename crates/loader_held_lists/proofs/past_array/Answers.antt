use Rattle.loader_held_lists.specs.Listings.{past_array}
use Rattle.loader_held_lists.proofs.past_array.Goals as goal

-- src/lib.rt:39:1
pub returns : goal.returns
unfolding past_array
returns c = simp (c.lies.ensures, c.size.ensures)
