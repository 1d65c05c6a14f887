use Rattle.loader_held_lists.specs.Listings.{in_loaded}
use Rattle.loader_held_lists.proofs.in_loaded.Goals as goal

-- src/lib.rt:46:1
pub returns : goal.returns
unfolding in_loaded
returns c = simp (c.lies.ensures, c.end_of.ensures, c.start.ensures)
