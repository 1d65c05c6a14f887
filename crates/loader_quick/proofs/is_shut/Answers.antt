-- `loader_quick::is_shut` meets its contract.
use Rattle.loader_run_claims.specs.Ends.{shut}
use Rattle.loader_quick.proofs.is_shut.Goals as goal

-- src/lib.rt:35:1
pub returns : goal.returns
unfolding shut
returns c = simp c.unlocked.ensures
