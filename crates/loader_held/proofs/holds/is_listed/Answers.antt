-- `loader_held::holds::is_listed` meets its contract.
use Rattle.std.proofs.Common.{◌∙◌}
use Rattle.std.specs.Prelude.{ℕ, eqb}
use Rattle.loader_held_lists.proofs.Looking.{some_any}
use Rattle.loader_held.specs.Holds.{listed}
use Rattle.loader_held.proofs.holds.is_listed.Goals as goal

pub returns : goal.returns
unfolding listed
returns c = c.contains.ensures.value ∙ some_any (λ (p : ℕ). eqb p c.args.n) c.args.polls.now
