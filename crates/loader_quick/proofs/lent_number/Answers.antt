-- `loader_quick::lent_number` meets its contract.
use mathlib.Core.Path.{◌∙◌}
use Rattle.loader_run.specs.Runs.{run_number}
use Rattle.loader_quick.proofs.lent_number.Goals as goal

pub returns : goal.returns
returns c =
    let a = c.args in
    c.run_number.ensures ∙ (λ i. run_number a.j (c.lent_in.ensures i) (c.lent_in-2.ensures i) (c.lent_in-3.ensures i))
