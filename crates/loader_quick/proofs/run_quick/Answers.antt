-- `loader_quick::run_quick` meets its contract.
use mathlib.Core.Path.{sym, ◌∙◌}
use Rattle.loader_quick.proofs.Runs.{refused_as}
use Rattle.loader_quick.proofs.run_quick.Goals as goal

pub done-requires : goal.done-requires
done-requires c = sym c.lent_number-n.ensures ∙ c.if-n-eq0.true

pub returns-then-n-eq0 : goal.returns-then-n-eq0
returns-then-n-eq0 c = let both = c.done.ensures in record { result = both.result; array_left = both.array_left; scratch_left = both.scratch_left }

pub returns : goal.returns
returns c =
    let a = c.args in
    let both = refused_as a.j a.array.now a.wanted.now a.scratch.now c.lent_number-n.result c.refused.result c.lent_number-n.ensures c.if-n-eq0.false c.refused.ensures in record { result = both.0; array_left = both.1.0; scratch_left = both.1.1 }
