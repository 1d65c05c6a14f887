use mathlib.Core.Path.{sym, ◌∙◌}
use Rattle.loader_run.specs.Runs.{run_number}
use Rattle.store.proofs.Judging.{change_large, change_run}
use Rattle.store.proofs.change_number.Goals as goal

pub returns-then-is_large : goal.returns-then-is_large
returns-then-is_large c = let a = c.args in sym (change_large a.d a.s a.p a.array a.memory a.scratch (sym c.is_large.ensures ∙ c.if-is_large.true))

pub returns : goal.returns
returns c = let a = c.args in c.run_number.ensures ∙ (λ i. run_number (c.change_job.ensures i) (c.lent_in.ensures i) (c.lent_in-2.ensures i) (c.lent_in-3.ensures i)) ∙ sym (change_run a.d a.s a.p a.array a.memory a.scratch (sym c.is_large.ensures ∙ c.if-is_large.false))
