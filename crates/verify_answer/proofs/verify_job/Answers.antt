-- `verify_answer::verify_job` meets its contract.
use Rattle.loader.specs.declared.Work.TheVariants.{Verify}
use Rattle.verify_answer.specs.Answers.{device_of, reading}
use Rattle.verify_answer.proofs.verify_job.Goals as goal

pub returns : goal.returns
returns c =
    let a = c.args in
    λ i. record { device = device_of a.part; state = c.fresh-state.ensures i; pins = reading; block = a.block; work = Verify }
