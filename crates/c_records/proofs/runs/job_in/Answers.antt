use Rattle.c_records.proofs.runs.job_in.Goals as goal

pub returns : goal.returns
returns c =
    let a = c.args in
    λ i. record { device = c.device_in.ensures i; state = c.state_in.ensures i; pins = c.pins_in.ensures i; block = a.block; work = a.work }
