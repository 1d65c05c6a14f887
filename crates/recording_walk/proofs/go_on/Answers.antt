use Rattle.recording_walk.proofs.Going.{stays, stays_bytes, goes, goes_bytes}
use Rattle.recording_walk.proofs.go_on.Goals as goal

pub returns-then-stopped : goal.returns-then-stopped
returns-then-stopped c = (stays _ _ _ c.if-stopped.true, stays_bytes _ _ _ c.if-stopped.true)

pub returns : goal.returns
returns c =
    let step = c.step_record-x in
    let e = c.if-stopped.false in
    (goes _ _ _ e _ step.ensures.result _ c.went_by.ensures, goes_bytes _ _ _ e _ step.ensures.array_left)
