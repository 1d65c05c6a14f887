-- `c_recording::place_after` meets its contract.
use mathlib.Core.Path.{sym, ap, ◌∙◌}
use mathlib.Core.Bool.{Bool}
use Rattle.recording_walk.specs.Inner.{place_after}
use Rattle.c_recording.proofs.place_after.Goals as goal

pub returns-then-fault : goal.returns-then-fault
unfolding place_after
returns-then-fault c = simp c.if-fault.true

pub returns : goal.returns
returns c = c.following.ensures ∙ ap (λ (b : Bool). place_after b c.args.at) (sym c.if-fault.false)
