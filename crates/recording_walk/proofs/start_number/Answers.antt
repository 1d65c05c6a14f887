use mathlib.Core.Path.{sym, ◌∙◌}
use Rattle.recording_walk.specs.Lists.{start_number}
use Rattle.recording_walk.proofs.start_number.Goals as goal

pub returns-then-unknown_device : goal.returns-then-unknown_device
unfolding start_number
returns-then-unknown_device c = simp (sym c.unknown_device.ensures ∙ c.if-unknown_device.true)

pub returns-then-wrong_length : goal.returns-then-wrong_length
unfolding start_number
returns-then-wrong_length c = simp (sym c.wrong_length.ensures ∙ c.if-wrong_length.true, sym c.unknown_device.ensures ∙ c.if-unknown_device.false)

pub returns-then-improper : goal.returns-then-improper
unfolding start_number
returns-then-improper c = simp (sym c.improper.ensures ∙ c.if-improper.true, sym c.wrong_length.ensures ∙ c.if-wrong_length.false, sym c.unknown_device.ensures ∙ c.if-unknown_device.false)

pub returns-then-under_way : goal.returns-then-under_way
unfolding start_number
returns-then-under_way c = simp (sym c.under_way.ensures ∙ c.if-under_way.true, sym c.improper.ensures ∙ c.if-improper.false, sym c.wrong_length.ensures ∙ c.if-wrong_length.false, sym c.unknown_device.ensures ∙ c.if-unknown_device.false)

pub returns : goal.returns
unfolding start_number
returns c = simp (sym c.under_way.ensures ∙ c.if-under_way.false, sym c.improper.ensures ∙ c.if-improper.false, sym c.wrong_length.ensures ∙ c.if-wrong_length.false, sym c.unknown_device.ensures ∙ c.if-unknown_device.false)
