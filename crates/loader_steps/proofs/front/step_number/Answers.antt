-- `loader_steps::front::step_number` meets its contract.
use mathlib.Core.Path.{sym, ◌∙◌}
use Rattle.loader_steps.specs.Front.{step_number, setup_number}
use Rattle.loader_steps.proofs.front.step_number.Goals as goal

pub returns-then-unknown_part : goal.returns-then-unknown_part
unfolding step_number setup_number
returns-then-unknown_part c = simp (sym c.unknown_part.ensures ∙ c.if-unknown_part.true)

pub bad_record-requires : goal.bad_record-requires
bad_record-requires c = c.length-n.ensures

pub returns-then-bad_record : goal.returns-then-bad_record
unfolding step_number setup_number
returns-then-bad_record c = simp (sym c.bad_record.ensures ∙ c.if-bad_record.true, sym c.unknown_part.ensures ∙ c.if-unknown_part.false)

pub setup_by-requires : goal.setup_by-requires
setup_by-requires c = c.length-n.ensures

pub returns : goal.returns
unfolding step_number setup_number
returns c = simp (c.setup_by.ensures, sym c.bad_record.ensures ∙ c.if-bad_record.false, sym c.unknown_part.ensures ∙ c.if-unknown_part.false)
