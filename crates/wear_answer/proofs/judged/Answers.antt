-- `wear_answer::judged` meets its contract.
use mathlib.Core.Path.{sym, ◌∙◌}
use Rattle.common.proofs.Choice.{if_true, if_false}
use Rattle.recording_wear.specs.Recorded.{looks_recorded, worn_recorded}
use Rattle.wear_answer.specs.Answers.{worn_traced, worn_fresh}
use Rattle.wear_answer.proofs.judged.Goals as goal

pub returns-then-is_recording : goal.returns-then-is_recording
unfolding worn_fresh
returns-then-is_recording c =
    let xs = c.args.text.now in
    c.count.ensures.result ∙ sym (if_true (looks_recorded xs) (worn_recorded xs) (worn_traced xs) (sym c.is_recording.ensures ∙ c.if-is_recording.true))

pub returns : goal.returns
unfolding worn_fresh
returns c =
    let xs = c.args.text.now in
    c.traced.ensures ∙ sym (if_false (looks_recorded xs) (worn_recorded xs) (worn_traced xs) (sym c.is_recording.ensures ∙ c.if-is_recording.false))
