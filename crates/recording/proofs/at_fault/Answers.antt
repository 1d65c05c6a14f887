use mathlib.Core.Path.{sym, ◌∙◌}
use Rattle.recording.proofs.Judging.{count_fault, cut_fault, refused_fault, answer_fault}
use Rattle.recording.proofs.at_fault.Goals as goal

pub returns-then-wrong_count : goal.returns-then-wrong_count
returns-then-wrong_count c = count_fault _ _ _ _ (sym c.wrong_count.ensures ∙ c.if-wrong_count.true)

pub returns-then-cuts_off : goal.returns-then-cuts_off
returns-then-cuts_off c =
    cut_fault _ _ _ _ (sym c.wrong_count.ensures ∙ c.if-wrong_count.false) (sym c.cuts_off.ensures ∙ c.if-cuts_off.true)

pub returns-then-n-ne0 : goal.returns-then-n-ne0
returns-then-n-ne0 c =
    refused_fault _ _ _ _ (sym c.wrong_count.ensures ∙ c.if-wrong_count.false) (sym c.cuts_off.ensures ∙ c.if-cuts_off.false)
    _ c.device_for-e.ensures _ c.lent_in.ensures _ c.judge-n.ensures c.if-n-ne0.true

pub returns : goal.returns
returns c =
    answer_fault _ _ _ _ (sym c.wrong_count.ensures ∙ c.if-wrong_count.false) (sym c.cuts_off.ensures ∙ c.if-cuts_off.false)
    _ c.device_for-e.ensures _ c.lent_in.ensures _ c.judge-n.ensures c.if-n-ne0.false _ c.see_judged-seen.ensures _ c.agrees.ensures
