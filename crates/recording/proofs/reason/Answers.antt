-- `recording::reason` meets its contract.
use mathlib.Core.Path.{sym, ◌∙◌}
use Rattle.recording.proofs.Judging.{count_why, cut_why, refused_why, answer_why}
use Rattle.recording.proofs.reason.Goals as goal

pub returns-then-cuts_off : goal.returns-then-cuts_off
returns-then-cuts_off c = cut_why _ _ _ _ (sym c.cuts_off.ensures ∙ c.if-cuts_off.true)

pub returns-then-n-ne0 : goal.returns-then-n-ne0
returns-then-n-ne0 c = refused_why _ _ _ _ (sym c.cuts_off.ensures ∙ c.if-cuts_off.false) _ c.device_for-e.ensures _ c.lent_in.ensures _ c.judge-n.ensures c.if-n-ne0.true

pub returns-then-wrong_count : goal.returns-then-wrong_count
returns-then-wrong_count c = count_why _ _ _ _ (sym c.cuts_off.ensures ∙ c.if-cuts_off.false) _ c.device_for-e.ensures _ c.lent_in.ensures _ c.judge-n.ensures c.if-n-ne0.false (sym c.wrong_count.ensures ∙ c.if-wrong_count.true)

pub returns : goal.returns
returns c = answer_why _ _ _ _ (sym c.cuts_off.ensures ∙ c.if-cuts_off.false) _ c.device_for-e.ensures _ c.lent_in.ensures _ c.judge-n.ensures c.if-n-ne0.false (sym c.wrong_count.ensures ∙ c.if-wrong_count.false) _ c.see_judged-seen.ensures _ c.why_seen.ensures
