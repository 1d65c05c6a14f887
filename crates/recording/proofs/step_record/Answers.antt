use mathlib.Core.Path.{refl, sym, ◌∙◌}
use Rattle.recording.proofs.Judging.{count_fault, cut_faulty, refused_faulty, fault_left, counted_so, timed_so, judged_own, differs_fault, made_left}
use Rattle.recording.proofs.step_record.Goals as goal

pub returns-then-cuts_off : goal.returns-then-cuts_off
returns-then-cuts_off c =
    let a = c.args in
    let both = fault_left a.d a.s a.r a.array.now (cut_faulty a.d a.s a.r a.array.now (sym c.cuts_off.ensures ∙ c.if-cuts_off.true)) _ c.faulted.ensures in record { result = both.0; array_left = both.1 }

pub returns-then-n-ne0 : goal.returns-then-n-ne0
returns-then-n-ne0 c =
    let a = c.args in
    let f = sym c.cuts_off.ensures ∙ c.if-cuts_off.false in
    let j = judged_own a.d a.s a.r a.array.now _ c.timed-longest.ensures _ _ c.judge-n.ensures _ refl in
    let both = fault_left a.d a.s a.r a.array.now (refused_faulty a.d a.s a.r a.array.now f _ c.lent_in.ensures _ j c.if-n-ne0.true) _ c.faulted-then-n-ne0.ensures in record { result = both.0; array_left = both.1 }

pub returns-then-miscounts : goal.returns-then-miscounts
returns-then-miscounts c =
    let a = c.args in
    let counted = counted_so a.d a.s a.r a.array.now _ c.starts-start.ensures _ c.miscounts.ensures in
    let both = fault_left a.d a.s a.r a.array.now (count_fault a.d a.s a.r a.array.now (sym counted ∙ c.if-miscounts.true)) _ c.faulted-then-miscounts.ensures in record { result = both.0; array_left = both.1 }

pub returns-then-agrees : goal.returns-then-agrees
returns-then-agrees c =
    let a = c.args in
    let started = c.starts-start.ensures in
    let e = sym (counted_so a.d a.s a.r a.array.now _ started _ c.miscounts.ensures) ∙ c.if-miscounts.false in
    let f = sym c.cuts_off.ensures ∙ c.if-cuts_off.false in
    let own = timed_so a.d a.s a.r a.array.now _ started _ c.time_by.ensures _ c.timed-e.ensures in
    let j = judged_own a.d a.s a.r a.array.now _ c.timed-longest.ensures _ _ c.judge-n.ensures _ own in
    let made = c.made in
    let both = made_left a.d a.s a.r a.array.now e f _ own _ c.lent_in.ensures _ j c.if-n-ne0.false _ c.decide_judged-x.ensures _ c.see-seen.ensures.result _ c.agrees.ensures c.if-agrees.true _ made.ensures.result _ (λ i. (c.slice_known-1.given i).fits) (λ i. (c.slice_known-then-agrees-1.given i).fits) made.ensures.array_left made.ensures.array_spare made.auto.array in record { result = both.0; array_left = both.1 }

pub returns : goal.returns
returns c =
    let a = c.args in
    let started = c.starts-start.ensures in
    let e = sym (counted_so a.d a.s a.r a.array.now _ started _ c.miscounts.ensures) ∙ c.if-miscounts.false in
    let f = sym c.cuts_off.ensures ∙ c.if-cuts_off.false in
    let own = timed_so a.d a.s a.r a.array.now _ started _ c.time_by.ensures _ c.timed-e.ensures in
    let j = judged_own a.d a.s a.r a.array.now _ c.timed-longest.ensures _ _ c.judge-n.ensures _ own in
    let both = fault_left a.d a.s a.r a.array.now (differs_fault a.d a.s a.r a.array.now e f _ own _ c.lent_in.ensures _ j c.if-n-ne0.false _ c.decide_judged-x.ensures _ c.see-seen.ensures.result _ c.agrees.ensures c.if-agrees.false) _ c.faulted-2.ensures in record { result = both.0; array_left = both.1 }
