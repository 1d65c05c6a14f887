-- `recording_answer::put_end` meets its contract.
use mathlib.Core.Path.{sym, ap, ◌∙◌}
use mathlib.Core.List.{List}
use Prim.Native.Nat.{ℕ}
use Rattle.text.specs.Writing.{laid_at, behind}
use Rattle.model_types.specs.declared.Phase.{Phase}
use Rattle.recording_answer.specs.Lines.{end_text}
use Rattle.recording_answer.proofs.put_end.Goals as goal

pub returns-in-Free : goal.returns-in-Free
returns-in-Free c =
    let a = c.args in
    let xs = a.out.now in
    let p = c.put_array in
    let e = ap (λ (ph : Phase). end_text ph a.promised.now a.array.now) c.in-Free.is in
    record { result = p.ensures.result ∙ ap (λ (z : List ℕ). behind xs a.at z) (sym e); out_left = p.ensures.out_left ∙ ap (λ (z : List ℕ). laid_at xs a.at z) (sym e) }

pub returns-in-EraseAwaited : goal.returns-in-EraseAwaited
returns-in-EraseAwaited c =
    let a = c.args in
    let xs = a.out.now in
    let p = c.put_text in
    let e = ap (λ (ph : Phase). end_text ph a.promised.now a.array.now) c.in-EraseAwaited.is in
    record { result = p.ensures.result ∙ ap (λ (z : List ℕ). behind xs a.at z) (sym e); out_left = p.ensures.out_left ∙ ap (λ (z : List ℕ). laid_at xs a.at z) (sym e) }

pub returns-in-DataAwaited : goal.returns-in-DataAwaited
returns-in-DataAwaited c =
    let a = c.args in
    let xs = a.out.now in
    let p = c.put_text-in-DataAwaited in
    let e = ap (λ (ph : Phase). end_text ph a.promised.now a.array.now) c.in-DataAwaited.is in
    record { result = p.ensures.result ∙ ap (λ (z : List ℕ). behind xs a.at z) (sym e); out_left = p.ensures.out_left ∙ ap (λ (z : List ℕ). laid_at xs a.at z) (sym e) }

pub returns-in-Programming : goal.returns-in-Programming
returns-in-Programming c =
    let a = c.args in
    let xs = a.out.now in
    let p = c.put_text-in-Programming in
    let e = ap (λ (ph : Phase). end_text ph a.promised.now a.array.now) c.in-Programming.is in
    record { result = p.ensures.result ∙ ap (λ (z : List ℕ). behind xs a.at z) (sym e); out_left = p.ensures.out_left ∙ ap (λ (z : List ℕ). laid_at xs a.at z) (sym e) }

pub returns-in-Erasing : goal.returns-in-Erasing
returns-in-Erasing c =
    let a = c.args in
    let xs = a.out.now in
    let p = c.put_text-in-Erasing in
    let e = ap (λ (ph : Phase). end_text ph a.promised.now a.array.now) c.in-Erasing.is in
    record { result = p.ensures.result ∙ ap (λ (z : List ℕ). behind xs a.at z) (sym e); out_left = p.ensures.out_left ∙ ap (λ (z : List ℕ). laid_at xs a.at z) (sym e) }

pub returns-in-Suspending : goal.returns-in-Suspending
returns-in-Suspending c =
    let a = c.args in
    let xs = a.out.now in
    let p = c.put_text-in-Suspending in
    let e = ap (λ (ph : Phase). end_text ph a.promised.now a.array.now) c.in-Suspending.is in
    record { result = p.ensures.result ∙ ap (λ (z : List ℕ). behind xs a.at z) (sym e); out_left = p.ensures.out_left ∙ ap (λ (z : List ℕ). laid_at xs a.at z) (sym e) }

pub returns-in-Suspended : goal.returns-in-Suspended
returns-in-Suspended c =
    let a = c.args in
    let xs = a.out.now in
    let p = c.put_text-in-Suspended in
    let e = ap (λ (ph : Phase). end_text ph a.promised.now a.array.now) c.in-Suspended.is in
    record { result = p.ensures.result ∙ ap (λ (z : List ℕ). behind xs a.at z) (sym e); out_left = p.ensures.out_left ∙ ap (λ (z : List ℕ). laid_at xs a.at z) (sym e) }
