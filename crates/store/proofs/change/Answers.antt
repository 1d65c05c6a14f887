use mathlib.Core.Path.{sym, ap, ◌∙◌}
use Rattle.loader_run.specs.Runs.{lent_run}
use Rattle.store.specs.Stores.{ChangeLeft}
use Rattle.store.proofs.Leaving.{made, refused}
use Rattle.store.proofs.change.Goals as goal

pub returns-then-number-eq0 : goal.returns-then-number-eq0
returns-then-number-eq0 c = let a = c.args in
    let e = c.run_quick.ensures in
    let k = c.change_job.ensures in
    let xs = a.array.now in
    let w = a.memory.now in
    let sc = a.scratch.now in
    let q = sym (made a.number a.memory.now a.d a.s a.p a.array.now a.memory.now a.scratch.now c.if-number-eq0.true) in
    record { result = e.result ∙ (λ i. (lent_run (k i) xs w sc).ran) ∙ ap (λ (x : ChangeLeft). x.ran) q; array_left = e.array_left ∙ (λ i. (lent_run (k i) xs w sc).bytes) ∙ ap (λ (x : ChangeLeft). x.bytes) q; scratch_left = e.scratch_left ∙ (λ i. (lent_run (k i) xs w sc).scratch) ∙ ap (λ (x : ChangeLeft). x.scratch) q }

pub returns : goal.returns
returns c = let a = c.args in
    let q = sym (refused a.number a.memory.now a.d a.s a.p a.array.now a.memory.now a.scratch.now c.if-number-eq0.false) in
    record { result = ap (λ (x : ChangeLeft). x.ran) q; array_left = ap (λ (x : ChangeLeft). x.bytes) q; scratch_left = ap (λ (x : ChangeLeft). x.scratch) q }
