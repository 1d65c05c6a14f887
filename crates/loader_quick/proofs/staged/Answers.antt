-- `loader_quick::staged` meets its contract.
use mathlib.Core.Path.{sym, ap, ◌∙◌}
use Rattle.loader.specs.declared.Work.{Work}
use Rattle.loader_quick.specs.Quick.{stages_made, stages_array, stages_scratch}
use Rattle.loader_quick.proofs.staged.Goals as goal

pub returns-in-Load : goal.returns-in-Load
returns-in-Load c =
    let a = c.args in
    let j = a.j in
    let xs = a.array.now in
    let w = a.wanted.now in
    let sc = a.scratch.now in
    let f = c.load_by.ensures in record { result = f.result ∙ sym (ap (λ (x : Work). stages_made x j xs w) c.in-Load.is); array_left = f.array_left ∙ sym (ap (λ (x : Work). stages_array x j xs w) c.in-Load.is); scratch_left = f.scratch_left ∙ sym (ap (λ (x : Work). stages_scratch x j xs w sc) c.in-Load.is) }

pub returns-in-Verify : goal.returns-in-Verify
returns-in-Verify c =
    let a = c.args in
    let j = a.j in
    let xs = a.array.now in
    let w = a.wanted.now in
    let sc = a.scratch.now in
    let f = c.verify_made.ensures in record { result = f.result ∙ sym (ap (λ (x : Work). stages_made x j xs w) c.in-Verify.is); array_left = sym (ap (λ (x : Work). stages_array x j xs w) c.in-Verify.is); scratch_left = f.scratch_left ∙ sym (ap (λ (x : Work). stages_scratch x j xs w sc) c.in-Verify.is) }
