use borrow.Author.Rules.{rules}
use mathlib.Core.Path.{sym, ◌∙◌}
use Rattle.loader_from_file.proofs.Leaving.{told_tested, told_refused}
use Rattle.loader_from_file.proofs.load.Goals as goal

pub returns-then-n-eq0 : goal.returns-then-n-eq0
returns-then-n-eq0 c =
    let a = c.args in
    let h = c.well_formed.0.1 in
    let s = c.prepared-n in
    let r = c.run_tested-m in
    let both = told_tested a.j a.array.now a.wanted.now a.scratch.now a.file.now a.asked (sym s.ensures.result ∙ c.if-n-eq0.true) (search rules, search rules)
    (λ i. (c.slice_known-1.given i).fits) s.new.wanted (λ i. (c.slice_known-4-1.given i).fits) s.auto.wanted s.ensures.wanted_left r.result _ _ r.ensures.result
    r.ensures.array_left r.ensures.scratch_left in record { result = both.0; array_left = both.1.0; wanted_left = both.1.1.0; scratch_left = both.1.1.1 }

pub returns : goal.returns
returns c =
    let a = c.args in
    let s = c.prepared-n in
    let both = told_refused a.j a.array.now a.wanted.now a.scratch.now a.file.now a.asked s.result s.ensures.result c.if-n-eq0.false _ s.ensures.wanted_left in record { result = both.0; array_left = both.1.0; wanted_left = both.1.1.0; scratch_left = both.1.1.1 }
