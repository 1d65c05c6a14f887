use mathlib.Core.Path.{sym, ◌∙◌}
use Rattle.loader_from_file.proofs.Filling.{filled, wanted_filled, wanted_stays}
use borrow.Author.Rules.{rules}
use Rattle.loader_from_file.proofs.fill_wanted.Goals as goal

pub returns-then-number-ne0 : goal.returns-then-number-ne0
returns-then-number-ne0 c = let a = c.args in sym (wanted_stays a.number a.file.now a.wanted.now c.if-number-ne0.true)

pub slice_bounds-fill-count : goal.slice_bounds-fill-count
slice_bounds-fill-count c = let h = c.requires c.if-number-ne0.false in search rules

pub slice_bounds-fill-start : goal.slice_bounds-fill-start
slice_bounds-fill-start c = let h = c.requires c.if-number-ne0.false in search rules

pub returns : goal.returns
returns c =
    let a = c.args in
    let z = c.if-number-ne0.false in
    filled a.file.now a.wanted.now c.copy.new.dst c.fill.new.s (c.requires z) c.copy.ensures c.fill.ensures
    ∙ sym (wanted_filled a.number a.file.now a.wanted.now z)
