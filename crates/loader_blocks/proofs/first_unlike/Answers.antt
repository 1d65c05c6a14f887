-- `loader_blocks::first_unlike` meets its contract: the part that is lent is the whole.
use Rattle.std.proofs.Common.{◌≡◌, true, false, List, ℕ, ap, length, take, arith, ◌∙◌}
use lib.Seq.{take_all}
use Rattle.units.specs.Units.{units}
use Rattle.loader_walk.specs.Walks.{diff_from}
use Rattle.loader_blocks.proofs.first_unlike.Goals as goal

pub returns-then-word : goal.returns-then-word
returns-then-word c =
    let w = c.args.wanted.now in
    let e : take (length w) c.args.held.now ≡ c.args.held.now = take_all (length w) c.args.held.now (omega (arith, c.requires)) in
    simp c.if-word.true (c.diff_from.ensures ∙ ap (λ (x : List ℕ). diff_from 0 (units true w) (units true x)) e)

pub returns : goal.returns
returns c =
    let w = c.args.wanted.now in
    let e : take (length w) c.args.held.now ≡ c.args.held.now = take_all (length w) c.args.held.now (omega (arith, c.requires)) in
    simp c.if-word.false (c.diff_from-2.ensures ∙ ap (λ (x : List ℕ). diff_from 0 (units false w) (units false x)) e)
