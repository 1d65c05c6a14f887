-- `recording_answer::apart_at` meets its contract: the first pair of other bytes is where the two first differ.
use mathlib.Core.Path.{◌∙◌}
use mathlib.Core.Bool.{not}
use lib.Dec.{eqb}
use borrow.Author.Tests.{tests}
use Rattle.std.proofs.Common.{rules}
use Rattle.std.proofs.lemmas.Iterator.{YieldsList-from_slice, YieldsList-from_zip}
use Rattle.std.proofs.lemmas.Iterator.Search.{position_from_yields_List}
use Rattle.recording_answer.proofs.Apart.{apart_is}
use Rattle.recording_answer.proofs.apart_at.Goals as goal

pub returns : goal.returns
returns c =
    c.unwrap_or.ensures ∙ apart_is c.args.a.now c.args.b.now c.position.result c.least-n.result c.least-n.ensures
    (position_from_yields_List (λ p. not (eqb p.0 p.1)) c.position.new.self _ _ c.position.ensures.ran
    (YieldsList-from_zip (YieldsList-from_slice c.args.a.now cc) (YieldsList-from_slice c.args.b.now cc)) (λ x b q k. search (rules, tests)))
