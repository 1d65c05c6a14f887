-- `trace_replay::good_lines` meets its contract: the first number whose line is not good is the count of those before it.
use Rattle.std.proofs.Common.{rules, ◌*◌}
use Rattle.std.proofs.lemmas.Iterator.{YieldsList-from_range}
use Rattle.std.proofs.lemmas.Iterator.Search.{position_from_yields_List}
use borrow.Author.Tests.{tests}
use mathlib.Core.Path.{refl, ◌∙◌}
use mathlib.Core.Bool.{not}
use lib.ListN.{take, drop}
use Rattle.trace_lines.specs.Lines.{is_line}
use Rattle.trace_replay.proofs.Scans.{scan_is}
use Rattle.trace_replay.proofs.good_lines.Goals as goal

pub returns : goal.returns
returns c =
    c.unwrap_or.ensures ∙ scan_is 9998 c.args.text.now c.position.result
    (position_from_yields_List (λ i. not (is_line (take 20 (drop (20 * i) c.args.text.now)))) _ _ _ c.position.ensures.ran (YieldsList-from_range 0 9998 9998 refl refl) (λ x b q k. search (rules, tests)))
