-- `reading_text::end_line` meets its contract.
use lib.ListN.{length}
use native.Mathlib.Omega.{arith}
use mathlib.Core.Path.{sym, ◌∙◌}
use Rattle.std.proofs.lemmas.Bool.Decides.{nat_tests}
use Rattle.reading_text.specs.Tables.{end_line}
use Rattle.reading_text.proofs.Walks.{line_room}
use Rattle.reading_text.proofs.end_line.Goals as goal

pub returns-then-line_wrong : goal.returns-then-line_wrong
unfolding end_line
returns-then-line_wrong c = record { result = grind (arith, nat_tests); out_left = grind (arith, nat_tests) }

pub next_line-requires : goal.next_line-requires
next_line-requires c = let l = line_room c.args.s (length c.args.out.now) (sym c.line_wrong.ensures ∙ c.if-line_wrong.false) in omega (arith, l, c.well_formed.1.0.0)

pub returns : goal.returns
unfolding end_line
returns c = record { result = grind (arith, nat_tests); out_left = grind (arith, nat_tests) }
