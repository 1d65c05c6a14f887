use mathlib.Core.Path.{sym, ◌∙◌}
use Rattle.c_records.specs.Records.{polls_in}
use Rattle.c_records.proofs.records.polls_in.Goals as goal

pub returns-then-no_record : goal.returns-then-no_record
unfolding polls_in
returns-then-no_record c = simp (sym c.no_record.ensures ∙ c.if-no_record.true)

pub returns : goal.returns
unfolding polls_in
returns c = simp (sym c.no_record.ensures ∙ c.if-no_record.false)
