use mathlib.Core.Path.{sym, ◌∙◌}
use Rattle.c_records.specs.Records.{loader_back}
use Rattle.c_records.proofs.records.loader_back.Goals as goal

pub returns-then-no_record : goal.returns-then-no_record
unfolding loader_back
returns-then-no_record c = simp (sym c.no_record.ensures ∙ c.if-no_record.true)

pub returns : goal.returns
unfolding loader_back
returns c = simp (c.loader_out.ensures, sym c.no_record.ensures ∙ c.if-no_record.false)
