-- `recording_lines::is_record` meets its contract.
use mathlib.Core.Path.{sym}
use Rattle.recording_lines.proofs.Runs.{record_runs, not_record}
use Rattle.recording_lines.proofs.is_record.Goals as goal

pub returns-then-line-ne31 : goal.returns-then-line-ne31
returns-then-line-ne31 c = sym (not_record _ c.if-line-ne31.true)

pub good_cycle-requires : goal.good_cycle-requires
good_cycle-requires c = c.if-line-ne31.false

pub returns : goal.returns
returns c = simp (c.good_count.ensures, c.good_answer.ensures, c.good_cycle.ensures) (sym (record_runs _ c.if-line-ne31.false))
