-- `trace_replay::answers::write_mark` meets its contract.
use Rattle.trace_replay.specs.Answers.{mark_of}
use Rattle.trace_replay.proofs.answers.write_mark.Goals as goal

pub returns : goal.returns
unfolding mark_of
returns c = simp (c.copy.ensures, c.decimal_digit-4.ensures, c.decimal_digit-3.ensures, c.decimal_digit-2.ensures, c.decimal_digit.ensures)
