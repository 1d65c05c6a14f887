-- `trace_replay::answers::first` meets its contract.
use Rattle.trace_replay.proofs.answers.first.Goals as goal

pub returns-in-Data : goal.returns-in-Data
returns-in-Data c = simp (c.low_digit.ensures, c.in-Data.is)

pub returns-in-Refused : goal.returns-in-Refused
returns-in-Refused c = simp (c.small_digit.ensures, c.in-Refused.is)
