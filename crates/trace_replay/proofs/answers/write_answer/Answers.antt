-- `trace_replay::answers::write_answer` meets its contract.
use Rattle.trace_replay.specs.Answers.{answer_text}
use Rattle.trace_replay.proofs.answers.write_answer.Goals as goal

pub returns : goal.returns
unfolding answer_text
returns c = simp (c.copy.ensures, c.letter-3.ensures, c.letter-2.ensures, c.second.ensures, c.first.ensures, c.letter.ensures)
