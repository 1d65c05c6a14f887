-- `script_lines::word_at` meets its contract.
use mathlib.Core.Path.{sym}
use Rattle.script_lines.proofs.Words.{rest_all, past_end}
use Rattle.script_lines.proofs.word_at.Goals as goal

pub returns-then-text-at : goal.returns-then-text-at
returns-then-text-at c = let a = c.args in sym (past_end a.left a.text.now a.at c.if-text-at.true)

pub returns : goal.returns
returns c = simp (c.word_in.ensures, rest_all)
