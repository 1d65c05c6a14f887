use mathlib.Core.Path.{sym, ◌∙◌}
use Rattle.recording.proofs.Starting.{starts_asked, starts_unasked}
use Rattle.recording.proofs.starts.Goals as goal

pub returns-then-asks : goal.returns-then-asks
returns-then-asks c = c.unbarred.ensures ∙ starts_asked _ _ _ (sym c.asks.ensures ∙ c.if-asks.true)

pub returns : goal.returns
returns c = starts_unasked _ _ _ (sym c.asks.ensures ∙ c.if-asks.false)
