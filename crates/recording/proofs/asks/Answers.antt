use Rattle.recording.proofs.asks.Goals as goal

pub returns-in-EraseAwaited : goal.returns-in-EraseAwaited
returns-in-EraseAwaited c = simp (c.command_of.ensures, c.in-EraseAwaited.is)
