-- `recording_text::good_at` meets its contract: fewer than 31 bytes are no line.
use native.Mathlib.Omega.{arith}
use Rattle.recording_text.proofs.Rounds.{cut_off}
use Rattle.recording_text.proofs.good_at.Goals as goal

pub returns-in-None : goal.returns-in-None
returns-in-None c = grind (arith, cut_off)
