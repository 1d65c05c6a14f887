-- `trace_replay::good_at` meets its contract: fewer than 20 bytes are no line.
use Rattle.trace_replay.proofs.Scans.{cut_off}
use native.Mathlib.Omega.{arith}
use Rattle.trace_replay.proofs.good_at.Goals as goal

pub returns-in-None : goal.returns-in-None
returns-in-None c = grind (arith, cut_off)
