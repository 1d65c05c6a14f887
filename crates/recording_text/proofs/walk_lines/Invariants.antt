-- `recording_text::walk_lines` meets its contract: after i rounds what is ahead leads where the whole leads.
use mathlib.Core.Path.{◌≡◌}
use Prim.Native.Nat.{◌+◌}
use lib.ListN.{length}
use Rattle.recording_walk.specs.Inner.{went_over, bytes_over}
use Rattle.recording_text.specs.Texts.{records_of}
use Rattle.recording_text.proofs.Rounds.{ahead}
use Rattle.recording_text.proofs.walk_lines.Given as goal

abbrev pub invariant-loop-i : goal.invariant-loop-i
invariant-loop-i l =
    (went_over l.array l.w (ahead 9998 l.i l.text) ≡ went_over l.initial.array l.initial.w (records_of l.text))
    × (bytes_over l.array l.w (ahead 9998 l.i l.text) ≡ bytes_over l.initial.array l.initial.w (records_of l.text))
    × (l.i + length (ahead 9998 l.i l.text) ≡ length (records_of l.text))
