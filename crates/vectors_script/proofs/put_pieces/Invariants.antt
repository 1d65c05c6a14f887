-- `vectors_script::put_pieces` is safe: one piece a turn.
use Rattle.std.proofs.Common.{◌≤◌, length}
use Rattle.vectors_script.proofs.put_pieces.Given as goal

abbrev pub invariant-loop : goal.invariant-loop
invariant-loop l = l.at ≤ length l.text
