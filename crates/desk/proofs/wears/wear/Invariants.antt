-- `desk::wears::wear` is safe and ends: the arrays keep their lengths.
use Rattle.std.proofs.Common.{◌≡◌, length}
use Rattle.desk.proofs.wears.wear.Given as goal

abbrev pub invariant-loop-i : goal.invariant-loop-i
invariant-loop-i g l = (4096 ≡ length l.name) × (309969 ≡ length l.text) × (512 ≡ length l.out)
