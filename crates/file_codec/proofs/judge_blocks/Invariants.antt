-- `file_codec::judge_blocks` meets its contract: the blocks passed are right, so the rest decides.
use mathlib.Core.Path.{◌≡◌}
use mathlib.Core.List.{[]}
use Prim.Native.Nat.{◌-◌, ◌*◌}
use lib.ListN.{get_or, drop}
use Rattle.common.specs.Numbers.{given}
use Rattle.file_codec.specs.File.{blocks_rows}
use Rattle.file_codec.proofs.judge_blocks.Given as goal

abbrev pub invariant-loop-i : goal.invariant-loop-i
invariant-loop-i l = given (blocks_rows (l.n - l.i) l.first l.i l.n (drop (512 * l.i) l.file) []) ≡ given (blocks_rows l.n (get_or l.file 0 0) 0 l.n l.file [])
