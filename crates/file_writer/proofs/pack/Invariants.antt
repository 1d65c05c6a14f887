-- `file_writer::pack` meets its contract: the blocks written and the blocks left to write make up the file.
use mathlib.Core.Path.{◌≡◌}
use mathlib.Core.List.{◌++◌}
use Prim.Native.Nat.{◌-◌, ◌*◌, min}
use lib.ListN.{length, take, drop}
use Rattle.file_codec.specs.File.{blocks_of}
use Rattle.file_writer.proofs.pack.Given as goal

abbrev pub invariant-loop-i : goal.invariant-loop-i
invariant-loop-i l =
    (take (512 * l.i) l.out ++ blocks_of (l.n - l.i) l.letter l.i l.n (drop (505 * l.i) l.payload) ≡ blocks_of l.n l.letter 0 l.n l.payload)
    × (drop (512 * l.i) l.out ≡ drop (512 * l.i) l.initial.out) × (l.from ≡ min (505 * l.i) (length l.payload))
