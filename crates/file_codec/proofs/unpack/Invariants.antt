-- `file_codec::unpack` meets its contract: what is copied so far lies in front of what was there.
use mathlib.Core.Path.{◌≡◌}
use Prim.Native.Nat.{◌*◌, min}
use lib.ListN.{length}
use Rattle.common.specs.Lists.{overwritten}
use Rattle.file_codec.specs.File.{places_of}
use Rattle.file_codec.proofs.unpack.Given as goal

abbrev pub invariant-loop-i : goal.invariant-loop-i
invariant-loop-i l =
    (l.out ≡ overwritten (min (505 * l.i) (length l.initial.out)) (places_of l.n l.file) l.initial.out) × (l.to ≡ min (505 * l.i) (length l.initial.out))
