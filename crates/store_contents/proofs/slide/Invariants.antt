use mathlib.Core.Path.{◌≡◌}
use Prim.Native.Nat.{◌-◌}
use lib.ListN.{length}
use Rattle.store_contents.proofs.Slides.{Sliding}
use Rattle.store_contents.proofs.slide.Given as goal

abbrev pub invariant-loop-from : goal.invariant-loop-from
invariant-loop-from l = (l.n ≡ length l.main) × (length l.memory ≡ length l.initial.memory) × (length l.memory ≡ length l.main) × Sliding l.letter l.main l.memory l.from l.to

abbrev pub decreases-loop-from : goal.decreases-loop-from
decreases-loop-from l = l.n - l.from
