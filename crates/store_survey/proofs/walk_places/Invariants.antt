-- `store_survey::walk_places` meets its contract: what is left to tell agrees with what was to tell, place by place.
use mathlib.Core.Path.{◌≡◌}
use Prim.Native.Nat.{◌-◌, ◌/◌}
use lib.ListN.{length}
use Rattle.store_survey.proofs.Rounds.{Walked}
use Rattle.store_survey.proofs.Spots.{left_at}
use Rattle.store_survey.proofs.walk_places.Given as goal

abbrev pub invariant-loop-p : goal.invariant-loop-p
invariant-loop-p l = (length l.seen ≡ length l.initial.seen) × (l.total ≡ length l.main / 512) × Walked l.letter l.n (left_at l.main 0) l.p l.seen l.s (left_at l.main l.p)

abbrev pub decreases-loop-p : goal.decreases-loop-p
decreases-loop-p l = l.total - l.p
