-- `loader_run::drive` meets its contract: what is left of the bound leads to the same end, and the cycles to go fall.
use mathlib.Core.Path.{◌≡◌}
use Prim.Native.Nat.{◌-◌, ◌≤◌}
use lib.ListN.{length}
use Rattle.loader_run.specs.Runs.{driven}
use Rattle.loader_steps.specs.Addresses.{first_address}
use Rattle.loader_run.proofs.Measure.{remains}
use Rattle.units.specs.Units.{units}
use Rattle.loader_run.proofs.Sound.{Sound}
use Rattle.loader_run.proofs.Turning.{conf, Keeps}
use Rattle.loader_run.proofs.drive.Given as goal

abbrev pub invariant-loop-d : goal.invariant-loop-d
invariant-loop-d l =
    Keeps l.d (units l.d.part.word l.wanted) (driven l.d (units l.d.part.word l.wanted) (conf l.initial.moving l.initial.state (units l.d.part.word l.initial.array) (units l.d.part.word l.initial.scratch) 0))
    (conf l.moving l.state (units l.d.part.word l.array) (units l.d.part.word l.scratch) l.count)
    × (length l.scratch ≡ length l.initial.scratch)
    × (length l.array ≡ length l.initial.array)
    × (length (units l.d.part.word l.wanted) ≤ 524288)
    × (l.start ≡ first_address l.moving)
    × Sound l.d (units l.d.part.word l.wanted) l.moving l.state (length (units l.d.part.word l.array))

abbrev pub decreases-loop-d : goal.decreases-loop-d
decreases-loop-d l = remains l.moving (length (units l.d.part.word l.wanted))
