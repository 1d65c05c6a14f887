-- `loader_held_run::drive_held` meets its contract: what is left of the bound leads to the same end, and the cycles to go fall.
use mathlib.Core.Path.{◌≡◌}
use mathlib.Core.List.{List}
use Prim.Native.Nat.{ℕ, ◌≤◌}
use lib.ListN.{length}
use Rattle.device.specs.declared.Device.{Device}
use Rattle.units.specs.Units.{units, spare}
use Rattle.loader_run.proofs.Sound.{Sound}
use Rattle.loader_held_run.specs.declared.Holding.{Holding}
use Rattle.loader_held_run.specs.HeldTurns.{HeldConfig}
use Rattle.loader_held_run.specs.HeldRuns.{held_conf, held_driven}
use Rattle.loader_held_run.specs.Inner.{ReadsInside}
use Rattle.loader_held_run.proofs.HeldMeasure.{held_remains}
use Rattle.loader_held_run.proofs.HeldTurning.{Keeps}
use Rattle.loader_held_run.proofs.drive_held.Given as goal

-- lent bytes by their units
abbrev u : Device → List ℕ → List ℕ
u d xs = units d.part.word xs

-- the load under way that stands in the loop's locals
abbrev here : Device → Holding → List ℕ → List ℕ → List ℕ → ℕ → HeldConfig
here d h array scratch room k = held_conf h.loader h.hold h.state (u d array) (u d scratch) (u d room) k

abbrev pub invariant-loop-d : goal.invariant-loop-d
invariant-loop-d l =
    Keeps l.d (u l.d l.wanted) l.addresses l.polls (held_driven l.d (u l.d l.wanted) l.addresses l.polls (here l.d l.initial.h l.initial.array l.initial.scratch l.initial.room 0)) (here l.d l.h l.array l.scratch l.room l.count)
    × (length l.scratch ≡ length l.initial.scratch)
    × (length l.array ≡ length l.initial.array)
    × (length l.room ≡ length l.initial.room)
    × (length (u l.d l.wanted) ≤ 524288)
    × (length l.addresses ≤ 4096)
    × ReadsInside l.d l.addresses
    × Sound l.d (u l.d l.wanted) l.h.loader l.h.state (length (u l.d l.array))
    × (spare l.d.part.word l.room ≡ spare l.d.part.word l.initial.room)

abbrev pub decreases-loop-d : goal.decreases-loop-d
decreases-loop-d l = held_remains l.h.loader l.h.hold (length (u l.d l.wanted)) (length l.addresses)
