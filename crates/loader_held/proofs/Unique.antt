-- Two results that a promise of this crate allows are equal, and so is what it leaves in each thing lent.
use mathlib.Core.Path.{◌≡◌}
use mathlib.Core.Bool.{Bool}
use mathlib.Core.List.{List}
use Prim.Native.Nat.{ℕ}
use Rattle.common.specs.Choice.{Unique}
use Rattle.common.proofs.Choice.{only}
use Rattle.model_types.specs.declared.Cycle.{Cycle}
use Rattle.loader.specs.declared.Loader.{Loader}
use Rattle.loader_held.specs.declared.Step.{Step}
use Rattle.loader_held.specs.declared.Hold.{Hold}
use Rattle.loader_held.specs.declared.Pair.{Pair}
use Rattle.loader_moves.specs.Inner.{past}
use Rattle.loader_held.specs.Holds.{listed, usual, pair_of, held_next, held_cycle}

-- what store_room and held_next leave is told by its units and its spare byte (`left_unique` of units)
pub held_next_unique : (step : Step) (l : Loader) (h : Hold) (v k : ℕ) (w sc ps : List ℕ) → Unique (λ (r : Pair). r ≡ held_next step l h v k w sc ps)
held_next_unique step l h v k w sc ps = only (held_next step l h v k w sc ps)

pub held_out_unique : (step : Step) (l : Loader) (h : Hold) (w bs : List ℕ) → Unique (λ (r : Cycle). r ≡ held_cycle step l h w bs)
held_out_unique step l h w bs = only (held_cycle step l h w bs)

pub usually_unique : (n : ℕ) → Unique (λ (r : Hold). r ≡ usual n)
usually_unique n = only (usual n)

pub pair_of_unique : (l : Loader) (h : Hold) → Unique (λ (r : Pair). r ≡ pair_of l h)
pair_of_unique l h = only (pair_of l h)

pub next_place_unique : (p n : ℕ) → Unique (λ (r : ℕ). r ≡ past p n)
next_place_unique p n = only (past p n)

pub is_listed_unique : (n : ℕ) (ps : List ℕ) → Unique (λ (r : Bool). r ≡ listed n ps)
is_listed_unique n ps = only (listed n ps)
