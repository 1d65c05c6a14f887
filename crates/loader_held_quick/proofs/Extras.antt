-- What interruptions come to, by whether a bit must rise and whether no operation can start, is what they come to in the job.
use mathlib.Core.Path.{◌≡◌, refl, sym, ap}
use mathlib.Core.Bool.{Bool, true, false, ◌&&◌}
use mathlib.Core.List.{List}
use Prim.Native.Nat.{ℕ}
use lib.ListN.{length}
use lib.Dec.{eqb}
use borrow.Author.Tests.{eq-eqb}
use Rattle.std.specs.Prelude.{if◌then◌else◌}
use Rattle.units.specs.Units.{units}
use Rattle.loader_walk.specs.Walks.{rises_in}
use Rattle.loader_run.specs.declared.Job.{Job}
use Rattle.loader_run_claims.specs.Ends.{end_number}
use Rattle.loader_run_claims.proofs.SameBlock.{risen_differs}
use Rattle.loader_quick.specs.Quick.{held_units, stuck_by}
use Rattle.loader_quick.proofs.Loading.{none_well, well_ends}
use Rattle.loader_held.specs.Holds.{listed}
use Rattle.loader_held_claims.specs.HeldMade.{interrupts, added_in}
use Rattle.loader_held_claims.specs.HeldEnds.{erases, added_tried, added_by}
use Rattle.loader_held_ends.specs.HeldLent.{room_in}
use Rattle.loader_held_quick.specs.HeldQuick.{extra_of, room_for, extra_by, room_by}
use Rattle.loader_held_quick.proofs.Adding.{added_level, level_erases, added_tried_lem, tried_erases, added_begun, begun_erases}

module _ (j : Job) (xs w bs ps room : List ℕ) where
  abbrev W : List ℕ
  W = units j.device.part.word w

  abbrev Y : List ℕ
  Y = held_units j.device.part j.block xs w

  abbrev filled : List ℕ
  filled = room_in j.device.part.word xs bs room

  -- an erase begun or not, and what is added: both answers by them
  told : (o : Bool) (n : ℕ) → erases j.device j.pins j.block W Y ≡ o → added_by j.device j.pins j.block W Y bs ps ≡ n
      → (record { cycles = n; last = o && listed j.device.erase ps } ≡ extra_of j xs w bs ps)
      × ((if o && interrupts ps 0 j.device.erase then filled else room) ≡ room_for j xs w bs ps room)
  told o n e f =
      ((λ i. record { cycles = sym f i; last = sym e i && listed j.device.erase ps }), ap (λ (b : Bool). if b && interrupts ps 0 j.device.erase then filled else room) (sym e))

  pub extra_is : length Y ≡ length W → (rises : Bool) → rises ≡ rises_in W Y
      → (extra_by rises (stuck_by j.device.part j.pins j.block) j.device bs ps ≡ extra_of j xs w bs ps)
      × (room_by rises (stuck_by j.device.part j.pins j.block) j.device ps filled room ≡ room_for j xs w bs ps room)
  extra_is l rises e = go rises e (stuck_by j.device.part j.pins j.block) refl
    where
      go : (r : Bool) → r ≡ rises_in W Y → (s : Bool) → stuck_by j.device.part j.pins j.block ≡ s
          → (extra_by r s j.device bs ps ≡ extra_of j xs w bs ps) × (room_by r s j.device ps filled room ≡ room_for j xs w bs ps room)
      go false e s q = told false 0 (level_erases j.device j.pins j.block W Y bs ps (sym e)) (added_level j.device j.pins j.block W Y bs ps (sym e))
      go true e true q =
          let z : eqb (end_number j.device j.pins j.block W Y) 0 ≡ false = none_well j W Y q (risen_differs W Y l (sym e)) in
          told false (added_tried ps) (tried_erases j.device j.pins j.block W Y bs ps (sym e) z) (added_tried_lem j.device j.pins j.block W Y bs ps (sym e) z)
      go true e false q =
          let z : eqb (end_number j.device j.pins j.block W Y) 0 ≡ true = eq-eqb _ 0 (well_ends j W Y q) in
          told true (added_in j.device bs ps 0 j.device.erase) (begun_erases j.device j.pins j.block W Y bs ps (sym e) z) (added_begun j.device j.pins j.block W Y bs ps (sym e) z)
