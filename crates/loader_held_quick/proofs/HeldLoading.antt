-- A load with interruptions that nothing refuses, from what the load without them returns and leaves.
use mathlib.Core.Path.{◌≡◌, refl, sym, ap, ap₂, ◌∙◌}
use mathlib.Core.Bool.{Bool, ◌&&◌}
use mathlib.Core.List.{List, ◌++◌}
use Prim.Native.Nat.{ℕ, ◌+◌, ◌≤◌}
use native.Mathlib.Omega.{arith}
use lib.ListN.{length, drop}
use lib.Dec.{eqb}
use Rattle.std.specs.Prelude.{if◌then◌else◌}
use Rattle.common.proofs.Choice.{if_ind}
use Rattle.common.specs.Lists.{Bytes, overlaid}
use Rattle.common.proofs.Numbers.{given_no_row}
use Rattle.units.specs.Units.{units, spare, back, bytes_in}
use Rattle.units.proofs.Widths.{all_bytes}
use Rattle.device.specs.Parts.{start_of, length_of}
use Rattle.loader.specs.declared.Work.{Work}
use Rattle.loader.specs.declared.Work.TheVariants.{Load}
use Rattle.loader_run.specs.declared.Ran.{Ran}
use Rattle.loader_run.specs.declared.Job.{Job}
use Rattle.loader_run.specs.Runs.{lent_number, run_left, lent_run, doing, run_first}
use Rattle.loader_run.proofs.UnrefusedRun.{good}
use Rattle.loader_run.proofs.Lending.{units_number}
use Rattle.loader_run_claims.specs.Wear.{held_in}
use Rattle.loader_run_claims.specs.Ends.{end_number, ran_as, bytes_as}
use Rattle.loader_quick.specs.declared.Made.{Made}
use Rattle.loader_quick.specs.Quick.{Placed, held_units, stuck_by, MadeLeft, tested_left, Timed}
use Rattle.loader_quick.proofs.Places.{inside, long, self, few}
use Rattle.loader_quick.proofs.Tested.{tested_run, tested_rises, tested_units}
use Rattle.loader_quick.proofs.Runs.{placed, ran_so, whole_run}
use Rattle.loader_held_lists.specs.Listings.{held_number}
use Rattle.loader_held_run.specs.HeldRuns.{held_run_rows, held_run_number, lent_held}
use Rattle.loader_held_run.proofs.HeldJudging.{none_refuses, lists_few}
use Rattle.loader_held_claims.specs.HeldMade.{read_at, filled_by, interrupts}
use Rattle.loader_held_claims.proofs.Rooms.{same_elsewhere}
use Rattle.loader_held_claims.specs.HeldEnds.{erases, added_by, ends_turned, ran_more}
use Rattle.loader_held_ends.specs.HeldLent.{LentTaken, LentBeside, room_in}
use Rattle.loader_held_ends.proofs.Claims.{lent_beside, room_enough, addresses_elsewhere}
use Rattle.loader_held_ends.proofs.Addresses.{room_bytes}
use Rattle.loader_held_quick.specs.declared.Extra.{Extra}
use Rattle.loader_held_quick.specs.HeldQuick.{turned_by, extra_of, room_for, extra_by, room_by}
use Rattle.loader_held_quick.proofs.Extras.{extra_is}
use Rattle.loader_held_quick.proofs.Turning.{turned_is, count_most}

-- the room in bytes, by its units and its spare byte
pub room_filled : (w : Bool) (array bs room left : List ℕ) → Bytes room → Bytes left → length bs ≤ length (units w room)
    → units w left ≡ filled_by (units w array) bs (units w room) → spare w left ≡ spare w room → left ≡ room_in w array bs room
room_filled w array bs room left b c g u o = sym (all_bytes w left c) ∙ ap₂ (λ (us rest : List ℕ). back w us ++ rest) u o ∙ room_bytes w (units w array) bs room b g

module _ (j : Job) (array wanted scratch bs room : List ℕ) (z : held_run_number j (length array) (length wanted) (length scratch) bs (length room) ≡ 0) where
  abbrev w : Bool
  w = j.device.part.word

  abbrev W : List ℕ
  W = units w wanted

  abbrev Y : List ℕ
  Y = held_units j.device.part j.block array wanted

  abbrev X : List ℕ
  X = units w array

  abbrev stuck : Bool
  stuck = stuck_by j.device.part j.pins j.block

  own : lent_number j (length array) (length wanted) (length scratch) ≡ 0
  own = (none_refuses j (length array) (length wanted) (length scratch) bs (length room) z).0

  lists : held_number j.device.part j.block bs (length room) ≡ 0
  lists = (none_refuses j (length array) (length wanted) (length scratch) bs (length room) z).1

  in_place : Placed j.device.part j.block (length array) (length wanted) (length scratch)
  in_place = placed j array wanted scratch own

  pub few_addresses : length bs ≤ 4096
  few_addresses = lists_few j.device j.block bs (length room) lists

  pub enough_room : length bs ≤ length (units w room)
  enough_room = room_enough j.device j.block bs room lists

  pub few_units : length W ≤ 1048576
  few_units = few j.device.part j.block array wanted scratch in_place

  sized : length W ≡ length_of j.device.part j.block
  sized = (good j (length (units w array)) (length W) (length (units w scratch)) (units_number j array wanted scratch own)).wanted

  held_is : Y ≡ held_in (start_of j.device.part j.block) (length_of j.device.part j.block) (units w array)
  held_is = ap (λ (n : ℕ). held_in (start_of j.device.part j.block) n (units w array)) sized

  module _ (verify : Bool) (e : j.work ≡ Load verify) (t : Timed j.device) (bx : Bytes array) (bw : Bytes wanted) (br : Bytes room) (ps : List ℕ) where
    taken : LentTaken j array wanted scratch bs room
    unfolding run_first
    taken =
        record {
          accepted = given_no_row (held_run_rows j (length array) (length wanted) (length scratch) bs (length room)) refl z;
          array_bytes = bx;
          wanted_bytes = bw;
          room_bytes = br;
          programs = t.0;
          erase_time = t.1;
        }

    B : LentBeside verify j array wanted scratch ps bs room
    B = lent_beside verify j array wanted scratch ps bs room taken

    -- the load without interruptions, whose tests are made
    abbrev T : MadeLeft
    T = tested_left j array wanted scratch

    plain : (T.made.ran ≡ (lent_run j array wanted scratch).ran) × ((T.bytes ≡ (lent_run j array wanted scratch).bytes) × (T.scratch ≡ (lent_run j array wanted scratch).scratch))
    plain = tested_run j array wanted scratch own t bw bx

    -- .. returns that
    plain_ran : (lent_run j array wanted scratch).ran ≡ ran_as verify j W Y
    plain_ran =
        ap (λ (work : Work). (lent_run (doing work j) array wanted scratch).ran) e
        ∙ sym (ran_so (doing (Load verify) j) array wanted scratch own (run_left (doing (Load verify) j) (units w array) W (units w scratch)).ran refl)
        ∙ (whole_run j array wanted scratch own verify t bw bx).ran

    -- .. and knows what interruptions come to, and what becomes of the room
    extra_so : (m : Made) → m ≡ T.made
        → (extra_by m.rises stuck j.device bs ps ≡ extra_of j array wanted bs ps) × (room_by m.rises stuck j.device ps (room_in w array bs room) room ≡ room_for j array wanted bs ps room)
    extra_so m o =
        extra_is j array wanted bs ps room (long j.device.part j.block array wanted scratch in_place) m.rises (ap (λ (y : Made). y.rises) o ∙ tested_rises j array wanted scratch own verify e)

    pub held_ran : (m : Made) (x : Extra) (turned : Bool) → m ≡ T.made → x ≡ extra_by m.rises stuck j.device bs ps
        → turned ≡ turned_by verify x.last (length W) j.device.erase m.ran.count → ran_more m.ran x.cycles turned ≡ (lent_held j array wanted scratch ps bs room).ran
    held_ran m x turned o f u =
        let r = m.ran in
        let p : r ≡ (lent_run j array wanted scratch).ran = ap (λ (y : Made). y.ran) o ∙ plain.0 in
        let q : x ≡ extra_of j array wanted bs ps = f ∙ (extra_so m o).0 in
        let v : turned ≡ ends_turned j.device j.pins j.block W Y ps =
        u ∙ (λ i. turned_by verify (q i).last (length W) j.device.erase ((p ∙ plain_ran) i).count) ∙ turned_is verify j W Y ps in
        (λ i. ran_more (p i) (q i).cycles (v i))
        ∙ (λ i. ran_more (lent_run (doing (e i) j) array wanted scratch).ran (added_by j.device j.pins j.block W (held_is i) bs ps) (ends_turned j.device j.pins j.block W (held_is i) ps))
        ∙ sym B.ran
        ∙ ap (λ (work : Work). (lent_held (doing work j) array wanted scratch ps bs room).ran) (sym e)

    pub held_array : T.bytes ≡ (lent_held j array wanted scratch ps bs room).bytes
    held_array =
        plain.1.0 ∙ ap (λ (work : Work). (lent_run (doing work j) array wanted scratch).bytes) e ∙ sym B.bytes ∙ ap (λ (work : Work). (lent_held (doing work j) array wanted scratch ps bs room).bytes) (sym e)

    pub held_scratch : T.scratch ≡ (lent_held j array wanted scratch ps bs room).scratch
    held_scratch =
        plain.1.1 ∙ ap (λ (work : Work). (lent_run (doing work j) array wanted scratch).scratch) e ∙ sym B.scratch_left ∙ ap (λ (work : Work). (lent_held (doing work j) array wanted scratch ps bs room).scratch) (sym e)

    -- other blocks are as they were, so the room is filled after the load with what it is filled with before
    others : read_at (bytes_as j.device j.pins j.block (start_of j.device.part j.block) W Y X) bs ≡ read_at X bs
    unfolding bytes_as
    others =
        let q = long j.device.part j.block array wanted scratch in_place in
        let n = inside j.device.part j.block array wanted scratch in_place in
        if_ind (λ (us : List ℕ). read_at us bs ≡ read_at X bs) (eqb (end_number j.device j.pins j.block W Y) 0) (overlaid X (start_of j.device.part j.block) W) X
        (λ o. same_elsewhere j.device j.block X Y W (q ∙ sized) sized (omega (arith, n, sized)) bs (addresses_elsewhere j.device j.block bs (length room) lists)
        ∙ ap (λ (us : List ℕ). read_at us bs) (self j.device.part j.block array wanted scratch in_place))
        (λ o. refl)

    pub held_room : (m : Made) (left : List ℕ) → m ≡ T.made → left ≡ T.bytes
        → room_by m.rises stuck j.device ps (room_in w left bs room) room ≡ (lent_held j array wanted scratch ps bs room).room
    held_room m left o q =
        let same : read_at (units w left) bs ≡ read_at X bs = ap (λ (xs : List ℕ). read_at (units w xs) bs) q ∙ ap (λ (us : List ℕ). read_at us bs) (tested_units j array wanted scratch own verify e) ∙ others in
        ap (λ (us : List ℕ). room_by m.rises stuck j.device ps (back w us ++ drop (bytes_in w (length bs)) room) room) same
        ∙ (extra_so m o).1
        ∙ ap (λ (y : List ℕ). if erases j.device j.pins j.block W y && interrupts ps 0 j.device.erase then room_in w array bs room else room) held_is
        ∙ sym B.filled
        ∙ ap (λ (work : Work). (lent_held (doing work j) array wanted scratch ps bs room).room) (sym e)

    pub count_fits : (m : Made) (x : Extra) → m ≡ T.made → x.cycles ≤ 9000000000 → m.ran.count + x.cycles ≤ 18446744073709551615
    count_fits m x o b =
        let n = count_most verify j W Y ps t few_units in
        let q : m.ran.count ≡ (ran_as verify j W Y).count = ap (λ (y : Made). y.ran.count) o ∙ ap (λ (y : Ran). y.count) (plain.0 ∙ plain_ran) in
        omega (arith, n, q, b)
