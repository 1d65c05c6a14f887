-- Of the list of polls only which numbers it names is looked at, and of those only the numbers of polls that come.
use mathlib.Core.Path.{◌≡◌, refl, sym, ap, ◌∙◌}
use mathlib.Core.Bool.{Bool, true, false, ◌&&◌, ◌||◌}
use mathlib.Core.List.{List, [], ◌∷◌, ◌++◌}
use Prim.Native.Nat.{ℕ, zero, suc, ◌+◌, ◌≤◌, ◌<◌}
use native.Mathlib.Omega.{arith}
use lib.ListN.{length}
use lib.Dec.{eqb, ltb}
use borrow.Author.Tests.{ne_eqb}
use Rattle.std.specs.Prelude.{if◌then◌else◌}
use Rattle.device.specs.declared.Device.{Device}
use Rattle.model_types.specs.declared.Kind.TheVariants.{Read, Write}
use Rattle.model_types.specs.declared.State.{State}
use Rattle.model_types.specs.declared.Cycle.{Cycle}
use Rattle.model.specs.declared.Seen.{Seen}
use Rattle.model.specs.declared.Seen.TheVariants.{NoData, Data, Refused}
use Rattle.loader.specs.declared.Stage.{Stage}
use Rattle.loader.specs.declared.Stage.TheVariants.{Clearing, Opening, Reading, EraseAsking, EraseConfirming, EraseWaiting, ProgramAsking, ProgramSending, ProgramWaiting, Closing, Verifying, Ended}
use Rattle.loader.specs.declared.Loader.{Loader}
use Rattle.loader_walk.specs.Walks.{rises_in}
use Rattle.loader.specs.Stages.{is_ended}
use Rattle.loader_moves.specs.Moves.{next_of, moved_to}
use Rattle.loader_stores.specs.Stores.{store_of}
use Rattle.loader_run_claims.specs.Made.{bus_cycle, opening_then, closing_by, programming_then}
use Rattle.loader_run_claims.specs.Wear.{programs_in}
use Rattle.loader_run_claims.specs.Ends.{end_number, ran_as, cycles_as}
use Rattle.loader_held.specs.declared.Step.{Step}
use Rattle.loader_held.specs.declared.Step.TheVariants.{Usual, Halting, Looking, Settling, ArrayAsking, Fetching, Resuming}
use Rattle.loader_held.specs.declared.Hold.{Hold}
use Rattle.loader_held.specs.Holds.{listed, hold_as, usual, pair_of, after_poll, numbered, held_next}
use Rattle.loader_held_run.specs.HeldTurns.{HeldConfig, pair_by, scratch_held, room_by, out_of, held_answer, held_array, moved_by, held_turn, held_after}
use Rattle.loader_held_claims.specs.HeldMade.{held_made, filled_by, held_then, found_then, is_last, erase_polls}
use Rattle.loader_held_claims.specs.HeldEnds.{erases, tried_poll, added_by, ends_turned, ran_more, held_ran_as, room_as, held_cycles_as}
use Rattle.loader_held_claims.proofs.Rooms.{same_interrupts, same_added}
use Rattle.loader_run.specs.declared.Job.{Job}

-- a number is named by a list if it is by a part of it
pub listed_joined : (n : ℕ) (ps qs : List ℕ) → listed n (ps ++ qs) ≡ (listed n ps || listed n qs)
unfolding listed
listed_joined n [] qs = refl
listed_joined n (p ∷ ps) qs = ap (λ (b : Bool). eqb p n || b) (listed_joined n ps qs) ∙ nested (eqb p n) (listed n ps) (listed n qs)
  where
    nested : (a b c : Bool) → (a || (b || c)) ≡ ((a || b) || c)
    nested true b c = refl
    nested false b c = refl

-- the order changes nothing, nor does an entry that stands twice, nor 0
pub unsorted : (n : ℕ) (ps qs : List ℕ) → listed n (ps ++ qs) ≡ listed n (qs ++ ps)
unsorted n ps qs = listed_joined n ps qs ∙ turned (listed n ps) (listed n qs) ∙ sym (listed_joined n qs ps)
  where
    turned : (a b : Bool) → (a || b) ≡ (b || a)
    turned true true = refl
    turned true false = refl
    turned false true = refl
    turned false false = refl

pub doubled : (n : ℕ) (ps : List ℕ) → listed n (ps ++ ps) ≡ listed n ps
doubled n ps = listed_joined n ps ps ∙ once (listed n ps)
  where
    once : (a : Bool) → (a || a) ≡ a
    once true = refl
    once false = refl

pub zero_unmet : (n : ℕ) (ps : List ℕ) → 0 < n → listed n (0 ∷ ps) ≡ listed n ps
unfolding listed
zero_unmet n ps h = ap (λ (b : Bool). b || listed n ps) (ne_eqb 0 n (λ q. omega arith))

-- two lists that name the same polls: the same load, turn by turn, from anywhere
module _ (ps qs : List ℕ) (same : (n : ℕ) → 0 < n → listed n ps ≡ listed n qs) where
  after_same : (n : ℕ) → after_poll n ps ≡ after_poll n qs
  unfolding after_poll
  after_same n = λ i. if ltb n 4294967295 then (if same (n + 1) (omega arith) i then hold_as Halting (n + 1) 0 0 false else usual (n + 1)) else usual n

  numbered_same : (s : Stage) (n : ℕ) → numbered s n ps ≡ numbered s n qs
  numbered_same Clearing n = refl
  numbered_same Opening n = refl
  numbered_same Reading n = refl
  numbered_same EraseAsking n = refl
  numbered_same EraseConfirming n = refl
  numbered_same EraseWaiting n = after_same n
  numbered_same ProgramAsking n = refl
  numbered_same ProgramSending n = refl
  numbered_same ProgramWaiting n = refl
  numbered_same Closing n = refl
  numbered_same Verifying n = refl
  numbered_same (Ended e) n = refl

  next_same : (step : Step) (l : Loader) (h : Hold) (v k : ℕ) (w sc : List ℕ) → held_next step l h v k w sc ps ≡ held_next step l h v k w sc qs
  next_same Usual l h v k w sc = ap (λ (x : Hold). pair_of (next_of l v w (store_of l v w sc)) x) (numbered_same (next_of l v w (store_of l v w sc)).stage h.number)
  next_same Halting l h v k w sc = refl
  next_same Looking l h v k w sc = refl
  next_same Settling l h v k w sc = refl
  next_same ArrayAsking l h v k w sc = refl
  next_same Fetching l h v k w sc = refl
  next_same Resuming l h v k w sc = ap (λ (x : Hold). pair_of (moved_to l EraseWaiting 0 0) x) (after_same h.number)

  pair_same : (seen : Seen) (l : Loader) (h : Hold) (k : ℕ) (w sc : List ℕ) → pair_by seen l h k w sc ps ≡ pair_by seen l h k w sc qs
  pair_same NoData l h k w sc = next_same h.step l h 0 k w sc
  pair_same (Data v) l h k w sc = next_same h.step l h v k w sc
  pair_same (Refused n) l h k w sc = refl

  module _ (d : Device) (w bs : List ℕ) where
    moved_same : (seen : Seen) (s : State) (xs : List ℕ) (c : HeldConfig) → moved_by seen s xs w bs ps c ≡ moved_by seen s xs w bs qs c
    moved_same seen s xs c =
        λ i. record {
          loader = (pair_same seen c.loader c.hold (length bs) w c.scratch i).loader;
          hold = (pair_same seen c.loader c.hold (length bs) w c.scratch i).hold;
          state = s;
          bytes = xs;
          scratch = scratch_held seen c.loader c.hold (length bs) w c.scratch;
          room = room_by seen c.loader.part.word c.hold c.room;
          count = c.count + 1;
        }

    turn_same : (c : HeldConfig) → held_turn d w bs ps c ≡ held_turn d w bs qs c
    unfolding held_turn
    turn_same c = λ i. if is_ended c.loader.stage then c else moved_same (held_answer d w bs c).seen (held_answer d w bs c).state (held_array d w bs c) c i

    pub after_lists : (j : ℕ) (c : HeldConfig) → held_after j d w bs ps c ≡ held_after j d w bs qs c
    after_lists zero c = refl
    after_lists (suc j) c = ap (λ (x : HeldConfig). held_after j d w bs ps x) (turn_same c) ∙ after_lists j (held_turn d w bs qs c)

    pub made_lists : (j : ℕ) (c : HeldConfig) → held_made j d w bs ps c ≡ held_made j d w bs qs c
    made_lists zero c = refl
    made_lists (suc j) c =
        ap (λ (cs : List Cycle). if is_ended c.loader.stage then cs else out_of w bs c ∷ cs)
        (ap (λ (x : HeldConfig). held_made j d w bs ps x) (turn_same c) ∙ made_lists j (held_turn d w bs qs c))

-- from a start that nothing refuses: two lists that name the same of the numbers 1 to E
module _ (verify : Bool) (j : Job) (w ys bs ps qs : List ℕ) (some : 0 < j.device.erase) (same : (i : ℕ) → 0 < i → i ≤ j.device.erase → listed i ps ≡ listed i qs) where
  polls_same : (a m n : ℕ) (cs : List Cycle) → ((i : ℕ) → n < i → i ≤ n + m → listed i ps ≡ listed i qs) → erase_polls j.device j.pins a bs ps n m cs ≡ erase_polls j.device j.pins a bs qs n m cs
  polls_same a zero n cs h = refl
  polls_same a (suc m) n cs h = go (polls_same a m (n + 1) cs (λ i g f. h i (omega arith) (omega arith)))
    where
      go : erase_polls j.device j.pins a bs ps (n + 1) m cs ≡ erase_polls j.device j.pins a bs qs (n + 1) m cs → erase_polls j.device j.pins a bs ps n (suc m) cs ≡ erase_polls j.device j.pins a bs qs n (suc m) cs
      go rest = λ t.
          if h (n + 1) (omega arith) (omega arith) t
          then (if is_last m then found_then j.pins a bs cs else held_then j.device j.pins a bs (rest t))
          else bus_cycle j.pins Read a 0 ∷ rest t

  coming : (i : ℕ) → 0 < i → i ≤ 0 + j.device.erase → listed i ps ≡ listed i qs
  coming i g f = same i g (omega arith)

  added_same : added_by j.device j.pins j.block w ys bs ps ≡ added_by j.device j.pins j.block w ys bs qs
  unfolding added_by
  added_same = λ t. if rises_in w ys then (if eqb (end_number j.device j.pins j.block w ys) 0 then same_added ps qs j.device bs j.device.erase 0 coming t else (if same 1 (omega arith) (omega arith) t then 2 else 0)) else 0

  turned_same : ends_turned j.device j.pins j.block w ys ps ≡ ends_turned j.device j.pins j.block w ys qs
  unfolding ends_turned
  turned_same = λ t. (erases j.device j.pins j.block w ys && eqb (programs_in j.device.part w ys) 0) && same j.device.erase some (omega arith) t

  pub ran_same : held_ran_as verify j w ys bs ps ≡ held_ran_as verify j w ys bs qs
  unfolding held_ran_as
  ran_same = λ t. ran_more (ran_as verify j w ys) (added_same t) (turned_same t)

  pub room_same : (xs room : List ℕ) → room_as j.device j.pins j.block w ys xs bs ps room ≡ room_as j.device j.pins j.block w ys xs bs qs room
  unfolding room_as
  room_same xs room = λ t. if erases j.device j.pins j.block w ys && same_interrupts ps qs j.device.erase 0 coming t then filled_by xs bs room else room

  pub cycles_same : (a : ℕ) → held_cycles_as verify j.device j.pins j.block a w ys bs ps ≡ held_cycles_as verify j.device j.pins j.block a w ys bs qs
  unfolding held_cycles_as
  cycles_same a = λ t.
      if rises_in w ys
      then opening_then j.pins a (length w) (bus_cycle j.pins Write a 0x20 ∷ bus_cycle j.pins Write a 0xD0
      ∷ (if eqb (end_number j.device j.pins j.block w ys) 0 then polls_same a j.device.erase 0 (programming_then j.device j.pins a w ys (closing_by verify j.pins a (length w))) coming t else tried t))
      else cycles_as verify j.device j.pins j.block a w ys
    where
      tried : tried_poll j.pins a ps ≡ tried_poll j.pins a qs
      tried = λ t. if same 1 (omega arith) (omega arith) t then bus_cycle j.pins Write a 0xB0 ∷ bus_cycle j.pins Write a 0x70 ∷ bus_cycle j.pins Read a 0 ∷ [] else bus_cycle j.pins Read a 0 ∷ []
