-- Stepping a load with interruptions by hand is the run: each step gives what the run's next turn gives.
use mathlib.Core.Path.{◌≡◌, refl, sym, ap, ◌∙◌, subst}
use mathlib.Core.Bool.{Bool, true, false, not}
use mathlib.Core.List.{List, []}
use Prim.Native.Nat.{ℕ, zero, suc, ◌≤◌, ◌<◌}
use native.Mathlib.Omega.{arith}
use lib.ListN.{length}
use lib.Dec.{ltb}
use borrow.Author.Tests.{ltb-true, ltb-false, not-true}
use Rattle.std.specs.Prelude.{if◌then◌else◌}
use Rattle.common.proofs.Choice.{if_true, if_false, or_right, and_left, and_right, unlike}
use Rattle.common.specs.Numbers.{NoRow}
use Rattle.common.proofs.Numbers.{given_no_row}
use Rattle.device.specs.declared.Device.{Device}
use Rattle.model_types.specs.declared.Kind.TheVariants.{Read}
use Rattle.model_types.specs.declared.Decision.{Decision}
use Rattle.model_levels.specs.Levels.{rp_low, bad_pins}
use Rattle.model_rules.specs.Cycles.{decide_of}
use Rattle.model.specs.declared.Seen.{Seen}
use Rattle.model.specs.declared.Seen.TheVariants.{NoData, Data, Refused}
use Rattle.model.specs.Arrays.{answer_of, array_after, is_refusal}
use Rattle.loader.specs.declared.Loader.{Loader}
use Rattle.loader.specs.declared.Saying.TheVariants.{Over}
use Rattle.loader.specs.Statuses.{status_in}
use Rattle.loader.specs.Stages.{is_ended, end_by}
use Rattle.loader_steps.specs.Front.{barred_pins, start_number, end_address}
use Rattle.loader_steps.proofs.StartAndStep.{taken}
use Rattle.loader_run.specs.Turns.{is_refused, number_in}
use Rattle.loader_run.specs.Runs.{run_rows, run_number, run_first}
use Rattle.loader_run_claims.specs.Made.{is_smooth}
use Rattle.loader_run_claims.proofs.Stepping.{Alike, seen_taken, read_answered, alike, start_passes}
use Rattle.loader_held_lists.specs.Listings.{held_number}
use Rattle.loader_held.specs.declared.Step.{Step}
use Rattle.loader_held.specs.declared.Step.TheVariants.{Usual, Halting, Looking, Settling, ArrayAsking, Fetching, Resuming}
use Rattle.loader_held.specs.declared.Hold.{Hold}
use Rattle.loader_held.specs.declared.Pair.{Pair}
use Rattle.loader_held.specs.Holds.{pair_of, numbered, settled_by, held_next, held_scratch, held_room, held_cycle}
use Rattle.loader_held_steps.specs.HeldFront.{start_held_number, step_held_number, held_response, start_held_response, held_move, step_held_response}
use Rattle.loader_held_steps.proofs.Passed.{start_passed_back, step_passed}
use Rattle.loader_held_steps.proofs.HeldAgain.{step_again, start_again}
use Rattle.loader_held_steps.proofs.HeldAnswering.{start_on, step_on}
use Rattle.loader_held_run.specs.HeldTurns.{HeldConfig, pair_by, scratch_held, room_by, out_of, held_answer, held_moved, held_turn, held_after}
use Rattle.loader_held_run.specs.HeldRuns.{held_bound, held_driven, held_ran}
use Rattle.loader_held_run.specs.HeldPromises.{HeldFirstEnd}
use Rattle.loader_held_run.proofs.HeldTurning.{turn_ended, turn_going, ended_stays}
use Rattle.loader_held_run.proofs.HeldEnding.{always_ends, first_end}
use Rattle.loader_held_claims.specs.HeldMade.{held_smooth_turn, held_smooth}
use Rattle.loader_held_ends.specs.HeldMission.{held_end, held_fine}
use Rattle.loader_held_ends.specs.HeldStepping.{HandedOn, pair_in, stepped_at, stepped_over, HeldStepped}
use Rattle.loader_run.specs.declared.Job.{Job}

-- what an answer that is no refusal makes of the records, scratch and the room
took : (seen : Seen) (l : Loader) (h : Hold) (k : ℕ) (w sc ps : List ℕ) → is_refused seen ≡ false → pair_by seen l h k w sc ps ≡ held_next h.step l h (number_in seen) k w sc ps
took NoData l h k w sc ps e = refl
took (Data v) l h k w sc ps e = refl
took (Refused n) l h k w sc ps e = absurd (unlike e)

took_scratch : (seen : Seen) (l : Loader) (h : Hold) (k : ℕ) (w sc : List ℕ) → is_refused seen ≡ false → scratch_held seen l h k w sc ≡ held_scratch h.step l h (number_in seen) k w sc
took_scratch NoData l h k w sc e = refl
took_scratch (Data v) l h k w sc e = refl
took_scratch (Refused n) l h k w sc e = absurd (unlike e)

took_room : (seen : Seen) (word : Bool) (h : Hold) (room : List ℕ) → is_refused seen ≡ false → room_by seen word h room ≡ held_room h.step word h (number_in seen) room
took_room NoData word h room e = refl
took_room (Data v) word h room e = refl
took_room (Refused n) word h room e = absurd (unlike e)

-- the cycle that is out has the record's levels
levels_out : (step : Step) (l : Loader) (h : Hold) (w bs : List ℕ) → (held_cycle step l h w bs).pins ≡ l.pins
levels_out Usual l h w bs = refl
levels_out Halting l h w bs = refl
levels_out Looking l h w bs = refl
levels_out Settling l h w bs = refl
levels_out ArrayAsking l h w bs = refl
levels_out Fetching l h w bs = refl
levels_out Resuming l h w bs = refl

-- two numbers move both records alike: the same after a read, any two after a write
record Same (step : Step) (l : Loader) (h : Hold) (k : ℕ) (w sc ps room : List ℕ) (word : Bool) (b x : ℕ) : Type 0 where
  next : held_next step l h b k w sc ps ≡ held_next step l h x k w sc ps
  scratch : held_scratch step l h b k w sc ≡ held_scratch step l h x k w sc
  filled : held_room step word h b room ≡ held_room step word h x room

same : (step : Step) (l : Loader) (h : Hold) (k : ℕ) (w bs sc ps room : List ℕ) (word : Bool) (b x : ℕ) → ((held_cycle step l h w bs).kind ≡ Read → b ≡ x) → Same step l h k w sc ps room word b x
same Usual l h k w bs sc ps room word b x f =
    let a : Alike l.stage l w sc b x = alike l.stage l w sc b x f in
    record { next = ap (λ (r : Loader). pair_of r (numbered r.stage h.number ps)) a.next; scratch = a.stored; filled = refl }
same Halting l h k w bs sc ps room word b x f = record { next = refl; scratch = refl; filled = refl }
same Looking l h k w bs sc ps room word b x f = record { next = refl; scratch = refl; filled = refl }
same Settling l h k w bs sc ps room word b x f = record { next = ap (λ (y : ℕ). settled_by l h (status_in y)) (f refl); scratch = refl; filled = refl }
same ArrayAsking l h k w bs sc ps room word b x f = record { next = refl; scratch = refl; filled = refl }
same Fetching l h k w bs sc ps room word b x f = record { next = refl; scratch = refl; filled = ap (λ (y : ℕ). held_room Fetching word h y room) (f refl) }
same Resuming l h k w bs sc ps room word b x f = record { next = refl; scratch = refl; filled = refl }

-- one turn that the model takes, from records whose tests pass
module _ (d : Device) (w bs ps : List ℕ) (size : ℕ) (c : HeldConfig) (going : is_ended c.loader.stage ≡ false)
    (fine : is_refusal (decide_of d c.state (out_of w bs c) (length c.bytes) 0).reply ≡ false)
    (passes : step_held_number c.loader c.hold (length w) (length c.scratch) bs size ≡ 0) where
  abbrev seen : Seen
  seen = (held_answer d w bs c).seen

  turn_taken : is_refused seen ≡ false
  unfolding held_answer answer_of
  turn_taken = seen_taken (decide_of d c.state (out_of w bs c) (length c.bytes) 0).reply (array_after d c.state (out_of w bs c) c.bytes []) fine

  levels_up : (l : Loader) → barred_pins l.part l.pins ≡ false → rp_low l.pins ≡ false
  unfolding barred_pins
  levels_up l e = or_right (bad_pins l.part l.pins) (rp_low l.pins) e

  turn_read : (out_of w bs c).kind ≡ Read → seen ≡ Data (number_in seen)
  unfolding held_answer answer_of
  turn_read kind =
      read_answered d c.state (out_of w bs c) (length c.bytes) 0 (array_after d c.state (out_of w bs c) c.bytes []) kind
      (ap rp_low (levels_out c.hold.step c.loader c.hold w bs) ∙ levels_up c.loader (taken c.loader (length w) (length c.scratch) (step_passed c.loader c.hold (length w) (length c.scratch) bs size passes).old).levels) fine

  -- the records, scratch and the room that the turn leaves
  turn_pair : pair_in (held_turn d w bs ps c) ≡ held_move c.loader c.hold (number_in seen) w c.scratch ps bs
  turn_pair = ap pair_in (turn_going d w bs ps c going) ∙ took seen c.loader c.hold (length bs) w c.scratch ps turn_taken

  turn_scratch : (held_turn d w bs ps c).scratch ≡ held_scratch c.hold.step c.loader c.hold (number_in seen) (length bs) w c.scratch
  turn_scratch = ap (λ (x : HeldConfig). x.scratch) (turn_going d w bs ps c going) ∙ took_scratch seen c.loader c.hold (length bs) w c.scratch turn_taken

  turn_room : (held_turn d w bs ps c).room ≡ held_room c.hold.step c.loader.part.word c.hold (number_in seen) c.room
  turn_room = ap (λ (x : HeldConfig). x.room) (turn_going d w bs ps c going) ∙ took_room seen c.loader.part.word c.hold c.room turn_taken

  -- their tests pass again
  turn_passes : held_number c.loader.part c.loader.block bs size ≡ 0
      → (step_held_number (held_turn d w bs ps c).loader (held_turn d w bs ps c).hold (length w) (length (held_turn d w bs ps c).scratch) bs size ≡ 0)
      × (held_number (held_turn d w bs ps c).loader.part (held_turn d w bs ps c).loader.block bs size ≡ 0)
  turn_passes lists =
      let on = step_again c.loader c.hold (number_in seen) w c.scratch ps bs size passes lists in (
        subst (λ (q : Pair). step_held_number q.loader q.hold (length w) (length (held_turn d w bs ps c).scratch) bs size ≡ 0) (sym turn_pair)
            (subst (λ (z : List ℕ). step_held_number (held_move c.loader c.hold (number_in seen) w c.scratch ps bs).loader (held_move c.loader c.hold (number_in seen) w c.scratch ps bs).hold (length w) (length z) bs size ≡ 0) (sym turn_scratch)
            on.0),
        subst (λ (q : Pair). held_number q.loader.part q.loader.block bs size ≡ 0) (sym turn_pair) on.1,
      )

  -- the step with the data handed on gives and leaves the same
  module _ (b : ℕ) (handed : HandedOn d w bs c b) where
    alike_here : Same c.hold.step c.loader c.hold (length bs) w c.scratch ps c.room c.loader.part.word b (number_in seen)
    alike_here = same c.hold.step c.loader c.hold (length bs) w bs c.scratch ps c.room c.loader.part.word b (number_in seen) (λ kind. handed (number_in seen) kind (turn_read kind))

    step_response_lem : step_held_response c.loader c.hold b w c.scratch ps bs size ≡ held_response (pair_in (held_turn d w bs ps c)) w bs
    step_response_lem = step_on c.loader c.hold b w c.scratch ps bs size passes ∙ ap (λ (q : Pair). held_response q w bs) (alike_here.next ∙ sym turn_pair)

    step_stored : held_scratch c.hold.step c.loader c.hold b (length bs) w c.scratch ≡ (held_turn d w bs ps c).scratch
    step_stored = alike_here.scratch ∙ sym turn_scratch

    step_filled : held_room c.hold.step c.loader.part.word c.hold b c.room ≡ (held_turn d w bs ps c).room
    step_filled = alike_here.filled ∙ sym turn_room

module _ (d : Device) (w bs ps : List ℕ) where
  -- the last of some turns
  after_last : (j : ℕ) (c : HeldConfig) → held_after (suc j) d w bs ps c ≡ held_turn d w bs ps (held_after j d w bs ps c)
  after_last zero c = refl
  after_last (suc j) c = after_last j (held_turn d w bs ps c)

  -- what has ended has ended later
  ended_later : (m j : ℕ) (c : HeldConfig) → m ≤ j → is_ended (held_after m d w bs ps c).loader.stage ≡ true → is_ended (held_after j d w bs ps c).loader.stage ≡ true
  ended_later zero j c h e = ap (λ (x : HeldConfig). is_ended x.loader.stage) (ended_stays j d w bs ps c e) ∙ e
  ended_later (suc m) zero c h e = absurd (omega arith)
  ended_later (suc m) (suc j) c h e = ended_later m j (held_turn d w bs ps c) (omega arith) e

  -- where all turns up to an end are smooth, each turn before it is
  smooth_at : (m j : ℕ) (c : HeldConfig) → is_ended (held_after m d w bs ps c).loader.stage ≡ true → held_smooth m d w bs ps c ≡ true
      → is_ended (held_after j d w bs ps c).loader.stage ≡ false → held_smooth_turn d w bs (held_after j d w bs ps c) ≡ true
  smooth_at zero j c e h g = absurd (unlike (sym (ended_later zero j c (omega arith) e) ∙ g))
  smooth_at (suc m) zero c e h g = and_left (held_smooth_turn d w bs c) (held_smooth m d w bs ps (held_turn d w bs ps c)) h
  smooth_at (suc m) (suc j) c e h g = smooth_at m j (held_turn d w bs ps c) e (and_right (held_smooth_turn d w bs c) (held_smooth m d w bs ps (held_turn d w bs ps c)) h) g

  -- a smooth turn: the model takes the cycle that is out
  smooth_taken : (c : HeldConfig) → is_ended c.loader.stage ≡ false → held_smooth_turn d w bs c ≡ true → is_refusal (decide_of d c.state (out_of w bs c) (length c.bytes) 0).reply ≡ false
  unfolding held_smooth_turn
  smooth_taken c g h =
      let x : Decision = decide_of d c.state (out_of w bs c) (length c.bytes) 0 in
      not-true (is_refusal x.reply) (and_left (not (is_refusal x.reply)) _ (sym (if_false (is_ended c.loader.stage) true (is_smooth x) g) ∙ h))

-- a run whose cycles the model takes, stepped by hand
module _ (verify : Bool) (j : Job) (xs w sc bs ps room : List ℕ) (size : ℕ) (free : run_number j (length xs) (length w) (length sc) ≡ 0)
    (lists : held_number j.device.part j.block bs size ≡ 0) (smooth : held_fine verify j xs w sc bs ps room ≡ true) where
  abbrev at : ℕ → HeldConfig
  at i = stepped_at verify j xs w sc bs ps room size i

  abbrev over : ℕ → Bool
  over i = stepped_over verify j xs w sc bs ps room size i

  abbrev E : HeldConfig
  E = held_end verify j xs w sc bs ps room

  promise : HeldFirstEnd j.device w bs ps (at 0) E
  promise = first_end j.device w bs ps (at 0) refl

  bounded : is_ended (at (held_bound (length w) (length bs))).loader.stage ≡ true
  unfolding held_driven
  bounded = always_ends j.device w bs ps (at 0)

  fine : (i : ℕ) → over i ≡ false → is_refusal (decide_of j.device (at i).state (out_of w bs (at i)) (length (at i).bytes) 0).reply ≡ false
  fine i e = smooth_taken j.device w bs ps (at i) e (smooth_at j.device w bs ps (held_bound (length w) (length bs)) i (at 0) bounded smooth e)

  next : (i : ℕ) → at (suc i) ≡ held_turn j.device w bs ps (at i)
  next i = after_last j.device w bs ps i (at 0)

  -- the tests of every step pass
  abbrev Passing : HeldConfig → Type 0
  Passing c = (step_held_number c.loader c.hold (length w) (length c.scratch) bs size ≡ 0) × (held_number c.loader.part c.loader.block bs size ≡ 0)

  run_free : NoRow (run_rows j (length xs) (length w) (length sc))
  unfolding run_first
  run_free = given_no_row (run_rows j (length xs) (length w) (length sc)) refl free

  start_free : start_number j.device.part j.pins j.block (length w) (length sc) ≡ 0
  start_free = start_passes j (length xs) (length w) (length sc) run_free

  start_held : start_held_number j.device.part j.pins j.block (length w) (length sc) bs size ≡ 0
  start_held = start_passed_back j.device.part j.pins j.block (length w) (length sc) bs size start_free lists

  passing : (i : ℕ) → Passing (at i)
  passing zero = start_again verify j.device.part j.pins j.block (length w) (length sc) bs size start_held
  passing (suc i) = subst Passing (sym (next i)) (go (over i) refl (passing i))
    where
      go : (t : Bool) → over i ≡ t → Passing (at i) → Passing (held_turn j.device w bs ps (at i))
      go true e h = subst Passing (sym (turn_ended j.device w bs ps (at i) e)) h
      go false e h = turn_passes j.device w bs ps size (at i) e (fine i e) h.0 h.1

  -- the run is before its end for as many cycles as it counts
  lasting : (i : ℕ) → over i ≡ false → i < E.count
  lasting i e = go (ltb i E.count) refl
    where
      go : (t : Bool) → ltb i E.count ≡ t → i < E.count
      go true q = ltb-true i E.count q
      go false q =
          absurd (unlike (sym (ended_later j.device w bs ps E.count i (at 0) (ltb-false i E.count q) (sym (ap (λ (x : HeldConfig). is_ended x.loader.stage) promise.reached) ∙ promise.ended)) ∙ e))

  counting : (i : ℕ) → over i ≡ false → over (suc i) ≡ true → E.count ≡ suc i
  counting i e z = go (ltb (suc i) E.count) refl (lasting i e)
    where
      go : (t : Bool) → ltb (suc i) E.count ≡ t → i < E.count → E.count ≡ suc i
      go true q h = absurd (unlike (sym z ∙ promise.first (suc i) (ltb-true (suc i) E.count q)))
      go false q h = let x = ltb-false (suc i) E.count q in omega arith

  leaving : (i : ℕ) → over i ≡ false → over (suc i) ≡ true → at (suc i) ≡ E
  leaving i e z = sym (promise.reached ∙ ap at (counting i e z))

  stepping : (i b : ℕ) → over i ≡ false → HandedOn j.device w bs (at i) b → step_held_response (at i).loader (at i).hold b w (at i).scratch ps bs size ≡ held_response (pair_in (at (suc i))) w bs
  stepping i b e h = step_response_lem j.device w bs ps size (at i) e (fine i e) (passing i).0 b h ∙ ap (λ (c : HeldConfig). held_response (pair_in c) w bs) (sym (next i))

  starting : start_held_response verify j.device.part j.pins j.block w sc bs size ≡ held_response (pair_in (at 0)) w bs
  starting = start_on verify j.device.part j.pins j.block w sc bs size start_held

  pub by_hand : HeldStepped verify j xs w sc bs ps room size
  by_hand =
      record {
        starts = starting;
        lasts = λ i. (lasting i, promise.first i);
        takes = λ i e. turn_taken j.device w bs ps size (at i) e (fine i e) (passing i).0;
        answers = λ i e. turn_read j.device w bs ps size (at i) e (fine i e) (passing i).0;
        makes = λ i e.
            let m : held_moved j.device w bs ps (at i) ≡ at (suc i) = sym (turn_going j.device w bs ps (at i) e) ∙ sym (next i) in
            (ap (λ (c : HeldConfig). c.state) m, ap (λ (c : HeldConfig). c.bytes) m);
        passes = λ i. (passing i).0;
        steps = stepping;
        stores = λ i b e h. step_stored j.device w bs ps size (at i) e (fine i e) (passing i).0 b h ∙ ap (λ (c : HeldConfig). c.scratch) (sym (next i));
        fills = λ i b e h. step_filled j.device w bs ps size (at i) e (fine i e) (passing i).0 b h ∙ ap (λ (c : HeldConfig). c.room) (sym (next i));
        ends = λ i b e z h.
            ap (λ g. g.saying) (stepping i b e h)
            ∙ if_true (is_ended (at (suc i)).loader.stage) (Over (end_by (at (suc i)).loader.stage) (end_address (at (suc i)).loader (end_by (at (suc i)).loader.stage))) _ z
            ∙ ap (λ (c : HeldConfig). Over (held_ran c).end (held_ran c).address) (leaving i e z);
        counts = counting;
        leaves = leaving;
      }
