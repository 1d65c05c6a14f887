-- Stepping by hand is the run: each step gives what the run's next turn gives.
use mathlib.Core.Path.{◌≡◌, refl, sym, ap, ◌∙◌, subst}
use mathlib.Core.Bool.{Bool, true, false, not, ◌||◌}
use mathlib.Core.List.{List}
use Prim.Native.Nat.{ℕ, zero, suc, ◌≤◌, ◌<◌}
use native.Mathlib.Omega.{arith}
use lib.ListN.{length}
use lib.Dec.{eqb, ltb}
use borrow.Author.Tests.{ltb-true, ltb-false, not-true}
use Rattle.common.proofs.Choice.{if_ind, if_true, if_false, or_left, or_right, and_left, and_right, unlike}
use Rattle.common.specs.Numbers.{NoRow, end, past}
use Rattle.common.proofs.Numbers.{no_row_given, no_head, no_tail}
use Rattle.device.specs.declared.Device.{Device}
use Rattle.device.specs.Parts as parts
use Rattle.device.specs.Parts.{unknown_part, unknown_device}
use Rattle.model_types.specs.declared.Kind.{Kind}
use Rattle.model_types.specs.declared.Kind.TheVariants.{Read, Write, Idle}
use Rattle.model_types.specs.declared.Mode.{Mode}
use Rattle.model_types.specs.declared.Mode.TheVariants.{Array, Status, Identifier}
use Rattle.model_types.specs.declared.Cycle.{Cycle}
use Rattle.model_types.specs.declared.Reply.{Reply}
use Rattle.model_types.specs.declared.Reply.TheVariants.{Quiet, Gives, GivesArray, Refuses}
use Rattle.model_types.specs.declared.Decision.{Decision}
use Rattle.model_types.specs.declared.Settled.{Settled}
use Rattle.model_types.specs.declared.State.{State}
use Rattle.model_levels.specs.Levels.{rp_low, bad_pins}
use Rattle.model_rules.specs.Cycles.{decide_of, respond_of, reply_to}
use Rattle.model_types.specs.Kinds.{is_read}
use Rattle.model_operation.specs.Settling.{settle_of}
use Rattle.model.specs.declared.Seen.{Seen}
use Rattle.model.specs.declared.Seen.TheVariants.{Data}
use Rattle.model.specs.Arrays.{seen_of, answer_of, is_refusal}
use Rattle.model.proofs.Outcome.{outcome, accept_cases}
use Rattle.loader.specs.declared.Stage.{Stage}
use Rattle.loader.specs.declared.Stage.TheVariants.{Clearing, Opening, Reading, EraseAsking, EraseConfirming, EraseWaiting, ProgramAsking, ProgramSending, ProgramWaiting, Closing, Verifying, Ended}
use Rattle.loader.specs.declared.Loader.{Loader}
use Rattle.loader.specs.declared.Saying.TheVariants.{Out, Over}
use Rattle.loader.specs.declared.Response.{Response}
use Rattle.loader_moves.specs.Moves.{next_in, next_of}
use Rattle.loader_steps.specs.Outs.{cycle_of}
use Rattle.loader_stores.specs.Stores.{store_in, store_of}
use Rattle.loader_steps.specs.Front.{barred_pins, start_number, step_number, end_address, saying_in, response_at, step_response, scratch_after, record_of}
use Rattle.loader_steps.proofs.StartAndStep.{taken, start_gives, start_again, step_on, step_again}
use Rattle.loader_run.specs.declared.Ran.{Ran}
use Rattle.loader_run.specs.Turns as turns
use Rattle.loader_run.specs.Turns.{Config, number_in, answer_to, moved, turn_of, after}
use Rattle.loader_run.specs.Inner.{bound}
use Rattle.loader.specs.Stages.{stage_is, is_ended, end_by}
use Rattle.loader_run.specs.Runs.{run_rows, ran_by, begin, driven, run_left, doing}
use Rattle.loader_run.proofs.Turning.{took, turn_ended, turn_going, ended_stays}
use Rattle.loader_run.specs.Promises.{Promise}
use Rattle.loader_run.proofs.Ending.{always_ends, run_first_lem, run_accepted}
use Rattle.loader_run_claims.specs.Wear.{held_in, formula_by}
use Rattle.loader_run_claims.specs.Made.{is_smooth, smooth_turn, smooth_in}
use Rattle.loader_run_claims.specs.Ends.{end_number, well_ran, fault_ran, ran_as, Whole}
use Rattle.loader_run_claims.specs.Stepping.{answer_at, Handed, run_at, over_at, Stepped}
use Rattle.loader.specs.declared.Work.TheVariants.{Load}
use Rattle.loader_run.specs.declared.Job.{Job}

-- the last of some turns
after_last : (j : ℕ) (d : Device) (w : List ℕ) (c : Config) → after (suc j) d w c ≡ turn_of d w (after j d w c)
after_last zero d w c = refl
after_last (suc j) d w c = after_last j d w (turn_of d w c)

-- what has ended has ended later
ended_later : (m j : ℕ) (d : Device) (w : List ℕ) (c : Config) → m ≤ j → is_ended (after m d w c).loader.stage ≡ true → is_ended (after j d w c).loader.stage ≡ true
ended_later zero j d w c h e = ap (λ (x : Config). is_ended x.loader.stage) (ended_stays j d w c e) ∙ e
ended_later (suc m) zero d w c h e = absurd (omega arith)
ended_later (suc m) (suc j) d w c h e = ended_later m j d w (turn_of d w c) (omega arith) e

-- where all turns up to an end are smooth, each turn before it is
smooth_at : (m j : ℕ) (d : Device) (w : List ℕ) (c : Config) → is_ended (after m d w c).loader.stage ≡ true → smooth_in m d w c ≡ true
    → is_ended (after j d w c).loader.stage ≡ false → smooth_turn d w (after j d w c) ≡ true
smooth_at zero j d w c e h g = absurd (unlike (sym (ended_later zero j d w c (omega arith) e) ∙ g))
smooth_at (suc m) zero d w c e h g = and_left (smooth_turn d w c) (smooth_in m d w (turn_of d w c)) h
smooth_at (suc m) (suc j) d w c e h g = smooth_at m j d w (turn_of d w c) e (and_right (smooth_turn d w c) (smooth_in m d w (turn_of d w c)) h) g

-- a smooth turn: the model takes the cycle that is out
smooth_taken : (d : Device) (w : List ℕ) (c : Config) → is_ended c.loader.stage ≡ false → smooth_turn d w c ≡ true
    → is_refusal (decide_of d c.state (cycle_of c.loader w) (length c.bytes) 0).reply ≡ false
unfolding smooth_turn
smooth_taken d w c g h =
    let x : Decision = decide_of d c.state (cycle_of c.loader w) (length c.bytes) 0 in
    not-true (is_refusal x.reply) (and_left (not (is_refusal x.reply)) _ (sym (if_false (is_ended c.loader.stage) true (is_smooth x) g) ∙ h))

-- what a host sees of a reply is a refusal where the reply is one
pub seen_taken : (r : Reply) (xs : List ℕ) → is_refusal r ≡ false → turns.is_refused (seen_of r xs) ≡ false
seen_taken Quiet xs e = refl
seen_taken (Gives b) xs e = refl
seen_taken (GivesArray a) xs e = refl
seen_taken (Refuses n) xs e = e

-- a read that is taken with RP# up is answered by a byte
pub read_answered : (d : Device) (s : State) (c : Cycle) (n r : ℕ) (xs : List ℕ) → c.kind ≡ Read → rp_low c.pins ≡ false → is_refusal (decide_of d s c n r).reply ≡ false
    → seen_of (decide_of d s c n r).reply xs ≡ Data (number_in (seen_of (decide_of d s c n r).reply xs))
read_answered d s c n r xs kind up =
    outcome d s c n r (λ (x : Decision). is_refusal x.reply ≡ false → seen_of x.reply xs ≡ Data (number_in (seen_of x.reply xs))) (λ m z e q. absurd (unlike q))
    (λ z f. accept_cases d c (settle_of d.part s c.pins) (λ (x : Decision). is_refusal x.reply ≡ false → seen_of x.reply xs ≡ Data (number_in (seen_of x.reply xs)))
    (λ e q. absurd (unlike (sym e ∙ up))) (λ e k h q. kinds (settle_of d.part s c.pins) k (sym h ∙ kind)))
  where
    reads : (m : Mode) (a sr : ℕ) → seen_of (reply_to m d.part a sr) xs ≡ Data (number_in (seen_of (reply_to m d.part a sr) xs))
    reads Array a sr = refl
    reads Status a sr = refl
    reads Identifier a sr = refl

    kinds : (t : Settled) (k : Kind) → k ≡ Read → seen_of (respond_of k d c t).reply xs ≡ Data (number_in (seen_of (respond_of k d c t).reply xs))
    kinds t Read q = reads t.state.mode c.address t.state.status
    kinds t Write q = absurd (unlike (sym (ap is_read q)))
    kinds t Idle q = absurd (unlike (sym (ap is_read q)))

-- two bytes move a record alike: the same byte after a read, any two after a write
pub record Alike (stage : Stage) (l : Loader) (w sc : List ℕ) (b x : ℕ) : Type 0 where
  pub stored : store_in stage l.part l.place b w sc ≡ store_in stage l.part l.place x w sc
  pub next : next_in stage l b w (store_in stage l.part l.place b w sc) ≡ next_in stage l x w (store_in stage l.part l.place x w sc)

same_byte : (stage : Stage) (l : Loader) (w sc : List ℕ) (b x : ℕ) → b ≡ x → Alike stage l w sc b x
same_byte stage l w sc b x q =
    record { stored = ap (λ (y : ℕ). store_in stage l.part l.place y w sc) q; next = ap (λ (y : ℕ). next_in stage l y w (store_in stage l.part l.place y w sc)) q }

pub alike : (stage : Stage) (l : Loader) (w sc : List ℕ) (b x : ℕ) → ((stage_is stage).kind ≡ Read → b ≡ x) → Alike stage l w sc b x
alike Clearing l w sc b x h = record { stored = refl; next = refl }
alike Opening l w sc b x h = record { stored = refl; next = refl }
alike Reading l w sc b x h = same_byte Reading l w sc b x (h refl)
alike EraseAsking l w sc b x h = record { stored = refl; next = refl }
alike EraseConfirming l w sc b x h = record { stored = refl; next = refl }
alike EraseWaiting l w sc b x h = same_byte EraseWaiting l w sc b x (h refl)
alike ProgramAsking l w sc b x h = record { stored = refl; next = refl }
alike ProgramSending l w sc b x h = record { stored = refl; next = refl }
alike ProgramWaiting l w sc b x h = same_byte ProgramWaiting l w sc b x (h refl)
alike Closing l w sc b x h = record { stored = refl; next = refl }
alike Verifying l w sc b x h = same_byte Verifying l w sc b x (h refl)
alike (Ended n) l w sc b x h = record { stored = refl; next = refl }

-- one turn that the model takes, from a record whose tests pass
module _ (d : Device) (w : List ℕ) (c : Config) (going : is_ended c.loader.stage ≡ false)
    (fine : is_refusal (decide_of d c.state (cycle_of c.loader w) (length c.bytes) 0).reply ≡ false)
    (passes : step_number c.loader (length w) (length c.scratch) ≡ 0) where
  abbrev seen : Seen
  seen = (answer_at d w c).seen

  -- the model's answer is no refusal
  turn_taken : turns.is_refused seen ≡ false
  unfolding answer_to answer_of
  turn_taken = seen_taken (decide_of d c.state (cycle_of c.loader w) (length c.bytes) 0).reply _ fine

  -- and a byte where the cycle is a read
  levels_up : (l : Loader) → barred_pins l.part l.pins ≡ false → rp_low l.pins ≡ false
  unfolding barred_pins
  levels_up l e = or_right (bad_pins l.part l.pins) (rp_low l.pins) e

  turn_read : (cycle_of c.loader w).kind ≡ Read → seen ≡ Data (number_in seen)
  unfolding answer_to answer_of
  turn_read kind =
      read_answered d c.state (cycle_of c.loader w) (length c.bytes) 0 _ kind
      (levels_up c.loader (taken c.loader (length w) (length c.scratch) passes).levels) fine

  -- the record and scratch that the turn leaves
  turn_loader : (turn_of d w c).loader ≡ next_of c.loader (number_in seen) w (store_of c.loader (number_in seen) w c.scratch)
  turn_loader = ap (λ (x : Config). x.loader) (turn_going d w c going) ∙ (took seen c.loader w c.scratch turn_taken).0

  turn_scratch : (turn_of d w c).scratch ≡ store_of c.loader (number_in seen) w c.scratch
  turn_scratch = ap (λ (x : Config). x.scratch) (turn_going d w c going) ∙ (took seen c.loader w c.scratch turn_taken).1

  -- its tests pass again
  turn_passes : step_number (turn_of d w c).loader (length w) (length (turn_of d w c).scratch) ≡ 0
  turn_passes =
      let s = step_on c.loader (number_in seen) w c.scratch passes in
      let l : (step_response c.loader (number_in seen) w c.scratch).loader ≡ (turn_of d w c).loader = ap (λ (g : Response). g.loader) s.0 ∙ sym turn_loader in
      let r : scratch_after c.loader (number_in seen) w c.scratch ≡ (turn_of d w c).scratch = s.1 ∙ sym turn_scratch in
      subst (λ (x : Loader). step_number x (length w) (length (turn_of d w c).scratch) ≡ 0) l
      (subst (λ (x : List ℕ). step_number (step_response c.loader (number_in seen) w c.scratch).loader (length w) (length x) ≡ 0) r
      (step_again c.loader (number_in seen) w c.scratch passes))

  -- the step with the byte handed on gives and leaves the same
  module _ (b : ℕ) (handed : Handed d w c b) where
    same : Alike c.loader.stage c.loader w c.scratch b (number_in seen)
    same = alike c.loader.stage c.loader w c.scratch b (number_in seen) (λ kind. handed (number_in seen) kind (turn_read kind))

    pub step_response_lem : step_response c.loader b w c.scratch ≡ response_at (turn_of d w c).loader w
    step_response_lem = (step_on c.loader b w c.scratch passes).0 ∙ ap (λ (l : Loader). response_at l w) (same.next ∙ sym turn_loader)

    pub step_stored : scratch_after c.loader b w c.scratch ≡ (turn_of d w c).scratch
    step_stored = (step_on c.loader b w c.scratch passes).1 ∙ same.stored ∙ sym turn_scratch

-- what passes the tests of a run passes those of a start
pub known_part : (d : Device) → unknown_device d ≡ false → unknown_part d.part ≡ false
unfolding unknown_device
known_part d e =
    let a = unknown_part d.part in
    let b = a || eqb d.program 0 in
    let c = b || eqb d.erase 0 in
    or_left a (eqb d.program 0) (or_left b (eqb d.erase 0) (or_left c (eqb d.suspend 0) (or_left (c || eqb d.suspend 0) (ltb 100 d.suspend) e)))

pub start_passes : (j : Job) (array w sc : ℕ) → NoRow (run_rows j array w sc) → start_number j.device.part j.pins j.block w sc ≡ 0
unfolding start_number
start_passes j array w sc r =
    let r4 = no_tail (no_tail (no_tail r)) in
    let r5 = no_tail r4 in
    let r6 = no_tail r5 in
    no_row_given (past (known_part j.device (no_head r)) (past (no_head r4) (past (no_head r5) (past (no_head r6) end))))

-- a record that has ended tells its number and address
pub over_said : (stage : Stage) (l : Loader) (w : List ℕ) → is_ended stage ≡ true → saying_in stage l w ≡ Over (end_by stage) (end_address l (end_by stage))
over_said stage l w e = if_true (is_ended stage) (Over (end_by stage) (end_address l (end_by stage))) (Out (cycle_of l w)) e

-- a run whose cycles the model takes, stepped by hand
module _ (j : Job) (xs w sc : List ℕ) (free : NoRow (run_rows j (length xs) (length w) (length sc)))
    (smooth : smooth_in (bound (length w)) j.device w (begin j.device j.state (record_of j.work j.device.part j.pins j.block) xs sc) ≡ true) where
  abbrev at : ℕ → Config
  at o = run_at j xs w sc o

  abbrev over : ℕ → Bool
  over o = over_at j xs w sc o

  abbrev ran : Ran
  ran = (run_left j xs w sc).ran

  last : (o : ℕ) → at (suc o) ≡ turn_of j.device w (at o)
  last o = after_last o j.device w (at 0)

  promise : Promise j xs w sc ran (run_left j xs w sc).bytes (run_left j xs w sc).scratch
  promise = run_first_lem j xs w sc free

  bounded : is_ended (at (bound (length w))).loader.stage ≡ true
  unfolding driven
  bounded = always_ends j.device w (at 0)

  fine : (o : ℕ) → over o ≡ false → is_refusal (decide_of j.device (at o).state (cycle_of (at o).loader w) (length (at o).bytes) 0).reply ≡ false
  fine o e = smooth_taken j.device w (at o) e (smooth_at (bound (length w)) o j.device w (at 0) bounded smooth e)

  -- the tests of every step pass
  passes : (o : ℕ) → step_number (at o).loader (length w) (length (at o).scratch) ≡ 0
  passes zero =
      let q = start_passes j (length xs) (length w) (length sc) free in
      subst (λ (g : Response). step_number g.loader (length w) (length sc) ≡ 0) (start_gives j.work j.device.part j.pins j.block w sc q) (start_again j.work j.device.part j.pins j.block w sc q)
  passes (suc o) = subst (λ (c : Config). step_number c.loader (length w) (length c.scratch) ≡ 0) (sym (last o)) (go (over o) refl (passes o))
    where
      go : (t : Bool) → over o ≡ t → step_number (at o).loader (length w) (length (at o).scratch) ≡ 0
          → step_number (turn_of j.device w (at o)).loader (length w) (length (turn_of j.device w (at o)).scratch) ≡ 0
      go true e h = subst (λ (c : Config). step_number c.loader (length w) (length c.scratch) ≡ 0) (sym (turn_ended j.device w (at o) e)) h
      go false e h = turn_passes j.device w (at o) e (fine o e) h

  -- the run is before its end for as many cycles as it counts
  lasting : (o : ℕ) → over o ≡ false → o < ran.count
  lasting o e = go (ltb o ran.count) refl
    where
      go : (t : Bool) → ltb o ran.count ≡ t → o < ran.count
      go true q = ltb-true o ran.count q
      go false q = absurd (unlike (sym (ended_later ran.count o j.device w (at 0) (ltb-false o ran.count q) promise.ended) ∙ e))

  counting : (o : ℕ) → over o ≡ false → over (suc o) ≡ true → ran.count ≡ suc o
  counting o e z = go (ltb (suc o) ran.count) refl (lasting o e)
    where
      go : (t : Bool) → ltb (suc o) ran.count ≡ t → o < ran.count → ran.count ≡ suc o
      go true q h = absurd (unlike (sym z ∙ promise.first (suc o) (ltb-true (suc o) ran.count q)))
      go false q h = let x = ltb-false (suc o) ran.count q in omega arith

  -- where it has ended it is what the run returns
  ended_as : (o : ℕ) → over o ≡ false → over (suc o) ≡ true → ran_by (at (suc o)) ≡ ran
  ended_as o e z = sym (promise.returned ∙ ap (λ (i : ℕ). ran_by (at i)) (counting o e z))

  stepping : (o b : ℕ) → over o ≡ false → Handed j.device w (at o) b → step_response (at o).loader b w (at o).scratch ≡ response_at (at (suc o)).loader w
  stepping o b e h = step_response_lem j.device w (at o) e (fine o e) (passes o) b h ∙ ap (λ (c : Config). response_at c.loader w) (sym (last o))

  ending : (o b : ℕ) → over o ≡ false → over (suc o) ≡ true → Handed j.device w (at o) b → (step_response (at o).loader b w (at o).scratch).saying ≡ Over ran.end ran.address
  ending o b e z h =
      ap (λ (g : Response). g.saying) (stepping o b e h)
      ∙ over_said (at (suc o)).loader.stage (at (suc o)).loader w z
      ∙ ap (λ (r : Ran). Over r.end r.address) (ended_as o e z)

  pub by_hand : Stepped j xs w sc
  by_hand =
      record {
        starts = start_gives j.work j.device.part j.pins j.block w sc (start_passes j (length xs) (length w) (length sc) free);
        lasts = λ o. (lasting o, promise.first o);
        takes = λ o e. turn_taken j.device w (at o) e (fine o e) (passes o);
        answers = λ o e. turn_read j.device w (at o) e (fine o e) (passes o);
        makes = λ o e.
            let m : moved j.device w (at o) ≡ at (suc o) = sym (turn_going j.device w (at o) e) ∙ sym (last o) in
            (ap (λ (c : Config). c.state) m, ap (λ (c : Config). c.bytes) m);
        steps = stepping;
        stores = λ o b e h. step_stored j.device w (at o) e (fine o e) (passes o) b h ∙ ap (λ (c : Config). c.scratch) (sym (last o));
        ends = ending;
        counts = counting;
        leaves = λ o e z.
            let n = counting o e z in
            (ap (λ (r : Ran). r.state) (ended_as o e z), sym (promise.array ∙ ap (λ (i : ℕ). (at i).bytes) n), sym (promise.room ∙ ap (λ (i : ℕ). (at i).scratch) n));
      }

-- a run that returns what specs/Ends says counts a cycle, so nothing refused it
some_counted : (verify : Bool) (j : Job) (w ys : List ℕ) → 0 < (ran_as verify j w ys).count
unfolding ran_as
some_counted verify j w ys =
    if_ind (λ (r : Ran). 0 < r.count) (eqb (end_number j.device j.pins j.block w ys) 0) (well_ran verify j.device j.state j.block w ys) (fault_ran j.device j.state j.pins w ys (end_number j.device j.pins j.block w ys)) (λ e. some verify) (λ e. omega arith)
  where
    some : (v : Bool) → 0 < formula_by v j.device w ys
    some true = omega arith
    some false = omega arith

pub stepped : (verify : Bool) (j : Job) (xs w sc : List ℕ) → Whole verify j xs w sc → Stepped (doing (Load verify) j) xs w sc
stepped verify j xs w sc h =
    by_hand (doing (Load verify) j) xs w sc
    ((run_accepted (doing (Load verify) j) xs w sc).0 (subst (λ (r : Ran). 0 < r.count) (sym h.ran) (some_counted verify j w (held_in (parts.start_of j.device.part j.block) (length w) xs)))) h.smooth
