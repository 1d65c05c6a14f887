-- What the C functions give back: what came in where they refuse, and else the typed functions' answers.
use mathlib.Core.Path.{◌≡◌, refl, sym, ◌∙◌, ap}
use mathlib.Core.Bool.{Bool, true, false, not, ◌||◌}
use mathlib.Core.List.{List}
use Prim.Native.Nat.{ℕ, zero, suc, ◌*◌}
use native.Mathlib.Omega.{arith}
use lib.ListN.{length}
use lib.Dec.{eqb, ltb}
use borrow.Author.Tests.{eq-eqb, ne_eqb}
use Rattle.std.specs.Prelude.{if◌then◌else◌}
use Rattle.common.proofs.Choice.{if_false, unlike, or_left, or_both}
use Rattle.common.specs.Numbers.{Foremost, here, below}
use Rattle.common.proofs.Numbers.{foremost_given}
use Rattle.device.specs.declared.Device.{Device}
use Rattle.device.specs.Parts.{unknown_part, unknown_device, size_of, length_of, start_of}
use Rattle.device.proofs.Claims as device-claims
use Rattle.model_types.proofs.Claims as types-claims
use Rattle.model_types.specs.declared.Cycle.{Cycle}
use Rattle.model_types.specs.declared.State.{State}
use Rattle.model_states.specs.States.{improper}
use Rattle.model.specs.declared.Answer.{Answer}
use Rattle.model.specs.declared.Seen.{Seen}
use Rattle.model.specs.declared.Seen.TheVariants.{NoData, Data, Refused}
use Rattle.units.specs.Units.{units, lent, lent_in, bytes_in}
use Rattle.units.specs.Address.{byte_of}
use Rattle.units.proofs.Widths.{lent_length}
use Rattle.model.specs.Arrays.{answer_of, bytes_after}
use Rattle.model.proofs.Claims as model-claims
use Rattle.loader.specs.Stages.{is_ended, end_by}
use Rattle.loader_moves.specs.Moves.{next_of}
use Rattle.loader.specs.declared.Response.{Response}
use Rattle.loader.specs.declared.Loader.{Loader}
use Rattle.loader.specs.declared.Saying.{Saying}
use Rattle.loader.specs.declared.Saying.TheVariants.{Out, Over, Refused as SayRefused}
use Rattle.loader_steps.specs.Outs.{cycle_of}
use Rattle.loader_stores.specs.Stores.{store_of}
use Rattle.loader_steps.specs.Front.{no_block, step_number, end_address, response_at, says_refused, step_response, scratch_left}
use Rattle.loader_steps.proofs.StartAndStep.{step_on}
use Rattle.loader_steps.proofs.Lending.{step_keeps}
use Rattle.loader_steps.proofs.Claims as loader-claims
use Rattle.loader_run.specs.declared.Ran.{Ran}
use Rattle.loader_run.specs.Runs.{lent_rows, lent_number, RunLeft, run_first, lent_run, job_of}
use Rattle.loader_run.proofs.Lending.{lent_refused}
use Rattle.loader_from_file.specs.Loads.{load_rows, load_number, load_left}
use Rattle.loader_from_file.proofs.Leaving as load-leaving
use Rattle.file_codec.specs.File.{Outcome, refused, made, limit, in_room, left_in, reader_of, writer_of}
use Rattle.c_cycle.specs.Values.{part_in, device_in, pins_in, no_state, state_in, state_out, cycle_in, cycle_out, device_out}
use Rattle.c_records.specs.Records.{no_record, loader_in, loader_out, loader_back, saying_out, ran_out, sized_by, job_in}
use Rattle.c_cycle.specs.Answers.{state_back, seen_out, value_out, answer_out, cycled, array_cycled}
use Rattle.c_functions.specs.Calls.{word_mode_of, started_at, run_at_of, array_run_at, scratch_run_at, file_at_of, array_file_at, wanted_file_at, scratch_file_at, written_of, file_left, file_read, payload_left, ran_numbers}
use Rattle.c_steps.specs.Steps.{word_in, stepped_of, scratch_stepped}
use Rattle.c_functions.specs.Geometry.{part_by, size_returned, block_returned}
use Rattle.c_cycle.specs.declared.DeviceNumbers.{DeviceNumbers}
use Rattle.c_cycle.specs.declared.StateNumbers.{StateNumbers}
use Rattle.c_cycle.specs.declared.BusNumbers.{BusNumbers}
use Rattle.c_records.specs.declared.LoaderNumbers.{LoaderNumbers}
use Rattle.c_cycle.proofs.Border.{device_back, no_mode_unknown, no_mode_refused, out_state, state_back_lem, cycle_back, state_same, no_state_improper, no_kind_refused}
use Rattle.c_records.proofs.Border.{out_record, record_back, record_same, no_record_bad, no_mode_part}
use Rattle.loader_run.specs.declared.Job.{Job}
use Rattle.loader.specs.declared.Work.{Work}

-- the state or record that goes back for one that came as a state's or a record's numbers
state_returned : (s t : State) → state_back (state_out s) t ≡ state_out t
unfolding state_back
state_returned s t = if_false (no_state (state_out s)) (state_out s) (state_out t) (out_state s)

record_returned : (l m : Loader) → loader_back (loader_out l) m ≡ loader_out m
unfolding loader_back
record_returned l m = if_false (no_record (loader_out l)) (loader_out l) (loader_out m) (out_record l)

-- a refusal by its number
seen_two : (x : Seen) → seen_out x ≡ 2 → x ≡ Refused (value_out x)
seen_two NoData e = absurd (omega arith)
seen_two (Data b) e = absurd (omega arith)
seen_two (Refused n) e = refl

saying_two : (t : Saying) → (saying_out t).turn ≡ 2 → t ≡ SayRefused (saying_out t).number
saying_two (Out c) e = absurd (omega arith)
saying_two (Over n a) e = absurd (omega arith)
saying_two (SayRefused n) e = refl

-- the array is as long as the device's, in bytes: its units are, and 2 does not apply
module _ (d : DeviceNumbers) (xs : List ℕ) where
  units_whole : length xs ≡ bytes_in (word_mode_of d) (size_of (device_in d).part) → not (eqb (length (lent (word_mode_of d) xs)) (size_of (device_in d).part)) ≡ false
  units_whole e = ap not (eq-eqb (length (lent (word_mode_of d) xs)) (size_of (device_in d).part) ((model-claims.two_counts_bytes (device_in d) xs).1 e))

  lent_whole : length xs ≡ bytes_in (word_mode_of d) (size_of (device_in d).part) → not (eqb (lent_in (word_mode_of d) (length xs)) (size_of (device_in d).part)) ≡ false
  lent_whole e = ap (λ (n : ℕ). not (eqb n (size_of (device_in d).part))) (sym (lent_length (word_mode_of d) xs)) ∙ units_whole e

module _ (d : DeviceNumbers) (s : StateNumbers) (c : BusNumbers) (xs rs : List ℕ) where
  abbrev us : List ℕ
  us = lent (word_mode_of d) xs

  abbrev vs : List ℕ
  vs = units (word_mode_of d) rs

  pub cycle_refused : (cycled d s c xs rs).seen ≡ 2 → ((cycled d s c xs rs).state ≡ s) × (array_cycled d s c xs rs ≡ xs)
  unfolding cycled array_cycled
  cycle_refused e =
      let seen : Seen = (answer_of (device_in d) (state_in s) (cycle_in c) us vs).seen in
      let k = model-claims.refused_nothing (device_in d) (state_in s) (cycle_in c) us vs (value_out seen) (seen_two seen e) in
      (ap (λ (t : State). state_back s t) k.0 ∙ state_same s, model-claims.refused_bytes (device_in d) (state_in s) (cycle_in c) xs rs (value_out seen) (seen_two seen e))

  -- by a number that is known to be the first
  refused_by_lem : (m : ℕ) → (answer_of (device_in d) (state_in s) (cycle_in c) (lent (word_mode_of d) xs) (units (word_mode_of d) rs)).seen ≡ Refused m → cycled d s c xs rs ≡ record { seen = 2; value = m; state = s }
  unfolding cycled
  refused_by_lem m e =
      let k = model-claims.refused_nothing (device_in d) (state_in s) (cycle_in c) us vs m e in
      let t = ap (λ (t : State). state_back s t) k.0 ∙ state_same s in
      λ i. record { seen = seen_out (e i); value = value_out (e i); state = t i }

  -- a mode that is none is refused 1, before all else
  pub cycle_no_mode : ltb 1 d.word ≡ true → cycled d s c xs rs ≡ record { seen = 2; value = 1; state = s }
  cycle_no_mode e =
      refused_by_lem 1 ((model-claims.refused_exactly (device_in d) (state_in s) (cycle_in c) us vs 1 (λ (z : 1 ≡ 0). (omega arith))).1 (here (no_mode_refused d e)))

  pub cycle_no_state : unknown_device (device_in d) ≡ false → length xs ≡ bytes_in (device_in d).part.word (size_of (device_in d).part) → no_state s ≡ true
      → cycled d s c xs rs ≡ record { seen = 2; value = 3; state = s }
  cycle_no_state known whole e =
      refused_by_lem 3
      ((model-claims.refused_exactly (device_in d) (state_in s) (cycle_in c) us vs 3 (λ (z : 3 ≡ 0). (omega arith))).1
      (below known (below (units_whole d xs whole) (here (no_state_improper s e (device_in d))))))

  pub cycle_no_kind : unknown_device (device_in d) ≡ false → length xs ≡ bytes_in (device_in d).part.word (size_of (device_in d).part) → improper (device_in d) (state_in s) ≡ false → ltb 2 c.kind ≡ true
      → cycled d s c xs rs ≡ record { seen = 2; value = 4; state = s }
  cycle_no_kind known whole proper e =
      refused_by_lem 4
      ((model-claims.refused_exactly (device_in d) (state_in s) (cycle_in c) us vs 4 (λ (z : 4 ≡ 0). (omega arith))).1
      (below known
      (below (units_whole d xs whole) (below proper (here (no_kind_refused c e (device_in d).part))))))

-- what a record gives is no refusal
not_refused : (t : Bool) (n a : ℕ) (c : Cycle) → says_refused (if t then Over n a else Out c) ≡ false
not_refused true n a c = refl
not_refused false n a c = refl

refused_some : (l : Loader) (v : ℕ) (us ws : List ℕ) (m : ℕ) → (step_response l v us ws).saying ≡ SayRefused m → step_number l (length us) (length ws) ≡ 0 → ⊥
refused_some l v us ws m e z =
    let on : Loader = next_of l v us (store_of l v us ws) in
    let q : (response_at on us).saying ≡ SayRefused m = ap (λ (g : Response). g.saying) (sym (step_on l v us ws z).0) ∙ e in
    unlike (sym (ap says_refused q) ∙ not_refused (is_ended on.stage) (end_by on.stage) (end_address on (end_by on.stage)) (cycle_of on us))

module _ (l : LoaderNumbers) (b : ℕ) (w sc : List ℕ) where
  abbrev wu : List ℕ
  wu = lent (word_in l) w

  abbrev su : List ℕ
  su = lent (word_in l) sc

  pub step_refused : (stepped_of l b w sc).turn.turn ≡ 2 → ((stepped_of l b w sc).loader ≡ l) × (scratch_stepped l b w sc ≡ sc)
  unfolding stepped_of scratch_stepped
  step_refused e =
      let saying : Saying = (step_response (loader_in l) b wu su).saying in
      let k = loader-claims.step_refused_leaves (loader_in l) b wu su (saying_out saying).number (saying_two saying e) in (
        ap (λ (m : Loader). loader_back l m) k.0 ∙ record_same l,
        sym (step_keeps (loader_in l) w sc b (step_number (loader_in l) (length wu) (length su)) refl (refused_some (loader_in l) b wu su (saying_out saying).number (saying_two saying e))),
      )

  -- refused by a number that is known to be the first
  step_by : (m : ℕ) → (step_response (loader_in l) b wu su).saying ≡ SayRefused m → ((stepped_of l b w sc).turn ≡ saying_out (SayRefused m)) × ((stepped_of l b w sc).loader ≡ l)
  unfolding stepped_of
  step_by m saying =
      let k = loader-claims.step_refused_leaves (loader_in l) b wu su m saying in
      (ap (λ (t : Saying). saying_out t) saying, ap (λ (m : Loader). loader_back l m) k.0 ∙ record_same l)

  -- a mode that is none is refused 1, whatever else the record says
  pub step_no_mode : ltb 1 l.word ≡ true → ((stepped_of l b w sc).turn ≡ saying_out (SayRefused 1)) × ((stepped_of l b w sc).loader ≡ l)
  step_no_mode e = step_by 1 ((loader-claims.step_refused_exactly (loader_in l) b wu su 1 (λ (z : 1 ≡ 0). (omega arith))).1 (here (no_mode_part l e)))

  pub step_no_record : unknown_part (loader_in l).part ≡ false → no_record l ≡ true → ((stepped_of l b w sc).turn ≡ saying_out (SayRefused 3)) × ((stepped_of l b w sc).loader ≡ l)
  step_no_record known e =
      step_by 3 ((loader-claims.step_refused_exactly (loader_in l) b wu su 3 (λ (z : 3 ≡ 0). (omega arith))).1 (below known (here (no_record_bad l e))))

module _ (work : Work) (d : DeviceNumbers) (s : StateNumbers) (rp wp vpp k : ℕ) (xs w sc : List ℕ) where
  abbrev number_of_run : ℕ
  number_of_run = lent_number (job_in work d s rp wp vpp k) (length xs) (length w) (length sc)

  pub run_refused : (m : ℕ) → (m ≡ 0 → ⊥) → number_of_run ≡ m
      → (run_at_of work d s rp wp vpp k xs w sc ≡ record { count = 0; end = m; address = 0; state = s }) × (array_run_at work d s rp wp vpp k xs w sc ≡ xs) × (scratch_run_at work d s rp wp vpp k xs w sc ≡ sc)
  unfolding run_at_of array_run_at scratch_run_at
  run_refused m z e =
      let q = lent_refused (job_in work d s rp wp vpp k) xs w sc (λ (h : number_of_run ≡ 0). z (sym e ∙ h)) in
      let t = state_same s in (
        ap (λ (r : RunLeft). ran_out s r.ran) q ∙ (λ i. record { count = 0; end = e i; address = 0; state = t i }),
        ap (λ (r : RunLeft). r.bytes) q,
        ap (λ (r : RunLeft). r.scratch) q,
      )

  -- a mode that is none has the number 1, before all else
  first : ltb 1 d.word ≡ true → number_of_run ≡ 1
  unfolding run_first
  first e =
      let f : Foremost (lent_rows (job_in work d s rp wp vpp k) (length xs) (length w) (length sc)) 1 = here (no_mode_refused d e) in
      foremost_given f

  pub run_no_mode : ltb 1 d.word ≡ true → run_at_of work d s rp wp vpp k xs w sc ≡ record { count = 0; end = 1; address = 0; state = s }
  run_no_mode e = (run_refused 1 (λ (z : 1 ≡ 0). (omega arith)) (first e)).0

  -- numbers that stand for no state have the number 3, after 1 and 2
  third : unknown_device (device_in d) ≡ false → length xs ≡ bytes_in (device_in d).part.word (size_of (device_in d).part) → no_state s ≡ true → number_of_run ≡ 3
  unfolding run_first
  third known whole e =
      let f : Foremost (lent_rows (job_in work d s rp wp vpp k) (length xs) (length w) (length sc)) 3 =
      below known (below (lent_whole d xs whole) (here (no_state_improper s e (device_in d)))) in
      foremost_given f

  pub run_no_state : unknown_device (device_in d) ≡ false → length xs ≡ bytes_in (device_in d).part.word (size_of (device_in d).part) → no_state s ≡ true
      → run_at_of work d s rp wp vpp k xs w sc ≡ record { count = 0; end = 3; address = 0; state = s }
  run_no_state known whole e = (run_refused 3 (λ (z : 3 ≡ 0). (omega arith)) (third known whole e)).0

  pub load_refused : (f : List ℕ) (asked m : ℕ) → (m ≡ 0 → ⊥) → load_number (job_in work d s rp wp vpp k) (length xs) (length w) (length sc) f asked ≡ m
      → (file_at_of work d s rp wp vpp k f asked xs w sc ≡ record { count = 0; end = m; address = 0; state = s }) × (array_file_at work d s rp wp vpp k f asked xs w sc ≡ xs)
      × (wanted_file_at work d s rp wp vpp k f asked xs w sc ≡ w) × (scratch_file_at work d s rp wp vpp k f asked xs w sc ≡ sc)
  unfolding file_at_of array_file_at wanted_file_at scratch_file_at
  load_refused f asked m z e =
      let n = load-leaving.refused_touches_nothing (job_in work d s rp wp vpp k) xs w sc f asked m z e in
      let t = state_same s in
      (ap (λ (r : Ran). ran_out s r) n.0 ∙ (λ i. record { count = 0; end = m; address = 0; state = t i }), n.1, n.2, n.3)

  pub load_no_mode : (f : List ℕ) (asked : ℕ) → ltb 1 d.word ≡ true → file_at_of work d s rp wp vpp k f asked xs w sc ≡ record { count = 0; end = 1; address = 0; state = s }
  unfolding run_first
  load_no_mode f asked e =
      let h : Foremost (load_rows (job_in work d s rp wp vpp k) (length xs) (length w) (length sc) f asked) 1 = here (no_mode_refused d e) in
      (load_refused f asked 1 (λ (z : 1 ≡ 0). (omega arith)) (foremost_given h)).0

  pub load_no_state : (f : List ℕ) (asked : ℕ) → unknown_device (device_in d) ≡ false → length xs ≡ bytes_in (device_in d).part.word (size_of (device_in d).part) → no_state s ≡ true
      → file_at_of work d s rp wp vpp k f asked xs w sc ≡ record { count = 0; end = 3; address = 0; state = s }
  unfolding run_first
  load_no_state f asked known whole e =
      let h : Foremost (load_rows (job_in work d s rp wp vpp k) (length xs) (length w) (length sc) f asked) 3 =
      below known (below (lent_whole d xs whole) (here (no_state_improper s e (device_in d)))) in
      (load_refused f asked 3 (λ (z : 3 ≡ 0). (omega arith)) (foremost_given h)).0

-- the writer's and the reader's refusals
refused_left : (o : Outcome) (out : List ℕ) → ((sized_by o).number ≡ 0 → ⊥) → ((sized_by o).length ≡ 0) × (left_in out o ≡ out)
refused_left (refused n) out z = (refl, refl)
refused_left (made bytes) out z = absurd (z refl)

pub write_refused : (letter : ℕ) (p out : List ℕ) → ((written_of letter p out).number ≡ 0 → ⊥) → ((written_of letter p out).length ≡ 0) × (file_left letter p out ≡ out)
unfolding written_of file_left
write_refused letter p out z = refused_left (in_room (length out) (writer_of limit letter p)) out z

pub read_refused : (f : List ℕ) (asked : ℕ) (out : List ℕ) → ((file_read f asked out).number ≡ 0 → ⊥) → ((file_read f asked out).length ≡ 0) × (payload_left f asked out ≡ out)
unfolding file_read payload_left
read_refused f asked out z = refused_left (in_room (length out) (reader_of limit f asked)) out z

-- a part that is known in word mode is known in byte mode, and has the same blocks
still_known : (n : ℕ) → unknown_part (record { number = n; word = true }) ≡ false → unknown_part (part_by n) ≡ false
unfolding unknown_part
still_known n e = or_both (eqb n 0 || ltb 8 n) false (or_left (eqb n 0 || ltb 8 n) _ e) refl

still_there : (n k : ℕ) → no_block (record { number = n; word = true }) k ≡ false → no_block (part_by n) k ≡ false
unfolding no_block
still_there n k e = ap (λ (m : ℕ). eqb m 0) (device-claims.lengths_halved n k) ∙ twice_some (length_of (record { number = n; word = true }) k) e
  where
    twice_some : (m : ℕ) → eqb m 0 ≡ false → eqb (2 * m) 0 ≡ false
    twice_some zero h = absurd (unlike h)
    twice_some (suc m) h = ne_eqb (2 * suc m) 0 (λ z. omega arith)

-- what the C functions give for the numbers of typed values
pub cycle_typed : (d : Device) (s : State) (c : Cycle) (xs rs : List ℕ)
    → (cycled (device_out d) (state_out s) (cycle_out c) xs rs
    ≡ record {
      seen = seen_out (answer_of d s c (lent d.part.word xs) (units d.part.word rs)).seen;
      value = value_out (answer_of d s c (lent d.part.word xs) (units d.part.word rs)).seen;
      state = state_out (answer_of d s c (lent d.part.word xs) (units d.part.word rs)).state;
    })
    × (array_cycled (device_out d) (state_out s) (cycle_out c) xs rs ≡ bytes_after d s c xs rs)
unfolding cycled array_cycled
cycle_typed d s c xs rs =
    let e = device_back d in
    let t = state_back_lem s in
    let b = cycle_back c in
    let a : Answer = answer_of d s c (lent d.part.word xs) (units d.part.word rs) in
    let back = state_returned s a.state in (
      (λ i. answer_out (state_out s) (answer_of (e i) (t i) (b i) (lent (e i).part.word xs) (units (e i).part.word rs)))
          ∙ (λ i. record { seen = seen_out a.seen; value = value_out a.seen; state = back i }),
      λ i. bytes_after (e i) (t i) (b i) xs rs,
    )

pub step_typed : (l : Loader) (b : ℕ) (w sc : List ℕ)
    → (stepped_of (loader_out l) b w sc
    ≡ record { turn = saying_out (step_response l b (lent l.part.word w) (lent l.part.word sc)).saying; loader = loader_out (step_response l b (lent l.part.word w) (lent l.part.word sc)).loader })
    × (scratch_stepped (loader_out l) b w sc ≡ scratch_left l b w sc)
unfolding stepped_of scratch_stepped
step_typed l b w sc =
    let m = record_back l in
    let g : Response = step_response l b (lent l.part.word w) (lent l.part.word sc) in
    let back = record_returned l g.loader in (
      (λ i. record {
        turn = saying_out (step_response (m i) b (lent (m i).part.word w) (lent (m i).part.word sc)).saying;
        loader = loader_back (loader_out l) (step_response (m i) b (lent (m i).part.word w) (lent (m i).part.word sc)).loader;
      }) ∙ (λ i. record { turn = saying_out g.saying; loader = back i }),
      λ i. scratch_left (m i) b w sc,
    )

pub run_typed : (j : Job) (xs w sc : List ℕ)
    → (run_at_of j.work (device_out j.device) (state_out j.state) j.pins.rp j.pins.wp j.pins.vpp j.block xs w sc ≡ ran_numbers (lent_run j xs w sc).ran)
    × (array_run_at j.work (device_out j.device) (state_out j.state) j.pins.rp j.pins.wp j.pins.vpp j.block xs w sc ≡ (lent_run j xs w sc).bytes)
    × (scratch_run_at j.work (device_out j.device) (state_out j.state) j.pins.rp j.pins.wp j.pins.vpp j.block xs w sc ≡ (lent_run j xs w sc).scratch)
unfolding run_at_of array_run_at scratch_run_at
run_typed j xs w sc =
    let e = device_back j.device in
    let t = state_back_lem j.state in
    let r : Ran = (lent_run j xs w sc).ran in
    let back = state_returned j.state r.state in (
      (λ i. ran_out (state_out j.state) (lent_run (job_of j.work (e i) (t i) j.pins j.block) xs w sc).ran) ∙ (λ i. record { count = r.count; end = r.end; address = r.address; state = back i }),
      λ i. (lent_run (job_of j.work (e i) (t i) j.pins j.block) xs w sc).bytes,
      λ i. (lent_run (job_of j.work (e i) (t i) j.pins j.block) xs w sc).scratch,
    )

pub load_typed : (j : Job) (f : List ℕ) (asked : ℕ) (xs w sc : List ℕ)
    → (file_at_of j.work (device_out j.device) (state_out j.state) j.pins.rp j.pins.wp j.pins.vpp j.block f asked xs w sc ≡ ran_numbers (load_left j xs w sc f asked).ran)
    × (array_file_at j.work (device_out j.device) (state_out j.state) j.pins.rp j.pins.wp j.pins.vpp j.block f asked xs w sc ≡ (load_left j xs w sc f asked).bytes)
    × (wanted_file_at j.work (device_out j.device) (state_out j.state) j.pins.rp j.pins.wp j.pins.vpp j.block f asked xs w sc ≡ (load_left j xs w sc f asked).wanted)
    × (scratch_file_at j.work (device_out j.device) (state_out j.state) j.pins.rp j.pins.wp j.pins.vpp j.block f asked xs w sc ≡ (load_left j xs w sc f asked).scratch)
unfolding file_at_of array_file_at wanted_file_at scratch_file_at
load_typed j f asked xs w sc =
    let e = device_back j.device in
    let t = state_back_lem j.state in
    let r : Ran = (load_left j xs w sc f asked).ran in
    let back = state_returned j.state r.state in (
      (λ i. ran_out (state_out j.state) (load_left (job_of j.work (e i) (t i) j.pins j.block) xs w sc f asked).ran) ∙ (λ i. record { count = r.count; end = r.end; address = r.address; state = back i }),
      λ i. (load_left (job_of j.work (e i) (t i) j.pins j.block) xs w sc f asked).bytes,
      λ i. (load_left (job_of j.work (e i) (t i) j.pins j.block) xs w sc f asked).wanted,
      λ i. (load_left (job_of j.work (e i) (t i) j.pins j.block) xs w sc f asked).scratch,
    )

-- a start at a mode that is none: refused 1, with a record that has ended so
pub start_no_mode : (work : Work) (part word rp wp vpp k : ℕ) (w sc : List ℕ) → ltb 1 word ≡ true → (started_at work part word rp wp vpp k w sc).turn ≡ saying_out (SayRefused 1)
unfolding started_at
start_no_mode work part word rp wp vpp k w sc e =
    ap (λ (t : Saying). saying_out t)
    ((loader-claims.start_refused_exactly work (part_in part word) (pins_in rp wp vpp) k (lent (part_in part word).word w) (lent (part_in part word).word sc) 1 (λ (z : 1 ≡ 0). (omega arith))).1
    (here (no_mode_unknown part word e)))

-- bytes of a part by its number alone: the same in either mode, and what a cycle, a run and a load ask of array and wanted
pub size_either : (n : ℕ) (w : Bool) → unknown_part (record { number = n; word = w }) ≡ false → size_returned n ≡ bytes_in w (size_of (record { number = n; word = w }))
unfolding size_returned
size_either n false e = if_false (unknown_part (part_by n)) 0 (size_of (part_by n)) e
size_either n true e = if_false (unknown_part (part_by n)) 0 (size_of (part_by n)) (still_known n e) ∙ device-claims.sizes_halved n

pub block_either : (n k : ℕ) (w : Bool) → unknown_part (record { number = n; word = w }) ≡ false → no_block (record { number = n; word = w }) k ≡ false
    → block_returned n k ≡ record { first = byte_of w (start_of (record { number = n; word = w }) k); length = bytes_in w (length_of (record { number = n; word = w }) k) }
unfolding block_returned
block_either n k false e h =
    if_false (unknown_part (part_by n)) _ _ e ∙ if_false (no_block (part_by n) k) _ _ h
block_either n k true e h =
    let a = types-claims.starts_at_words n k in
    let b = device-claims.lengths_halved n k in
    if_false (unknown_part (part_by n)) _ _ (still_known n e) ∙ if_false (no_block (part_by n) k) _ _ (still_there n k h) ∙ (λ i. record { first = a i; length = b i })
