-- An ordinary cycle of a device at rest: nothing is settled, and kind, mode and command tell the answer.
use mathlib.Core.Path.{◌≡◌, refl, sym, ap, subst, ◌∙◌}
use mathlib.Core.Bool.{Bool, true, false, not, ◌&&◌, ◌||◌}
use mathlib.Core.List.{List}
use Prim.Native.Nat.{ℕ, ◌/◌, ◌%◌, ◌≤◌, ◌<◌}
use native.Mathlib.Omega.{arith}
use lib.ListN.{length, get_or}
use lib.Dec.{eqb, ltb, leb}
use lib.Bits.{bit_and}
use borrow.Author.Tests.{eqb-true, eqb-false, not-true, not-false, le-ltb}
use Rattle.std.specs.Prelude.{if◌then◌else◌}
use Rattle.common.specs.Lists.{Bytes}
use Rattle.common.proofs.Choice.{if_true, if_false, if_ind, and_left, and_right, and_none, unlike}
use Rattle.units.specs.Units.{units, spare, lent, lent_in, units_in}
use Rattle.units.proofs.Widths.{lent_length, lent_whole, lent_even}
use Rattle.device.specs.declared.Part.{Part}
use Rattle.device.specs.declared.Device.{Device}
use Rattle.device.specs.Parts.{is_large, unknown_device, size_of}
use Rattle.model_types.specs.declared.Kind.{Kind}
use Rattle.model_types.specs.declared.Kind.TheVariants.{Read, Write, Idle}
use Rattle.model_types.specs.declared.Mode.{Mode}
use Rattle.model_types.specs.declared.Mode.TheVariants.{Array, Status, Identifier}
use Rattle.model_types.specs.declared.Phase.TheVariants.{Free}
use Rattle.model_types.specs.declared.Action.{Action}
use Rattle.model_types.specs.declared.Action.TheVariants.{ToArray, ToIdentifier, ToStatus, Clear, AwaitErase, AwaitData, Refuse}
use Rattle.model_types.specs.declared.Effect.TheVariants.{Nothing}
use Rattle.model_types.specs.declared.Reply.{Reply}
use Rattle.model_types.specs.declared.Reply.TheVariants.{Quiet, Gives, GivesArray, Refuses}
use Rattle.model_types.specs.declared.State.{State}
use Rattle.model_types.specs.declared.Cycle.{Cycle}
use Rattle.model_types.specs.declared.Decision.{Decision}
use Rattle.model_types.specs.declared.Settled.{Settled}
use Rattle.model_levels.specs.Levels.{rp_low, vpp_low, bad_pins, most_oe, bad_oe, bad_levels}
use Rattle.model_states.specs.States.{proper, improper}
use Rattle.model_operation.specs.Settling.{settled_as, settle_of}
use Rattle.model_commands.specs.Commands.{command_of, asks_program, first_write, is_refuse}
use Rattle.model_actions.specs.Performed.{performed_of}
use Rattle.model_judge.specs.Judging.{past_array, short_residue, judge_of}
use Rattle.model_rules.specs.Cycles.{decided_as, code_place, identifier_of}
use Rattle.model_rules.specs.Inner.{in_suspended, decide_array, decide_identifier, decide_read, decide_write, decide_kind, decide_judged}
use Rattle.model.specs.declared.Seen.{Seen}
use Rattle.model.specs.declared.Answer.{Answer}
use Rattle.model.specs.Arrays.{seen_of}
use Rattle.model.specs.Inner.{answer_judged, array_judged}
use Rattle.model.proofs.Borders.{passed_answer, passed_bytes, sized_whole}
use Rattle.c_cycle.specs.Values.{device_in, mode_in, mode_out, phase_in, stray_data, stray_suspend, no_state, wear_in, state_in, state_out, kind_in, oe_in, cycle_in}
use Rattle.c_cycle.specs.Answers.{state_back, answer_out, cycled, array_cycled}
use Rattle.c_cycle.specs.declared.DeviceNumbers.{DeviceNumbers}
use Rattle.c_cycle.specs.declared.StateNumbers.{StateNumbers}
use Rattle.c_cycle.specs.declared.BusNumbers.{BusNumbers}
use Rattle.c_cycle.specs.declared.AnswerNumbers.{AnswerNumbers}
use Rattle.c_cycle.proofs.Border.{mode_number, state_numbers}
use Rattle.c_ordinary.specs.Ordinary.{Ordinary, Resting, rested_as, seldom_of, commanded_by}
use Rattle.c_ordinary.specs.declared.Commanded.{Commanded}
use Rattle.c_ordinary.proofs.Sufficient.{known_number, known_part}
use Rattle.c_ordinary.proofs.Passing.{Stands}
use Rattle.c_ordinary.proofs.Passing as passing

module _ (n : StateNumbers) (r : Resting n) where
  -- the state that the numbers stand for
  abbrev pub rest : State
  rest = record { mode = mode_in n.mode; status = n.status; phase = Free; left = 0; address = 0; wear = wear_in n.wear }

  pub there : no_state n ≡ false
  unfolding no_state stray_data stray_suspend
  there = simp (le-ltb 2 n.mode r.mode, r.phase, r.unit, r.suspend)

  pub at_rest : state_in n ≡ rest
  unfolding state_in phase_in
  at_rest = simp (there, r.phase, r.left, r.address)

  pub is_proper : (d : Device) → improper d rest ≡ false
  unfolding improper proper
  is_proper d =
      let a : n.status / 128 ≡ 1 = omega (arith, r.ready) in
      simp (a, r.ready, r.low)

  -- a state goes back as its numbers
  pub goes_back : (s : State) → state_back n s ≡ state_out s
  unfolding state_back
  goes_back s = if_false (no_state n) n (state_out s) there

-- an ordinary cycle at rest
module _ (d : DeviceNumbers) (n : StateNumbers) (b : BusNumbers) (xs rs : List ℕ) (o : Ordinary d b (length xs)) (r : Resting n) where
  abbrev D : Device
  D = device_in d

  abbrev C : Cycle
  C = cycle_in b

  abbrev S : State
  S = rest n r

  abbrev word : Bool
  word = D.part.word

  enough : (k : ℕ) → short_residue D.part S C k ≡ false
  unfolding short_residue
  enough k = simp (le-ltb k 0 (omega arith), and_none (rp_low C.pins || vpp_low D.part C.pins))

  -- steps 1 to 3 do nothing
  settled : settle_of D.part S C.pins ≡ settled_as S Nothing
  unfolding settle_of
  settled = simp (o.up, and_none (vpp_low D.part C.pins))

  stands : Stands d n b S S
  stands = record { typed = at_rest n r; good = is_proper n r D; enough = enough; settled = settled }

  abbrev up_kind : (k : Kind) → C.kind ≡ k → decide_judged D S C ≡ decide_kind k D S C (settled_as S Nothing)
  up_kind = passing.up_kind d n b xs rs o S S stands

  abbrev kind_is : (k : ℕ) → b.kind ≡ k → C.kind ≡ kind_in k
  kind_is = passing.kind_is d n b xs rs o S S stands

  pub answered : (reply : Reply) (t : State) → decide_judged D S C ≡ decided_as reply t Nothing
      → answer_out n (record { seen = seen_of reply (units word xs); state = t }) ≡ cycled d n b xs rs
  answered = passing.answered d n b xs rs o S S stands

  pub unwritten : (reply : Reply) (t : State) → decide_judged D S C ≡ decided_as reply t Nothing → Bytes xs → xs ≡ array_cycled d n b xs rs
  unwritten = passing.unwritten d n b xs rs o S S stands

  pub idle : b.kind ≡ 2 → decide_judged D S C ≡ decided_as Quiet S Nothing
  unfolding kind_in
  idle e = up_kind Idle (kind_is 2 e)

  pub reads_array : b.kind ≡ 0 → n.mode ≡ 0 → decide_judged D S C ≡ decided_as (GivesArray b.address) S Nothing
  unfolding kind_in decide_array in_suspended mode_in
  reads_array e m = up_kind Read (kind_is 0 e) ∙ simp m

  pub reads_status : b.kind ≡ 0 → n.mode ≡ 1 → decide_judged D S C ≡ decided_as (Gives n.status) S Nothing
  unfolding kind_in mode_in
  reads_status e m = up_kind Read (kind_is 0 e) ∙ simp m

  pub writes : b.kind ≡ 1 → (a : Action) → first_write D.part (b.data % 256) ≡ a → is_refuse a ≡ false
      → decide_judged D S C ≡ decided_as Quiet (performed_of a D C S) Nothing
  unfolding kind_in decide_write command_of
  writes e a f q =
      up_kind Write (kind_is 1 e) ∙ ap (λ (x : Action). decide_write x D S C (settled_as S Nothing)) f ∙ if_false (is_refuse a) _ _ q

  -- the numbers of what is answered
  quiet_state : (t : State) → answer_out n (record { seen = seen_of Quiet (units word xs); state = t }) ≡ record { seen = 0; value = 0; state = state_out t }
  quiet_state t = λ i. record { seen = 0; value = 0; state = goes_back n r t i }

  mode_back : mode_out (mode_in n.mode) ≡ n.mode
  mode_back = mode_number n.mode r.mode

  -- for code: an idle cycle, and reads
  pub idle_answer : b.kind ≡ 2 → rested_as n 0 0 n.mode n.status 0 ≡ cycled d n b xs rs
  idle_answer e = (λ i. rested_as n 0 0 (sym mode_back i) n.status 0) ∙ sym (quiet_state S) ∙ answered Quiet S (idle e)

  pub shown_answer : (reply : Reply) (v : ℕ) → decide_judged D S C ≡ decided_as reply S Nothing
      → answer_out n (record { seen = seen_of reply (units word xs); state = S }) ≡ record { seen = 1; value = v; state = state_back n S }
      → rested_as n 1 v n.mode n.status 0 ≡ cycled d n b xs rs
  shown_answer reply v e f = (λ i. rested_as n 1 v (sym mode_back i) n.status 0) ∙ (λ i. record { seen = 1; value = v; state = sym (goes_back n r S) i }) ∙ sym f ∙ answered reply S e

  pub array_answer : b.kind ≡ 0 → n.mode ≡ 0 → (v : ℕ) → v ≡ get_or (units word xs) b.address 0 → rested_as n 1 v n.mode n.status 0 ≡ cycled d n b xs rs
  array_answer e m v f = shown_answer (GivesArray b.address) v (reads_array e m) (λ i. record { seen = 1; value = sym f i; state = state_back n S })

  pub status_answer : b.kind ≡ 0 → n.mode ≡ 1 → (v : ℕ) → v ≡ n.status → rested_as n 1 v n.mode n.status 0 ≡ cycled d n b xs rs
  status_answer e m v f = shown_answer (Gives n.status) v (reads_status e m) (λ i. record { seen = 1; value = sym f i; state = state_back n S })

  -- a command
  command_answer : b.kind ≡ 1 → (a : Action) → first_write D.part (b.data % 256) ≡ a → is_refuse a ≡ false → (q : AnswerNumbers)
      → q ≡ record { seen = 0; value = 0; state = state_out (performed_of a D C S) } → (q ≡ cycled d n b xs rs) × (Bytes xs → xs ≡ array_cycled d n b xs rs)
  command_answer e a f g q h =
      let w = writes e a f g in
      (h ∙ sym (quiet_state (performed_of a D C S)) ∙ answered Quiet (performed_of a D C S) w, unwritten Quiet (performed_of a D C S) w)

  -- such an answer, where the command is known
  abbrev Answers : Commanded → Type 0
  Answers t = t.known ≡ true → (rested_as n 0 0 t.mode t.status t.phase ≡ cycled d n b xs rs) × (Bytes xs → xs ≡ array_cycled d n b xs rs)

  byte_is : (v : ℕ) (a : Action) → first_write D.part v ≡ a → eqb (b.data % 256) v ≡ true → first_write D.part (b.data % 256) ≡ a
  byte_is v a f e = ap (λ (x : ℕ). first_write D.part x) (eqb-true (b.data % 256) v e) ∙ f

  cleared : rested_as n 0 0 n.mode (bit_and n.status 0xC7) 0 ≡ record { seen = 0; value = 0; state = state_out (performed_of Clear D C S) }
  cleared = λ i. rested_as n 0 0 (sym mode_back i) (bit_and n.status 0xC7) 0

  -- on a large part, and on no other, 10H is a command
  abbrev large : Bool
  large = leb 5 d.number

  large_is : is_large D.part ≡ large
  unfolding is_large
  large_is = ap (λ (x : ℕ). leb 5 x) (known_number d.number d.word (known_part d o.fair.known))

  asks_data : eqb (b.data % 256) 0x10 ≡ true → large ≡ true → first_write D.part (b.data % 256) ≡ AwaitData
  unfolding first_write asks_program
  asks_data e l =
      let q : first_write D.part 0x10 ≡ AwaitData = simp (large_is ∙ l) in
      byte_is 0x10 AwaitData q e

  -- B0H and 10H
  seldom_told : b.kind ≡ 1 → Answers (seldom_of large (b.data % 256) n.status)
  unfolding seldom_of first_write
  seldom_told q =
      if_ind Answers (eqb (b.data % 256) 0xB0) _ _ (λ f k. command_answer q ToArray (byte_is 0xB0 ToArray refl f) refl _ refl)
      (λ m. if_ind Answers (large && eqb (b.data % 256) 0x10) _ _ (λ f k. command_answer q AwaitData (asks_data (and_right large (eqb (b.data % 256) 0x10) f) (and_left large (eqb (b.data % 256) 0x10) f)) refl _ refl)
      (λ m k. absurd (unlike (sym k))))

  -- for code: what is no read
  pub command_told : (t : Commanded) → t ≡ commanded_by large b.kind (b.data % 256) n.mode n.status → Answers t
  unfolding commanded_by first_write asks_program
  command_told t e = subst Answers (sym e) chain
    where
      y : ℕ
      y = b.data % 256

      w : not (eqb b.kind 1) ≡ false → b.kind ≡ 1
      w q = eqb-true b.kind 1 (not-false (eqb b.kind 1) q)

      chain : Answers (commanded_by large b.kind y n.mode n.status)
      chain =
          if_ind Answers (eqb b.kind 2) _ _ (λ q k. (idle_answer (eqb-true b.kind 2 q), unwritten Quiet S (idle (eqb-true b.kind 2 q))))
          (λ z. if_ind Answers (not (eqb b.kind 1)) _ _ (λ q k. absurd (unlike (sym k)))
          (λ q. if_ind Answers (eqb y 0xFF) _ _ (λ f k. command_answer (w q) ToArray (byte_is 0xFF ToArray refl f) refl _ refl)
          (λ m1. if_ind Answers (eqb y 0x90) _ _ (λ f k. command_answer (w q) ToIdentifier (byte_is 0x90 ToIdentifier refl f) refl _ refl)
          (λ m2. if_ind Answers (eqb y 0x70) _ _ (λ f k. command_answer (w q) ToStatus (byte_is 0x70 ToStatus refl f) refl _ refl)
          (λ m3. if_ind Answers (eqb y 0x50) _ _ (λ f k. command_answer (w q) Clear (byte_is 0x50 Clear refl f) refl _ cleared)
          (λ m4. if_ind Answers (eqb y 0x20) _ _ (λ f k. command_answer (w q) AwaitErase (byte_is 0x20 AwaitErase refl f) refl _ refl)
          (λ m5. if_ind Answers (eqb y 0x40) _ _ (λ f k. command_answer (w q) AwaitData (byte_is 0x40 AwaitData refl f) refl _ refl)
          (λ m6. seldom_told (w q)))))))))

  -- the numbers of the state, as they came
  numbers : state_out S ≡ n
  numbers = ap state_out (sym (at_rest n r)) ∙ state_numbers n (there n r)

  -- an answer that leaves the state, and the array
  abbrev Leaves : ℕ → ℕ → Type 0
  Leaves seen v = (record { seen = seen; value = v; state = n } ≡ cycled d n b xs rs) × (Bytes xs → xs ≡ array_cycled d n b xs rs)

  leaves : (reply : Reply) (seen v : ℕ) → decide_judged D S C ≡ decided_as reply S Nothing
      → answer_out n (record { seen = seen_of reply (units word xs); state = S }) ≡ record { seen = seen; value = v; state = state_back n S } → Leaves seen v
  leaves reply seen v e f =
      ((λ i. record { seen = seen; value = v; state = sym (goes_back n r S ∙ numbers) i }) ∙ sym f ∙ answered reply S e, unwritten reply S e)

  -- for code: a write of what is no command
  pub no_command : b.kind ≡ 1 → (t : Commanded) → t ≡ commanded_by large 1 (b.data % 256) n.mode n.status → t.known ≡ false → Leaves 2 7
  unfolding commanded_by seldom_of first_write asks_program kind_in decide_write command_of
  no_command k t e u = leaves (Refuses 7) 2 7 (up_kind Write (kind_is 1 k) ∙ ap (λ (x : Action). decide_write x D S C (settled_as S Nothing)) (chain (sym (ap (λ (x : Commanded). x.known) e) ∙ u))) refl
    where
      y : ℕ
      y = b.data % 256

      Refuses-it : Commanded → Type 0
      Refuses-it x = x.known ≡ false → first_write D.part y ≡ Refuse

      chain : Refuses-it (commanded_by large 1 y n.mode n.status)
      chain =
          if_ind Refuses-it (eqb y 0xFF) _ _ (λ f h. absurd (unlike h))
          (λ m1. if_ind Refuses-it (eqb y 0x90) _ _ (λ f h. absurd (unlike h))
          (λ m2. if_ind Refuses-it (eqb y 0x70) _ _ (λ f h. absurd (unlike h))
          (λ m3. if_ind Refuses-it (eqb y 0x50) _ _ (λ f h. absurd (unlike h))
          (λ m4. if_ind Refuses-it (eqb y 0x20) _ _ (λ f h. absurd (unlike h))
          (λ m5. if_ind Refuses-it (eqb y 0x40) _ _ (λ f h. absurd (unlike h))
          (λ m6. if_ind Refuses-it (eqb y 0xB0) _ _ (λ f h. absurd (unlike h))
          (λ m7. if_ind Refuses-it (large && eqb y 0x10) _ _ (λ f h. absurd (unlike h))
          (λ m8 h. simp (m1, m2, m3, m4, m5, m6, m7, large_is, m8)))))))))

  -- an identifier read: refusal 9, or the code
  reads_code : b.kind ≡ 0 → n.mode ≡ 2 → decide_judged D S C ≡ decide_identifier D.part S C (settled_as S Nothing)
  unfolding kind_in mode_in
  reads_code e m = up_kind Read (kind_is 0 e) ∙ simp m

  -- for code
  pub no_code : b.kind ≡ 0 → n.mode ≡ 2 → ltb 1 (code_place D.part b.address) ≡ true → Leaves 2 9
  unfolding decide_identifier
  no_code e m l = leaves (Refuses 9) 2 9 (reads_code e m ∙ simp l) refl

  pub code_given : b.kind ≡ 0 → n.mode ≡ 2 → ltb 1 (code_place D.part b.address) ≡ false → (v : ℕ) → v ≡ identifier_of D.part b.address → Leaves 1 v
  unfolding decide_identifier
  code_given e m l v f =
      leaves (Gives (identifier_of D.part b.address)) 1 v (reads_code e m ∙ simp l) (λ i. record { seen = 1; value = sym f i; state = state_back n S })

-- for code: a command that is known comes with a kind that there is
pub known_kind : (large : Bool) (kind byte mode sr : ℕ) (t : Commanded) → t ≡ commanded_by large kind byte mode sr → t.known ≡ true → kind ≤ 2
unfolding commanded_by
known_kind large kind byte mode sr t e k =
    subst (λ (x : Commanded). x.known ≡ true → kind ≤ 2) (sym e)
    (if_ind (λ (x : Commanded). x.known ≡ true → kind ≤ 2) (eqb kind 2) _ _ (λ q h. omega (arith, eqb-true kind 2 q))
    (λ z. if_ind (λ (x : Commanded). x.known ≡ true → kind ≤ 2) (not (eqb kind 1)) _ _ (λ q h. absurd (unlike (sym h)))
    (λ q h. omega (arith, eqb-true kind 1 (not-false (eqb kind 1) q))))) k
