-- What each record that is known here leaves, in the two numbers of a state.
use mathlib.Core.Path.{◌≡◌, refl, sym, ap, ◌∙◌}
use mathlib.Core.Bool.{true, false, not, ◌&&◌}
use mathlib.Core.List.{List, []}
use Prim.Native.Nat.{ℕ, ◌+◌, ◌*◌, ◌-◌, ◌/◌, ◌%◌, ◌≤◌, ◌<◌}
use native.Mathlib.Omega.{arith}
use lib.ListN.{length, get_or, set}
use lib.Dec.{eqb, leb}
use lib.Bits.{bit_and, bit_or, and_mask}
use borrow.Author.Tests.{eqb-true, ne_eqb, le-ltb}
use Rattle.common.specs.Lists.{Bytes}
use Rattle.common.proofs.Choice.{and_none}
use Rattle.model.proofs.Status.{all_below_lem}
use Rattle.units.specs.Units.{units, spare, carried}
use Rattle.device.specs.Parts.{size_of, block_of}
use Rattle.model_types.specs.declared.State.{State}
use Rattle.model_types.specs.declared.Phase.{Phase}
use Rattle.model_types.specs.declared.Phase.TheVariants.{Free, DataAwaited, Programming}
use Rattle.model_types.specs.Phases.{is_pending}
use Rattle.model_types.specs.Kinds.{is_write}
use Rattle.model_actions.specs.Performed.{unsupplied}
use Rattle.recording.specs.Recordings.{starts, outside, wrong_count, count_of, time_of, recorded_of, bytes_recorded}
use Rattle.recording.specs.Inner.{asks, unbarred}
use Rattle.recording.proofs.Starting.{starts_asked}
use Rattle.c_cycle.specs.declared.DeviceNumbers.{DeviceNumbers}
use Rattle.c_cycle.specs.declared.StateNumbers.{StateNumbers}
use Rattle.c_cycle.specs.declared.WearNumbers.{WearNumbers}
use Rattle.c_cycle.specs.declared.AnswerNumbers.{AnswerNumbers}
use Rattle.c_cycle.specs.Values.{device_in, phase_in, stray_data, stray_suspend, no_state, state_in, kind_in, cycle_in}
use Rattle.c_cycle.specs.Answers.{cycled, array_cycled}
use Rattle.c_ordinary.specs.Ordinary.{units_for, key_of, Ordinary, Resting, rested_as, commanded_by}
use Rattle.c_ordinary.specs.declared.Commanded.{Commanded}
use Rattle.c_ordinary.proofs.Rest.{there, at_rest, array_answer, status_answer, reads_array, reads_status, unwritten, command_told, known_kind}
use Rattle.c_answers.specs.Answers.{seen_in, shown_in, polled_as, written_as, ended_as}
use Rattle.c_operations.specs.Operations.{Running, Awaiting, Starting, Supplied}
use Rattle.c_operations.proofs.Running.{programming, polled}
use Rattle.c_operations.proofs.Ending.{programmed, counted, ends}
use Rattle.c_operations.proofs.Starting.{started, block_open}
use Rattle.c_operations.proofs.Supplying.{supplies_up}
use Rattle.c_recording.specs.declared.RecordNumbers.{RecordNumbers}
use Rattle.c_recording.specs.Records.{bus_seen, record_in}
use Rattle.c_recording.specs.Known.{rest_of, state_of, good, Usual, Calm, Awaits, Polls}
use Rattle.c_recording.proofs.Knowing.{timed_as, timed_as_lem, kind_of, ordinary, time_longest, counts_right, uncut_free, uncut, quiet, shown}

-- the low eight and the low sixteen bits of a number
pub low_byte : (x s p : ℕ) → x ≡ s + 256 * p → s < 256 → x % 256 ≡ s
low_byte x s p e h = omega (arith, e, h)

low_word : (x s p : ℕ) → x ≡ s + 65536 * p → s < 65536 → x % 65536 ≡ s
low_word x s p e h = omega (arith, e, h)

-- a state's numbers made two and taken apart again
pub parts_back : (n : StateNumbers) → n.mode < 256 → n.status < 256 → n.phase < 256 → n.left < 65536 → n.data < 65536
    → state_of (key_of n) (rest_of n) n.wear ≡ n
parts_back n m s p l u =
    let q : key_of n / 256 ≡ n.status + 256 * (n.phase + 256 * n.suspend) = omega (arith, m) in
    let v : key_of n / 65536 ≡ n.phase + 256 * n.suspend = omega (arith, m, s) in
    let z : rest_of n / 65536 ≡ n.data + 65536 * n.address = omega (arith, l) in
    let a : key_of n % 256 ≡ n.mode = omega (arith, m) in
    let b : key_of n / 256 % 256 ≡ n.status = low_byte (key_of n / 256) n.status (n.phase + 256 * n.suspend) q s in
    let c : key_of n / 65536 % 256 ≡ n.phase = low_byte (key_of n / 65536) n.phase n.suspend v p in
    let d : key_of n / 16777216 ≡ n.suspend = omega (arith, v, p) in
    let e : rest_of n % 65536 ≡ n.left = omega (arith, l) in
    let f : rest_of n / 65536 % 65536 ≡ n.data = low_word (rest_of n / 65536) n.data n.address z u in
    let g : rest_of n / 4294967296 ≡ n.address = omega (arith, z, u) in
    λ i. record { mode = a i; status = b i; phase = c i; suspend = d i; left = e i; «data» = f i; address = g i; wear = n.wear }

-- the status of a start and of an end
and_low : (s : ℕ) → bit_and s 0x7F ≡ s % 128
and_low s = and_mask s 7

or_high : (s : ℕ) → s < 64 → bit_or s 0x80 ≡ s + 128
or_high s h = eqb-true (bit_or s 0x80) (s + 128) (all_below_lem (λ x. eqb (bit_or x 0x80) (x + 128)) 64 refl s h)

-- at rest
module _ (d : DeviceNumbers) (r : RecordNumbers) (xs : List ℕ) (u : Usual d r xs) (key : ℕ) (c : Calm key) (w : WearNumbers) where
  abbrev n : StateNumbers
  n = state_of key 0 w

  calm : Resting n
  calm =
      let h = c.0 in
      let q = c.1 in
      record {
        address = omega arith;
        left = omega arith;
        unit = omega arith;
        phase = omega (arith, q);
        suspend = omega (arith, q);
        mode = omega (arith, h);
        low = omega (arith, h);
        ready = omega (arith, q);
      }

  free : (state_in n).phase ≡ Free
  free = ap (λ (s : State). s.phase) (at_rest n calm)

  unasked : asks (state_in n).phase (record_in r).cycle ≡ false
  unasked = ap (λ (ph : Phase). asks ph (record_in r).cycle) free

  unpending : is_pending (state_in n).phase ≡ false
  unpending = ap is_pending free

  module _ (k : r.bus.kind ≡ 0) (g : r.seen ≡ 1) where
    usual : Ordinary (timed_as d 65535) (bus_seen r) (length xs)
    usual = ordinary d r xs u 65535 refl (omega (arith, g)) (omega (arith, k))

    reading : (bus_seen r).kind ≡ 0
    reading = kind_of r (omega (arith, g)) ∙ k

    shows : (v : ℕ) → v ≡ r.value → rested_as n 1 v n.mode n.status 0 ≡ cycled (timed_as d 65535) n (bus_seen r) xs []
        → xs ≡ array_cycled (timed_as d 65535) n (bus_seen r) xs []
        → (good key 0 w ≡ recorded_of (device_in d) (state_in n) (record_in r) xs) × (xs ≡ bytes_recorded (device_in d) (state_in n) (record_in r) xs)
    shows v e a b =
        let t =
        shown d n r xs 65535 (time_longest d n r xs unasked) (counts_right d n r xs unasked) (uncut_free d n r xs unpending) (there n calm) (rested_as n 1 v n.mode n.status 0) a refl g e xs b in
        let ph = sym calm.phase in
        let su = sym calm.suspend in
        ((λ i. record { fault = false; state = state_in (record { mode = n.mode; status = n.status; phase = sym ph i; suspend = sym su i; left = 0; «data» = 0; address = 0; wear = w }) }) ∙ t.0, t.1)

    pub array_read : key % 256 ≡ 0 → (v : ℕ) → v ≡ get_or (units (eqb d.word 1) xs) r.bus.address 0 → v ≡ r.value
        → (good key 0 w ≡ recorded_of (device_in d) (state_in n) (record_in r) xs) × (xs ≡ bytes_recorded (device_in d) (state_in n) (record_in r) xs)
    array_read m v f e =
        shows v e (array_answer (timed_as d 65535) n (bus_seen r) xs [] usual calm reading m v f)
        (unwritten (timed_as d 65535) n (bus_seen r) xs [] usual calm _ _ (reads_array (timed_as d 65535) n (bus_seen r) xs [] usual calm reading m) u.bytes)

    pub status_read : key % 256 ≡ 1 → key / 256 % 256 ≡ r.value
        → (good key 0 w ≡ recorded_of (device_in d) (state_in n) (record_in r) xs) × (xs ≡ bytes_recorded (device_in d) (state_in n) (record_in r) xs)
    status_read m e =
        shows n.status e (status_answer (timed_as d 65535) n (bus_seen r) xs [] usual calm reading m n.status refl)
        (unwritten (timed_as d 65535) n (bus_seen r) xs [] usual calm _ _ (reads_status (timed_as d 65535) n (bus_seen r) xs [] usual calm reading m) u.bytes)

  -- a command, or an idle cycle
  pub commanded : r.seen ≡ 0 → (t : Commanded) → t ≡ commanded_by (leb 5 d.number) r.bus.kind (r.bus.data % 256) (key % 256) (key / 256 % 256) → t.known ≡ true
      → (k : ℕ) → k ≡ t.mode + 256 * t.status + 65536 * t.phase → t.mode < 256 → t.status < 256 → t.phase < 256
      → (good k 0 w ≡ recorded_of (device_in d) (state_in n) (record_in r) xs) × (xs ≡ bytes_recorded (device_in d) (state_in n) (record_in r) xs)
  commanded g t e h k p m s ph =
      let kind = known_kind (leb 5 d.number) r.bus.kind (r.bus.data % 256) (key % 256) (key / 256 % 256) t e h in
      let few : r.seen ≤ 1 = omega (arith, g) in
      let o = ordinary d r xs u 65535 refl few kind in
      let f : t ≡ commanded_by (leb 5 d.number) (bus_seen r).kind (r.bus.data % 256) (key % 256) (key / 256 % 256) =
      e ∙ (λ i. commanded_by (leb 5 d.number) (sym (kind_of r few) i) (r.bus.data % 256) (key % 256) (key / 256 % 256)) in
      let a = command_told (timed_as d 65535) n (bus_seen r) xs [] o calm t f h in
      let q =
      quiet d n r xs 65535 (time_longest d n r xs unasked) (counts_right d n r xs unasked) (uncut_free d n r xs unpending) (there n calm) (rested_as n 0 0 t.mode t.status t.phase) a.0 refl g xs (a.1 u.bytes) in
      let q1 : k / 256 ≡ t.status + 256 * t.phase = omega (arith, p, m) in
      let q2 : k / 65536 ≡ t.phase = omega (arith, p, m, s) in
      let m2 : k % 256 ≡ t.mode = omega (arith, p, m) in
      let s2 : k / 256 % 256 ≡ t.status = low_byte (k / 256) t.status t.phase q1 s in
      let p2 : k / 65536 % 256 ≡ t.phase = low_byte (k / 65536) t.phase 0 (omega (arith, q2)) ph in
      let u2 : k / 16777216 ≡ 0 = omega (arith, q2, ph) in
      ((λ i. record { fault = false; state = state_in (record { mode = m2 i; status = s2 i; phase = p2 i; suspend = u2 i; left = 0; «data» = 0; address = 0; wear = w }) }) ∙ q.0, q.1)

-- SR.7 goes at a start
start_status : (x : ℕ) → x / 64 ≡ 10 → (x + 128) % 256 ≡ x % 256 % 128
start_status x e = omega (arith, e)

further : (x y : ℕ) → y ≡ x + 32768 → y / 256 ≡ x / 256 + 128
further x y e = omega (arith, e)

-- data awaited, and a program that starts outside the boot block
module _ (d : DeviceNumbers) (r : RecordNumbers) (xs : List ℕ) (u : Usual d r xs) (key : ℕ) (c : Awaits key) (w : WearNumbers) (k : r.bus.kind ≡ 1) (g : r.seen ≡ 0) (some : r.busy ≡ 0 → ⊥) (most : r.busy ≤ 65535) (clear : key / 2048 % 2 ≡ 0)
    (supplied : (11400 ≤ r.bus.vpp → ⊥) → (4500 ≤ r.bus.vpp) × (5 ≤ d.number)) (block : ℕ) (at : block ≡ block_of (device_in d).part r.bus.address) (outer : block ≡ 0 → ⊥) where
  abbrev n₂ : StateNumbers
  n₂ = state_of key 0 w

  awaiting : Awaiting n₂ 2
  awaiting =
      let h = c.0 in
      let q = c.1 in
      record {
        phase = omega (arith, q);
        mode = omega (arith, h);
        unit = omega arith;
        suspend = omega (arith, q);
        low = omega (arith, h);
        ready = omega (arith, q);
        left = omega arith;
        address = omega arith;
      }

  writing : (bus_seen r).kind ≡ 1
  writing = kind_of r (omega (arith, g)) ∙ k

  supply : Supplied (timed_as d r.busy) (bus_seen r) (length xs)
  supply =
      (supplies_up (timed_as d r.busy) (bus_seen r) (length xs) (timed_as_lem d r.busy (ne_eqb r.busy 0 some) u.timed) u.level u.up supplied
      (units_for d.number d.word (length xs)) refl u.inside).0 (omega (arith, writing))

  clear_status : n₂.status / 8 % 2 ≡ 0
  clear_status = omega (arith, clear)

  starting : Starting (timed_as d r.busy) n₂ (bus_seen r) 2
  starting = record { awaiting = awaiting; clear = clear_status; unlocked = block_open (device_in d).part (cycle_in (bus_seen r)) block at outer }

  there₂ : no_state n₂ ≡ false
  unfolding no_state stray_data stray_suspend
  there₂ = let a = awaiting in simp (a.mode, a.phase, a.unit, a.suspend)

  typed_phase : (state_in n₂).phase ≡ phase_in n₂.phase n₂.data n₂.suspend
  unfolding state_in
  typed_phase = simp there₂

  awaited : (state_in n₂).phase ≡ DataAwaited
  unfolding phase_in
  awaited = typed_phase ∙ ap (λ (k : ℕ). phase_in k n₂.data n₂.suspend) awaiting.phase

  status_is : (state_in n₂).status ≡ n₂.status
  unfolding state_in
  status_is = simp there₂

  supplied_is : unsupplied (device_in d).part (record_in r).cycle (state_in n₂) ≡ false
  unfolding unsupplied
  supplied_is = simp (supply.supplied, status_is, clear_status)

  unbarred_is : unbarred (device_in d).part (state_in n₂) (record_in r).cycle ≡ true
  unfolding unbarred kind_in
  unbarred_is = λ i. ((is_write (kind_in (writing i)) && not (supply.ordinary.up i)) && not (supplied_is i)) && not (starting.unlocked i)

  starts_is : starts (device_in d).part (state_in n₂) (record_in r).cycle ≡ true
  starts_is =
      sym (starts_asked (device_in d).part (state_in n₂) (record_in r).cycle (ap (λ (ph : Phase). asks ph (record_in r).cycle) awaited)) ∙ unbarred_is

  inner : outside r.busy ≡ false
  unfolding outside
  inner = simp (ne_eqb r.busy 0 some, le-ltb 65535 r.busy most)

  time_is : r.busy ≡ time_of (device_in d).part (state_in n₂) (record_in r)
  unfolding time_of count_of
  time_is = simp (starts_is, inner)

  right₂ : wrong_count (device_in d).part (state_in n₂) (record_in r) ≡ false
  unfolding wrong_count
  right₂ = simp (inner, and_none (starts (device_in d).part (state_in n₂) (record_in r).cycle))

  pub data_started : (unit : ℕ) → unit < 65536 → unit ≡ carried (eqb d.word 1) r.bus.data → (k₂ rest : ℕ) → k₂ ≡ key + 32768
      → rest ≡ r.busy + 65536 * unit + 4294967296 * r.bus.address
      → (good k₂ rest w ≡ recorded_of (device_in d) (state_in n₂) (record_in r) xs) × (xs ≡ bytes_recorded (device_in d) (state_in n₂) (record_in r) xs)
  data_started unit small carries k₂ rest p q =
      let t = started (timed_as d r.busy) n₂ (bus_seen r) xs [] supply starting writing unit carries in
      let a =
      quiet d n₂ r xs r.busy time_is right₂ (uncut_free d n₂ r xs (ap is_pending awaited)) there₂ (written_as w 1 (bit_and n₂.status 0x7F) 3 0 r.busy unit r.bus.address) t.0 refl g xs (t.1 u.bytes) in
      let h = c.0 in
      let l = c.1 in
      let m2 : k₂ % 256 ≡ 1 = omega (arith, p, h) in
      let far : k₂ / 256 ≡ key / 256 + 128 = further key k₂ p in
      let s2 : k₂ / 256 % 256 ≡ n₂.status % 128 = ap (λ (x : ℕ). x % 256) far ∙ start_status (key / 256) (omega (arith, l)) in
      let p1 : k₂ / 65536 ≡ 3 = omega (arith, p, l) in
      let p2 : k₂ / 65536 % 256 ≡ 3 = low_byte (k₂ / 65536) 3 0 p1 (omega arith) in
      let u2 : k₂ / 16777216 ≡ 0 = omega (arith, p1) in
      let z : rest / 65536 ≡ unit + 65536 * r.bus.address = omega (arith, q, most) in
      let l2 : rest % 65536 ≡ r.busy = omega (arith, q, most) in
      let d2 : rest / 65536 % 65536 ≡ unit = low_word (rest / 65536) unit r.bus.address z small in
      let a2 : rest / 4294967296 ≡ r.bus.address = omega (arith, z, small) in
      let s3 = s2 ∙ sym (and_low n₂.status) in
      ((λ i. record { fault = false; state = state_in (record { mode = m2 i; status = s3 i; phase = p2 i; suspend = u2 i; left = l2 i; «data» = d2 i; address = a2 i; wear = w }) }) ∙ a.0, a.1)

-- a program that is running is read
module _ (d : DeviceNumbers) (r : RecordNumbers) (xs : List ℕ) (u : Usual d r xs) (key rest : ℕ) (c : Polls d r key) (inside : rest / 4294967296 < units_for d.number d.word (length xs)) (some : 0 < rest % 65536) (w : WearNumbers) where
  abbrev n₃ : StateNumbers
  n₃ = state_of key rest w

  abbrev D₃ : DeviceNumbers
  D₃ = timed_as d 65535

  phase_is : n₃.phase ≡ 3
  phase_is = omega (arith, c.phase)

  mode_is : n₃.mode ≡ 1
  mode_is = omega (arith, c.low)

  ready_is : n₃.status / 64 ≡ 0
  ready_is = omega (arith, c.phase)

  reading₃ : (bus_seen r).kind ≡ 0
  reading₃ = kind_of r (omega (arith, c.seen)) ∙ c.kind

  supply₃ : (Supplied D₃ (bus_seen r) (length xs)) × (units_for d.number d.word (length xs) ≡ size_of (device_in d).part)
  supply₃ =
      let t =
      supplies_up D₃ (bus_seen r) (length xs) (timed_as_lem d 65535 refl u.timed) u.level u.up c.supplied (units_for d.number d.word (length xs)) refl u.inside in
      (t.0 (omega (arith, reading₃)), t.1)

  there_inside : n₃.address < size_of (device_in d).part
  there_inside = let e = supply₃.1 in omega (arith, inside, e)

  runs : Running D₃ n₃
  runs = programming D₃ n₃ mode_is (omega (arith, c.phase)) (omega (arith, c.low)) ready_is some there_inside phase_is (omega arith)

  typed_phase₃ : (state_in n₃).phase ≡ phase_in n₃.phase n₃.data n₃.suspend
  unfolding state_in
  typed_phase₃ = simp runs.there

  programs : (state_in n₃).phase ≡ Programming n₃.data
  unfolding phase_in
  programs = typed_phase₃ ∙ ap (λ (k : ℕ). phase_in k n₃.data n₃.suspend) phase_is

  unasked₃ : asks (state_in n₃).phase (record_in r).cycle ≡ false
  unasked₃ = ap (λ (ph : Phase). asks ph (record_in r).cycle) programs

  gives : (v : ℕ) → v ≡ r.value → (a : AnswerNumbers) → a ≡ cycled D₃ n₃ (bus_seen r) xs [] → a.seen ≡ seen_in (bus_seen r).kind → a.value ≡ shown_in (bus_seen r).kind v
      → (ys : List ℕ) → ys ≡ array_cycled D₃ n₃ (bus_seen r) xs []
      → (record { fault = false; state = state_in a.state } ≡ recorded_of (device_in d) (state_in n₃) (record_in r) xs) × (ys ≡ bytes_recorded (device_in d) (state_in n₃) (record_in r) xs)
  unfolding seen_in shown_in
  gives v e a t s f ys p =
      shown d n₃ r xs 65535 (time_longest d n₃ r xs unasked₃) (counts_right d n₃ r xs unasked₃) (uncut d n₃ r xs supply₃.0.ordinary.up supply₃.0.supplied) runs.there a t
      (s ∙ ap seen_in reading₃) c.seen (f ∙ ap (λ (k : ℕ). shown_in k v) reading₃ ∙ e) ys p

  -- a poll with more to go
  pub poll_more_lem : 1 < rest % 65536 → key / 256 % 256 ≡ r.value
      → (good key (rest - 1) w ≡ recorded_of (device_in d) (state_in n₃) (record_in r) xs) × (xs ≡ bytes_recorded (device_in d) (state_in n₃) (record_in r) xs)
  poll_more_lem m e =
      let t = polled D₃ n₃ (bus_seen r) xs [] supply₃.0.ordinary runs supply₃.0.supplied m (ne_eqb (bus_seen r).kind 1 (λ (z : (bus_seen r).kind ≡ 1). (omega (arith, z, reading₃)))) in
      let a = gives n₃.status e (polled_as n₃ (bus_seen r).kind n₃.status n₃.phase n₃.suspend (n₃.left - 1)) t.0 refl refl xs (t.1 u.bytes) in
      let l2 : (rest - 1) % 65536 ≡ rest % 65536 - 1 = omega (arith, m) in
      let z : (rest - 1) / 65536 ≡ rest / 65536 = omega (arith, m) in
      let a2 : (rest - 1) / 4294967296 ≡ rest / 4294967296 = omega (arith, z) in
      ((λ i. record { fault = false; state = state_in (record { mode = mode_is i; status = n₃.status; phase = n₃.phase; suspend = n₃.suspend; left = l2 i; «data» = z i % 65536; address = a2 i; wear = w }) }) ∙ a.0, a.1)

  -- the poll that ends it
  pub poll_last : rest % 65536 ≡ 1 → key / 256 % 256 + 128 ≡ r.value → (ys : List ℕ) → Bytes ys
      → units (eqb d.word 1) ys ≡ set (units (eqb d.word 1) xs) (rest / 4294967296) (bit_and (get_or (units (eqb d.word 1) xs) (rest / 4294967296) 0) (rest / 65536 % 65536))
      → spare (eqb d.word 1) ys ≡ spare (eqb d.word 1) xs → length ys ≡ length xs → (k₂ : ℕ) → k₂ + 163840 ≡ key
      → (good k₂ 0 w ≡ recorded_of (device_in d) (state_in n₃) (record_in r) xs) × (ys ≡ bytes_recorded (device_in d) (state_in n₃) (record_in r) xs)
  poll_last l e ys b us sp len k₂ p =
      let z = ne_eqb (bus_seen r).kind 1 (λ (q : (bus_seen r).kind ≡ 1). (omega (arith, q, reading₃))) in
      let t = ends D₃ n₃ (bus_seen r) xs [] supply₃.0 (record { running = runs; last = l; unwritten = z }) in
      let long = counted D₃ xs supply₃.0.ordinary.fair.sized in
      let done =
      t.1 ys u.bytes b (programmed (device_in D₃).part n₃ (units (eqb d.word 1) xs) (units (eqb d.word 1) []) phase_is (let i = there_inside in omega (arith, i, long)) (units (eqb d.word 1) ys) us) sp len in
      let low : n₃.status < 64 = omega (arith, ready_is) in
      let s2 : bit_or n₃.status 0x80 ≡ n₃.status + 128 = or_high n₃.status low in
      let a = gives (bit_or n₃.status 0x80) (s2 ∙ e) (ended_as n₃ (bus_seen r).kind) t.0 refl refl ys done in
      let m2 : k₂ % 256 ≡ 1 = omega (arith, p, c.low) in
      let s3 : k₂ / 256 % 256 ≡ n₃.status + 128 = omega (arith, p, c.low, c.phase) in
      let p2 : k₂ / 65536 % 256 ≡ 0 = omega (arith, p, c.phase) in
      let u2 : k₂ / 16777216 ≡ 0 = omega (arith, p, c.phase) in
      let s4 = s3 ∙ sym s2 in
      ((λ i. record { fault = false; state = state_in (record { mode = m2 i; status = s4 i; phase = p2 i; suspend = u2 i; left = 0; «data» = 0; address = 0; wear = w }) }) ∙ a.0, a.1)
