-- What a record while an erase is suspended leaves, in the two numbers of a state.
use mathlib.Core.Path.{◌≡◌, refl, sym, ap, ◌∙◌}
use mathlib.Core.Bool.{false}
use mathlib.Core.List.{List, []}
use Prim.Native.Nat.{ℕ, ◌+◌, ◌*◌, ◌/◌, ◌%◌, ◌≤◌, ◌<◌}
use native.Mathlib.Omega.{arith}
use lib.ListN.{length, get_or}
use lib.Dec.{eqb}
use lib.Bits.{bit_and, and_mask}
use borrow.Author.Tests.{ne_eqb, le-ltb}
use Rattle.units.specs.Units.{units}
use Rattle.device.specs.Parts.{size_of, block_of}
use Rattle.model_types.specs.declared.Phase.{Phase}
use Rattle.model_types.specs.declared.Phase.TheVariants.{Suspended as Held}
use Rattle.recording.specs.Recordings.{recorded_of, bytes_recorded}
use Rattle.recording.specs.Inner.{asks}
use Rattle.c_cycle.specs.declared.DeviceNumbers.{DeviceNumbers}
use Rattle.c_cycle.specs.declared.StateNumbers.{StateNumbers}
use Rattle.c_cycle.specs.declared.WearNumbers.{WearNumbers}
use Rattle.c_cycle.specs.Values.{device_in, phase_in, stray_data, stray_suspend, no_state, state_in}
use Rattle.c_cycle.specs.Answers.{cycled, array_cycled}
use Rattle.c_ordinary.specs.Ordinary.{units_for}
use Rattle.c_answers.specs.Answers.{written_as, given_as}
use Rattle.c_operations.specs.Operations.{Suspended, Supplied}
use Rattle.c_operations.proofs.Holding.{held_array, resumes, held_gives_unit}
use Rattle.c_operations.proofs.Supplying.{supplies_up}
use Rattle.c_recording.specs.declared.RecordNumbers.{RecordNumbers}
use Rattle.c_recording.specs.Records.{bus_seen, record_in}
use Rattle.c_recording.specs.Known.{state_of, good, Usual, Holds}
use Rattle.c_recording.proofs.Knowing.{timed_as, timed_as_lem, kind_of, time_longest, counts_right, uncut, quiet, shown}
use Rattle.c_recording.proofs.Moving.{low_byte}

-- SR.7 and SR.6 go where an erase goes on
and_less : (s : ℕ) → bit_and s 0x3F ≡ s % 64
and_less s = and_mask s 6

-- the numbers of a state without its mode
cleared : (x : ℕ) → (x / 256 * 256 / 256 ≡ x / 256) × (x / 256 * 256 % 256 ≡ 0)
cleared x = (omega arith, omega arith)

resumed : (x k : ℕ) → x / 16384 ≡ 23 → k + 114687 ≡ x / 256 * 256 → (k % 256 ≡ 1) × (k / 256 ≡ x / 256 % 64 + 1024)
resumed x k e p =
    let a : 1472 ≤ x / 256 = omega (arith, e) in
    let b : x / 256 < 1536 = omega (arith, e) in
    (omega (arith, p, a, b), omega (arith, p, a, b))

module _ (d : DeviceNumbers) (r : RecordNumbers) (xs : List ℕ) (u : Usual d r xs) (key rest : ℕ) (c : Holds d r key rest) (inside : rest / 4294967296 < units_for d.number d.word (length xs)) (w : WearNumbers)
    (few : r.seen ≤ 1) (kind : r.bus.kind ≤ 2) where
  abbrev n : StateNumbers
  n = state_of key rest w

  abbrev D : DeviceNumbers
  D = timed_as d 65535

  same_kind : (bus_seen r).kind ≡ r.bus.kind
  same_kind = kind_of r few

  supply : (Supplied D (bus_seen r) (length xs)) × (units_for d.number d.word (length xs) ≡ size_of (device_in d).part)
  supply =
      let t =
      supplies_up D (bus_seen r) (length xs) (timed_as_lem d 65535 refl u.timed) u.level u.up c.supplied (units_for d.number d.word (length xs)) refl u.inside in
      (t.0 (omega (arith, same_kind, kind)), t.1)

  high : key / 65536 ≡ 5
  high = omega (arith, c.phase)

  phase_is : n.phase ≡ 5
  phase_is = low_byte (key / 65536) 5 0 high (omega arith)

  suspend_is : n.suspend ≡ 0
  suspend_is = omega (arith, high)

  rests : Suspended D n
  rests =
      let h = c.low in
      let e = supply.1 in
      record {
        phase = phase_is;
        mode = omega (arith, h);
        unit = c.unit;
        suspend = suspend_is;
        low = omega (arith, h);
        held = omega (arith, c.phase);
        more = c.more;
        most = omega arith;
        inside = omega (arith, inside, e);
      }

  there : no_state n ≡ false
  unfolding no_state stray_data stray_suspend
  there = simp (le-ltb 2 n.mode (let m = rests.mode in omega (arith, m)), phase_is, c.unit, suspend_is)

  typed_phase : (state_in n).phase ≡ phase_in n.phase n.data n.suspend
  unfolding state_in
  typed_phase = simp there

  holds : (state_in n).phase ≡ Held
  unfolding phase_in
  holds = typed_phase ∙ ap (λ (k : ℕ). phase_in k n.data n.suspend) phase_is

  unasked : asks (state_in n).phase (record_in r).cycle ≡ false
  unasked = ap (λ (ph : Phase). asks ph (record_in r).cycle) holds

  -- what is written
  written : r.seen ≡ 0 → (mode sr phase : ℕ)
      → ((written_as w mode sr phase 0 n.left 0 n.address ≡ cycled D n (bus_seen r) xs []) × (xs ≡ array_cycled D n (bus_seen r) xs [])) → (k : ℕ)
      → k % 256 ≡ mode → k / 256 % 256 ≡ sr → k / 65536 % 256 ≡ phase → k / 16777216 ≡ 0
      → (good k rest w ≡ recorded_of (device_in d) (state_in n) (record_in r) xs) × (xs ≡ bytes_recorded (device_in d) (state_in n) (record_in r) xs)
  written g mode sr phase t k m2 s2 p2 u2 =
      let a =
      quiet d n r xs 65535 (time_longest d n r xs unasked) (counts_right d n r xs unasked) (uncut d n r xs supply.0.ordinary.up supply.0.supplied) there (written_as w mode sr phase 0 n.left 0 n.address) t.0 refl g xs t.1 in
      ((λ i. record { fault = false; state = state_in (record { mode = m2 i; status = s2 i; phase = p2 i; suspend = u2 i; left = n.left; «data» = c.unit i; address = n.address; wear = w }) }) ∙ a.0, a.1)

  pub to_array : r.seen ≡ 0 → r.bus.kind ≡ 1 → r.bus.data % 256 ≡ 0xFF
      → (good (key / 256 * 256) rest w ≡ recorded_of (device_in d) (state_in n) (record_in r) xs) × (xs ≡ bytes_recorded (device_in d) (state_in n) (record_in r) xs)
  to_array g k e =
      let t = held_array D n (bus_seen r) xs [] supply.0 rests (same_kind ∙ k) e in
      let f = cleared key in
      let q : key / 256 * 256 / 65536 ≡ 5 = omega (arith, high, f.0) in
      written g 0 n.status 5 (t.0, t.1 u.bytes) (key / 256 * 256) f.1 (ap (λ (x : ℕ). x % 256) f.0) (low_byte (key / 256 * 256 / 65536) 5 0 q (omega arith)) (omega (arith, q))

  pub to_erase : r.seen ≡ 0 → r.bus.kind ≡ 1 → r.bus.data % 256 ≡ 0xD0 → (k₂ : ℕ) → k₂ + 114687 ≡ key / 256 * 256
      → (good k₂ rest w ≡ recorded_of (device_in d) (state_in n) (record_in r) xs) × (xs ≡ bytes_recorded (device_in d) (state_in n) (record_in r) xs)
  to_erase g k e k₂ p =
      let t = resumes D n (bus_seen r) xs [] supply.0 rests (same_kind ∙ k) e in
      let f = resumed key k₂ c.phase p in
      let b : key / 256 % 64 < 256 = omega arith in
      let s1 : k₂ / 256 % 256 ≡ key / 256 % 64 = low_byte (k₂ / 256) (key / 256 % 64) 4 f.1 b in
      let s2 : key / 256 % 64 ≡ n.status % 64 = omega arith in
      let q : k₂ / 65536 ≡ 4 = omega (arith, f.1) in
      written g 1 (bit_and n.status 0x3F) 4 (t.0, t.1 u.bytes) k₂ f.0 (s1 ∙ s2 ∙ sym (and_less n.status)) (low_byte (k₂ / 65536) 4 0 q (omega arith)) (omega (arith, q))

  -- what another block holds
  pub other_block : r.seen ≡ 1 → r.bus.kind ≡ 0 → (key % 256 ≡ 1 → ⊥) → (a b : ℕ) → a ≡ block_of (device_in d).part r.bus.address → b ≡ block_of (device_in d).part (rest / 4294967296)
      → (a ≡ b → ⊥) → (v : ℕ) → v ≡ get_or (units (eqb d.word 1) xs) r.bus.address 0 → v ≡ r.value
      → (good key rest w ≡ recorded_of (device_in d) (state_in n) (record_in r) xs) × (xs ≡ bytes_recorded (device_in d) (state_in n) (record_in r) xs)
  other_block g k m a b p q z v f e =
      let away : eqb (block_of (device_in d).part r.bus.address) (block_of (device_in d).part (rest / 4294967296)) ≡ false = (λ i. eqb (sym p i) (sym q i)) ∙ ne_eqb a b z in
      let t = held_gives_unit D n (bus_seen r) xs [] supply.0 rests (same_kind ∙ k) m away v f in
      shown d n r xs 65535 (time_longest d n r xs unasked) (counts_right d n r xs unasked) (uncut d n r xs supply.0.ordinary.up supply.0.supplied) there (given_as n v) t.0 refl g e xs (t.1 u.bytes)
