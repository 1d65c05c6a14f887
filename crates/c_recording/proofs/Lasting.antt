-- What a record while an erase goes on leaves, in the two numbers of a state.
use mathlib.Core.Path.{◌≡◌, refl, ap, ◌∙◌}
use mathlib.Core.Bool.{false}
use mathlib.Core.List.{List, []}
use Prim.Native.Nat.{ℕ, ◌+◌, ◌*◌, ◌-◌, ◌/◌, ◌%◌, ◌≤◌, ◌<◌}
use native.Mathlib.Omega.{arith}
use lib.ListN.{length}
use borrow.Author.Tests.{ne_eqb}
use Rattle.device.specs.Parts.{size_of}
use Rattle.model_types.specs.declared.Phase.{Phase}
use Rattle.model_types.specs.declared.Phase.TheVariants.{Erasing}
use Rattle.recording.specs.Recordings.{recorded_of, bytes_recorded}
use Rattle.recording.specs.Inner.{asks}
use Rattle.c_cycle.specs.declared.DeviceNumbers.{DeviceNumbers}
use Rattle.c_cycle.specs.declared.StateNumbers.{StateNumbers}
use Rattle.c_cycle.specs.declared.WearNumbers.{WearNumbers}
use Rattle.c_cycle.specs.Values.{device_in, phase_in, state_in}
use Rattle.c_ordinary.specs.Ordinary.{units_for}
use Rattle.c_answers.specs.Answers.{seen_in, shown_in, polled_as, written_as}
use Rattle.c_operations.specs.Operations.{Running, Supplied}
use Rattle.c_operations.proofs.Running.{erasing, polled, suspends}
use Rattle.c_operations.proofs.Supplying.{supplies_up}
use Rattle.c_recording.specs.declared.RecordNumbers.{RecordNumbers}
use Rattle.c_recording.specs.Records.{bus_seen, record_in}
use Rattle.c_recording.specs.Known.{state_of, good, Usual, Erases}
use Rattle.c_recording.proofs.Knowing.{timed_as, timed_as_lem, kind_of, time_longest, counts_right, uncut, quiet, shown}
use Rattle.c_recording.proofs.Moving.{low_byte}

-- the number of a state after one more cycle, and with a suspend under way
mod_more : (y p : ℕ) → (y + 256 * p) % 256 ≡ y % 256
mod_more y p = omega arith

counted_off : (x : ℕ) → 1 < x % 65536 → ((x - 1) % 65536 ≡ x % 65536 - 1) × ((x - 1) / 65536 ≡ x / 65536)
counted_off x m = (omega (arith, m), omega (arith, m))

suspended : (x k s : ℕ) → x / 65536 ≡ 4 → x % 2048 ≡ 1 → k ≡ x + 131072 + 16777216 * s
    → (k % 256 ≡ 1) × (k / 256 ≡ x / 256 + 256 * (2 + 256 * s)) × (k / 65536 ≡ 6 + 256 * s) × (k / 16777216 ≡ s)
suspended x k s h m e = (omega (arith, m, e), omega (arith, e), omega (arith, h, e), omega (arith, h, e))

module _ (d : DeviceNumbers) (r : RecordNumbers) (xs : List ℕ) (u : Usual d r xs) (key rest : ℕ) (c : Erases d r key rest) (inside : rest / 4294967296 < units_for d.number d.word (length xs)) (w : WearNumbers)
    (few : r.seen ≤ 1) (kind : r.bus.kind ≤ 2) where
  abbrev n : StateNumbers
  n = state_of key rest w

  abbrev D : DeviceNumbers
  D = timed_as d 65535

  same_kind : (bus_seen r).kind ≡ r.bus.kind
  same_kind = kind_of r few

  supply : (Supplied D (bus_seen r) (length xs)) × (units_for d.number d.word (length xs) ≡ size_of (device_in d).part)
  supply =
      let t =
      supplies_up D (bus_seen r) (length xs) (timed_as_lem d 65535 refl u.timed) u.level u.up c.supplied (units_for d.number d.word (length xs)) refl u.inside in
      (t.0 (omega (arith, same_kind, kind)), t.1)

  high : key / 65536 ≡ 4
  high = omega (arith, c.phase)

  phase_is : n.phase ≡ 4
  phase_is = low_byte (key / 65536) 4 0 high (omega arith)

  suspend_is : n.suspend ≡ 0
  suspend_is = omega (arith, high)

  mode_is : n.mode ≡ 1
  mode_is = omega (arith, c.low)

  runs : Running D n
  runs =
      let e = supply.1 in
      let m = c.more in
      erasing D n mode_is suspend_is (omega (arith, c.low)) (omega (arith, c.phase)) (omega (arith, m)) (omega (arith, inside, e)) phase_is c.unit (omega arith)

  typed_phase : (state_in n).phase ≡ phase_in n.phase n.data n.suspend
  unfolding state_in
  typed_phase = simp runs.there

  erases : (state_in n).phase ≡ Erasing
  unfolding phase_in
  erases = typed_phase ∙ ap (λ (k : ℕ). phase_in k n.data n.suspend) phase_is

  unasked : asks (state_in n).phase (record_in r).cycle ≡ false
  unasked = ap (λ (ph : Phase). asks ph (record_in r).cycle) erases

  off : ((rest - 1) % 65536 ≡ rest % 65536 - 1) × ((rest - 1) / 65536 ≡ rest / 65536)
  off = counted_off rest c.more

  same_address : (rest - 1) / 4294967296 ≡ rest / 4294967296
  same_address = omega (arith, off.1)

  pub goes_on : r.seen ≡ 1 → r.bus.kind ≡ 0 → key / 256 % 256 ≡ r.value
      → (good key (rest - 1) w ≡ recorded_of (device_in d) (state_in n) (record_in r) xs) × (xs ≡ bytes_recorded (device_in d) (state_in n) (record_in r) xs)
  unfolding seen_in shown_in
  goes_on g k e =
      let reads : (bus_seen r).kind ≡ 0 = same_kind ∙ k in
      let t = polled D n (bus_seen r) xs [] supply.0.ordinary runs supply.0.supplied c.more (ne_eqb (bus_seen r).kind 1 (λ (z : (bus_seen r).kind ≡ 1). (omega (arith, z, reads)))) in
      let a =
      shown d n r xs 65535 (time_longest d n r xs unasked) (counts_right d n r xs unasked) (uncut d n r xs supply.0.ordinary.up supply.0.supplied) runs.there
      (polled_as n (bus_seen r).kind n.status n.phase n.suspend (n.left - 1)) t.0 (ap seen_in reads) g (ap (λ (x : ℕ). shown_in x n.status) reads ∙ e) xs (t.1 u.bytes) in
      let l2 = off.0 in
      let z = off.1 in
      ((λ i. record { fault = false; state = state_in (record { mode = mode_is i; status = n.status; phase = n.phase; suspend = n.suspend; left = l2 i; «data» = z i % 65536; address = same_address i; wear = w }) }) ∙ a.0, a.1)

  pub is_held : r.seen ≡ 0 → r.bus.kind ≡ 1 → r.bus.data % 256 ≡ 0xB0 → (k₂ : ℕ) → k₂ ≡ key + 131072 + 16777216 * d.suspend
      → (good k₂ (rest - 1) w ≡ recorded_of (device_in d) (state_in n) (record_in r) xs) × (xs ≡ bytes_recorded (device_in d) (state_in n) (record_in r) xs)
  is_held g k e k₂ p =
      let t = suspends D n (bus_seen r) xs [] supply.0.ordinary runs supply.0.supplied c.more (same_kind ∙ k) phase_is e in
      let a =
      quiet d n r xs 65535 (time_longest d n r xs unasked) (counts_right d n r xs unasked) (uncut d n r xs supply.0.ordinary.up supply.0.supplied) runs.there
      (written_as w 1 n.status 6 d.suspend (n.left - 1) 0 n.address) t.0 refl g xs (t.1 u.bytes) in
      let f = suspended key k₂ d.suspend high c.low p in
      let m2 = f.0 in
      let s2 : k₂ / 256 % 256 ≡ n.status = ap (λ (x : ℕ). x % 256) f.1 ∙ mod_more (key / 256) (2 + 256 * d.suspend) in
      let p2 : k₂ / 65536 % 256 ≡ 6 = low_byte (k₂ / 65536) 6 d.suspend f.2 (omega arith) in
      let u2 = f.3 in
      let l2 = off.0 in
      let z : (rest - 1) / 65536 % 65536 ≡ 0 = ap (λ (x : ℕ). x % 65536) off.1 ∙ c.unit in
      ((λ i. record { fault = false; state = state_in (record { mode = m2 i; status = s2 i; phase = p2 i; suspend = u2 i; left = l2 i; «data» = z i; address = same_address i; wear = w }) }) ∙ a.0, a.1)
