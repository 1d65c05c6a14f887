-- What is claimed of the bench model, in one place.
use mathlib.Core.Path.{◌≡◌}
use mathlib.Core.Bool.{true, false, ◌&&◌, ◌||◌}
use mathlib.Core.List.{List, ◌∷◌}
use mathlib.Core.Logic.{◌↔◌}
use Prim.Native.Nat.{ℕ, ◌+◌, ◌/◌, ◌%◌, ◌≤◌, ◌<◌}
use lib.ListN.{length, take, replicate}
use lib.Bits.{bit_or}
use lib.Dec.{ltb}
use Rattle.common.specs.Lists.{overlaid, Bytes}
use Rattle.units.specs.Units.{pairs, units, back, units_in, bytes_in, torn, lent}
use Rattle.units.specs.Address.{byte_of}
use Rattle.common.specs.Numbers.{Foremost, NoRow}
use Rattle.device.specs.declared.Device.{Device}
use Rattle.device.specs.declared.Part.{Part}
use Rattle.device.specs.Parts.{size_of, start_of, length_of}
use Rattle.model_types.specs.Cells.{Cells}
use Rattle.model_types.specs.declared.State.{State}
use Rattle.model_types.specs.declared.Cycle.{Cycle}
use Rattle.model_types.specs.declared.Kind.TheVariants.{Read}
use Rattle.model_types.specs.declared.Effect.{Effect}
use Rattle.model_types.specs.declared.Effect.TheVariants.{Nothing, Program, CutProgram}
use Rattle.model_levels.specs.Levels.{rp_low, vpp_low}
use Rattle.model_states.specs.States.{improper, fresh_state}
use Rattle.model_operation.specs.Settling.{residue_for, settle_of}
use Rattle.model_judge.specs.Judging.{short_residue, judge_of}
use Rattle.model_rules.specs.Cycles.{table_of, number_of, decide_of}
use Rattle.model_rules.proofs.Facts.{proper_parts, parts_proper}
use Rattle.model.specs.declared.Seen.TheVariants.{Data, Refused}
use Rattle.model.specs.Arrays.{erased, residual, array_of, Accepted, answer_of, array_after, bytes_after}
use Rattle.model.specs.Inner.{answer_judged, array_judged}
use Rattle.model.specs.Words.{pair_programmed, narrow}
use Rattle.model.specs.Begun.{operation_of, pending_of, starts_of, begun_by, begun_from, wear_after}
use Rattle.model_types.specs.Phases.{is_busy, is_awaited}
use Rattle.model.proofs.Keeping as keeping
use Rattle.model.proofs.Lives as lives
use Rattle.model.proofs.Worn as worn
use Rattle.model.proofs.Contents as contents
use Rattle.model.proofs.Table as table
use Rattle.model.proofs.Passing as passing
use Rattle.model.proofs.Borders as borders
use Rattle.model.proofs.Bytewise as bytewise
use Rattle.model.proofs.Narrow as unread
use Rattle.model.proofs.Status.{status_byte}

-- The numbers: a cycle is refused by m exactly where m's own condition holds and that of no lower number does.
pub refused_exactly : (d : Device) (s : State) (c : Cycle) (xs rs : List ℕ) (m : ℕ) → (m ≡ 0 → ⊥)
    → ((answer_of d s c xs rs).seen ≡ Refused m) ↔ Foremost (table_of d s c (length xs) (length rs)) m
refused_exactly = table.host_numbers

-- It is accepted exactly where none of the nine conditions holds.
pub accepted_exactly : (d : Device) (s : State) (c : Cycle) (xs rs : List ℕ) → Accepted (answer_of d s c xs rs) ↔ NoRow (table_of d s c (length xs) (length rs))
accepted_exactly = table.host_accepted

-- A refused cycle has not happened: state and array are as before. (The answer is the refusal, so no data is given.)
pub refused_nothing : (d : Device) (s : State) (c : Cycle) (xs rs : List ℕ) (m : ℕ) → (answer_of d s c xs rs).seen ≡ Refused m
    → ((answer_of d s c xs rs).state ≡ s) × (array_after d s c xs rs ≡ xs)
refused_nothing = table.host_refused

-- A fresh device is proper ..
pub fresh_proper : (d : Device) → improper d fresh_state ≡ false
fresh_proper d = parts_proper d fresh_state (keeping.fresh_proper d)

-- .. and every cycle from a proper state leaves one.
pub stays_proper : (d : Device) (s : State) (c : Cycle) (xs rs : List ℕ) → improper d s ≡ false → improper d (answer_of d s c xs rs).state ≡ false
unfolding answer_of
stays_proper d s c xs rs p =
    parts_proper d (decide_of d s c (length xs) (length rs)).state (keeping.cycle_proper d s c (length xs) (length rs) (proper_parts d s p))

-- Every accepted read with RP# up shows the status register while an operation is busy: still busy after steps 1 to 3 ..
pub busy_read : (d : Device) (s : State) (c : Cycle) (xs rs : List ℕ) → Accepted (answer_of d s c xs rs) → c.kind ≡ Read → rp_low c.pins ≡ false
    → is_busy (settle_of d.part s c.pins).state.phase ≡ true
    → (answer_of d s c xs rs).seen ≡ Data (answer_of d s c xs rs).state.status
busy_read = table.busy_read

-- .. or busy in the state that was handed in, on the cycle too where the operation ends or VPP falls.
pub busy_read_ending : (d : Device) (s : State) (c : Cycle) (xs rs : List ℕ) → Accepted (answer_of d s c xs rs) → c.kind ≡ Read → rp_low c.pins ≡ false
    → is_busy s.phase ≡ true
    → (answer_of d s c xs rs).seen ≡ Data (answer_of d s c xs rs).state.status
busy_read_ending = table.busy_read_ending

-- The array keeps its length ..
pub keeps_length : (d : Device) (s : State) (c : Cycle) (xs rs : List ℕ) → length (array_after d s c xs rs) ≡ length xs
keeps_length = contents.cycle_length

-- .. and its cells stay cells: no unit passes all ones.
pub stays_cells : (d : Device) (s : State) (c : Cycle) (xs rs : List ℕ) → Cells d.part rs → Cells d.part xs → Cells d.part (array_after d s c xs rs)
stays_cells = contents.cycle_cells

-- The lent bytes keep their length, whichever the width ..
pub keeps_bytes : (d : Device) (s : State) (c : Cycle) (array residue : List ℕ) → length (bytes_after d s c array residue) ≡ length array
keeps_bytes = borders.bytes_length

-- .. a refused cycle leaves them as they were ..
pub refused_bytes : (d : Device) (s : State) (c : Cycle) (array residue : List ℕ) (m : ℕ)
    → (answer_of d s c (lent d.part.word array) (units d.part.word residue)).seen ≡ Refused m → bytes_after d s c array residue ≡ array
refused_bytes = borders.refused_bytes

-- .. and the units of what is left are the array after the cycle.
pub left_units : (d : Device) (s : State) (c : Cycle) (array residue : List ℕ)
    → lent d.part.word (bytes_after d s c array residue) ≡ array_after d s c (lent d.part.word array) (units d.part.word residue)
left_units = borders.left_units

-- In byte mode they are the array after the cycle themselves.
pub byte_mode_bytes : (d : Device) (s : State) (c : Cycle) (array residue : List ℕ) → d.part.word ≡ false → bytes_after d s c array residue ≡ array_after d s c array residue
byte_mode_bytes = borders.byte_mode_bytes

-- In word mode, and in byte mode alike, an erase that ends leaves FFH in the bytes of its block ..
pub erased_bytes : (xs : List ℕ) → Bytes xs → (part : Part) (k : ℕ) → length xs ≡ bytes_in part.word (size_of part) → length (units part.word xs) ≡ size_of part
    → back part.word (erased part k (units part.word xs)) ≡ overlaid xs (byte_of part.word (start_of part k)) (replicate (bytes_in part.word (length_of part k)) 0xFF)
erased_bytes = bytewise.erased_bytes

-- .. one that is cut leaves residue byte i at byte i of the block ..
pub residual_bytes : (xs : List ℕ) → Bytes xs → (part : Part) (k : ℕ) → length xs ≡ bytes_in part.word (size_of part) → length (units part.word xs) ≡ size_of part
    → (rs : List ℕ) → Bytes rs → length_of part k ≤ length (units part.word rs)
    → back part.word (residual part k (units part.word rs) (units part.word xs))
    ≡ overlaid xs (byte_of part.word (start_of part k)) (take (bytes_in part.word (length_of part k)) rs)
residual_bytes = bytewise.residual_bytes

-- .. a program of a word leaves old AND data in both of its bytes, the low byte first ..
pub program_bytes : (xs : List ℕ) → Bytes xs → (part : Part) (i : ℕ) → i < length (pairs xs) → torn true (length xs) ≡ false → (v : ℕ) (rs : List ℕ)
    → back true (array_of (Program i v) part rs (pairs xs)) ≡ pair_programmed xs i (v % 256) (v / 256)
program_bytes = bytewise.program_bytes

-- .. and cut, old AND (data OR r), r being residue byte 0 for the low byte and residue byte 1 for the high one.
pub cut_bytes : (xs : List ℕ) → Bytes xs → (part : Part) (i : ℕ) → i < length (pairs xs) → torn true (length xs) ≡ false
    → (v r q : ℕ) (rs : List ℕ) → v < 65536 → r < 256 → q < 256
    → back true (array_of (CutProgram i v) part (pairs (r ∷ q ∷ rs)) (pairs xs)) ≡ pair_programmed xs i (bit_or (v % 256) r) (bit_or (v / 256) q)
cut_bytes = bytewise.cut_bytes

-- In byte mode the high byte of a cycle's data is not looked at: the answer is the same without it ..
pub high_byte_unread : (d : Device) → d.part.word ≡ false → (c : Cycle) (s : State) (xs rs : List ℕ) → answer_of d s (narrow c) xs rs ≡ answer_of d s c xs rs
high_byte_unread = unread.narrow_answer

-- .. and so is the array.
pub high_byte_unstored : (d : Device) → d.part.word ≡ false → (c : Cycle) (s : State) (xs rs : List ℕ) → array_after d s (narrow c) xs rs ≡ array_after d s c xs rs
high_byte_unstored = unread.narrow_array

-- The status of a proper state is a byte, so that the high byte of a status read is 0.
pub status_is_byte : (d : Device) (s : State) → improper d s ≡ false → s.status < 256
status_is_byte d s p = status_byte s.phase s.status (proper_parts d s p).status

-- Refusal 2 counts bytes: the lent array has as many units as the device exactly where its bytes are those of that many units.
pub two_counts_bytes : (d : Device) (array : List ℕ) → (length (lent d.part.word array) ≡ size_of d.part) ↔ (length array ≡ bytes_in d.part.word (size_of d.part))
two_counts_bytes = borders.two_counts_bytes

-- So does refusal 6: a cut needs the bytes of a unit for a program, two for a word, and those of the block for an erase.
pub six_counts_bytes : (part : Part) (s : State) (c : Cycle) (residue : ℕ)
    → short_residue part s c (units_in part.word residue)
    ≡ ((rp_low c.pins || vpp_low part c.pins) && ltb residue (bytes_in part.word (residue_for s.phase part s.address)))
six_counts_bytes = borders.six_counts_bytes

-- Begun: an accepted cycle begins what it starts ..
pub begun_accepted : (d : Device) (s : State) (c : Cycle) (n r : ℕ) → number_of d s c n r ≡ 0 → begun_by d s c n r ≡ starts_of d.part s c
begun_accepted = lives.begun_accepted

-- .. a refused one begins nothing ..
pub begun_refused : (d : Device) (s : State) (c : Cycle) (n r : ℕ) → (number_of d s c n r ≡ 0 → ⊥) → begun_by d s c n r ≡ Nothing
begun_refused = lives.begun_refused

-- .. and where no second write is awaited (a resume, for one) nothing begins.
pub begun_unawaited : (d : Device) (s : State) (c : Cycle) (n r : ℕ) → is_awaited s.phase ≡ false → begun_by d s c n r ≡ Nothing
begun_unawaited = lives.begun_unawaited

-- The states before and after tell the same.
pub begun_from_lem : (d : Device) (s : State) (c : Cycle) (n r : ℕ) → begun_by d s c n r ≡ begun_from d.part s (decide_of d s c n r).state
begun_from_lem = lives.begun_from_lem

-- The law of lives, for every cycle and every weight of operations: what ended or was cut and what is pending after weighs
-- as much as what began and what was pending before.
pub conserved : (f : Effect → ℕ) → f Nothing ≡ 0 → (d : Device) (s : State) (c : Cycle) (n r : ℕ)
    → f (operation_of (decide_of d s c n r).effect) + f (pending_of d.part (decide_of d s c n r).state) ≡ f (begun_by d s c n r) + f (pending_of d.part s)
conserved = lives.conserved

-- Wear: the counts after a cycle are those before it with one more where it begins an erase; nothing else moves them, no reset, no
-- cut, no resume, no refusal.
pub wear_after_lem : (d : Device) (s : State) (c : Cycle) (n r : ℕ) → (decide_of d s c n r).state.wear ≡ wear_after d s c n r
wear_after_lem = worn.wear_after_lem

-- Where refusals 1 to 6 do not apply, `after_judging` gives the cycle's answer ..
pub judged_answer : (d : Device) (s : State) (c : Cycle) (xs rs : List ℕ) → judge_of d s c (length xs) (length rs) ≡ 0 → answer_judged d s c xs rs ≡ answer_of d s c xs rs
judged_answer = passing.judged_answer

-- .. and leaves the array as the cycle does.
pub judged_array : (d : Device) (s : State) (c : Cycle) (xs rs : List ℕ) → judge_of d s c (length xs) (length rs) ≡ 0 → array_judged d s c xs rs ≡ array_after d s c xs rs
judged_array = passing.judged_array
