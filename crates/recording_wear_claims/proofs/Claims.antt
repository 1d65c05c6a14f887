-- What is claimed of the wear that a recording's text leaves, in one place.
use mathlib.Core.Path.{◌≡◌, refl, sym, ap, ◌∙◌}
use mathlib.Core.Bool.{Bool, true, false}
use mathlib.Core.List.{List, []}
use Prim.Native.Nat.{ℕ, ◌+◌, ◌≤◌, ◌<◌, min}
use native.Mathlib.Omega.{arith}
use lib.Dec.{ltb}
use lib.ListN.{length, replicate, length-replicate}
use lib.Seq.{take_all}
use borrow.Author.Tests.{ltb-false}
use Rattle.common.proofs.Choice.{if_true}
use Rattle.units.specs.Units.{lent_in}
use Rattle.device.specs.Parts.{row_of, is_large, unknown_part, unknown_device, shape_of, size_in, size_of}
use Rattle.model_types.specs.Counts.{stop, count_of}
use Rattle.model_states.specs.States.{fresh_state}
use Rattle.model_types.proofs.Wears.{count_unworn}
use Rattle.model_history.specs.History.{total_of, erase_of}
use Rattle.trace_replay.specs.Replays.{bench_t}
use Rattle.trace_replay.proofs.Claims.{fresh_sound}
use Rattle.recording.specs.declared.Noted.{Noted}
use Rattle.recording_walk.specs.declared.Checked.{Checked}
use Rattle.recording_walk.specs.Lists.{Held, held_of, left_by, passed_by, start_number, checked_of}
use Rattle.recording_claims.specs.Accepting.{Startable}
use Rattle.recording_claims.specs.Histories.{units_of, begun_in}
use Rattle.recording_claims.proofs.Claims.{wear_of_recording}
use Rattle.recording_claims.proofs.Verdicts.{unrefused, walked}
use Rattle.recording_text.specs.Texts.{records_of, judged_of}
use Rattle.recording_wear.specs.Recorded.{judged_blank, fault_in, fault_of}

abbrev blank : List ℕ
blank = replicate {A = ℕ} 16384 255

start : Startable bench_t fresh_state blank
unfolding unknown_device unknown_part is_large lent_in size_of size_in shape_of row_of
start = let e = length-replicate {A = ℕ} 16384 255 in record { known = refl; sized = e; proper = (fresh_sound blank e).proper; idle = refl }

number : start_number bench_t fresh_state (length blank) ≡ 0
number = unrefused bench_t fresh_state blank start

-- where there is no fault every record passed
no_fault : (lines bad at : ℕ) → fault_in lines bad at ≡ 0 → lines ≤ at
unfolding fault_in
no_fault lines bad at h = go (ltb at lines) refl
  where
    go : (t : Bool) → ltb at lines ≡ t → lines ≤ at
    go true e = absurd (let z : at + 1 ≡ 0 = sym (if_true (ltb at lines) (at + 1) bad e) ∙ h in omega (arith, z))
    go false e = ltb-false at lines e

-- the text's judgement, by its records
told : (text : List ℕ) → (judged_blank text).checked ≡ checked_of bench_t fresh_state (records_of text) [] blank
unfolding judged_blank judged_of
told text = refl

lines_told : (text : List ℕ) → (judged_blank text).lines ≡ length (records_of text)
unfolding judged_blank judged_of
lines_told text = refl

-- The count of a block that a recording without a fault leaves is the number of its erases that its records begin, up to the stop.
pub recording_counted : (text : List ℕ) → fault_of (judged_blank text) ≡ 0 → (k : ℕ) → k < 7
    → count_of (judged_blank text).checked.state.wear k ≡ min (total_of (erase_of k) (begun_in bench_t (units_of bench_t (held_of fresh_state blank)) (records_of text))) stop
recording_counted text h k l =
    let rs : List Noted = records_of text in
    let v : Held = held_of fresh_state blank in
    let zero : count_of fresh_state.wear k ≡ 0 = count_unworn k l in
    let w = walked bench_t fresh_state rs [] blank number in
    let q : (judged_blank text).lines ≤ (judged_blank text).checked.at = no_fault (judged_blank text).lines (judged_blank text).bad (judged_blank text).checked.at h in
    let p : (judged_blank text).checked.at ≡ passed_by bench_t v rs = ap (λ (c : Checked). c.at) (told text ∙ w) in
    let few : length rs ≤ passed_by bench_t v rs = omega (arith, p, q, lines_told text) in
    ap (λ (c : Checked). count_of c.state.wear k) (told text ∙ w)
    ∙ ap (λ (xs : List Noted). count_of (left_by bench_t v xs).state.wear k) (take_all (passed_by bench_t v rs) rs few)
    ∙ wear_of_recording bench_t v rs k l (omega (arith, zero))
    ∙ (let T : ℕ = total_of (erase_of k) (begun_in bench_t (units_of bench_t v) rs) in
    let e : count_of fresh_state.wear k + T ≡ T = omega (arith, zero) in
    ap (λ (n : ℕ). min n stop) e)
