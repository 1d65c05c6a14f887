-- A whole trace recorded: what is written, and that the check accepts it.
use mathlib.Core.Path.{◌≡◌, refl, sym, ap, subst, ◌∙◌}
use mathlib.Core.Bool.{Bool, true, false}
use mathlib.Core.List.{List, ◌++◌}
use mathlib.Core.Logic.{◌↔◌}
use Prim.Native.Nat.{ℕ, ◌+◌, ◌*◌}
use native.Mathlib.Omega.{arith}
use lib.Dec.{eqb, ltb}
use lib.ListN.{length, take, drop}
use lib.Seq.{take_at}
use borrow.Author.Tests.{ltb-false}
use Rattle.std.specs.Prelude.{if◌then◌else◌}
use Rattle.common.specs.Lists.{Bytes}
use Rattle.common.proofs.Choice.{if_true, if_false, unlike}
use Rattle.units.specs.Units.{top, lent_in, torn}
use Rattle.device.specs.Parts.{row_of, is_large, unknown_part, unknown_device, shape_of, size_in, size_of}
use Rattle.model_types.specs.Cells.{ones, Cells}
use Rattle.model_types.specs.Phases.{is_free}
use Rattle.model_states.specs.States.{fresh_state}
use Rattle.trace_replay.specs.Replays.{bench_t, good_lines, arrays_of}
use Rattle.trace_replay.proofs.Claims.{fresh_sound, good_most}
use Rattle.trace_replay.proofs.Scans.{good_fit}
use Rattle.recording.specs.declared.Noted.{Noted}
use Rattle.recording_walk.specs.Lists.{Held, held_of, left_by, checked_of}
use Rattle.recording_text.specs.declared.Judged.{Judged}
use Rattle.recording_text.specs.Texts.{judged_of}
use Rattle.recording_text.specs.Written.{text_of, AllFit}
use Rattle.recording_text.proofs.Claims.{judged_as}
use Rattle.recording_text.proofs.Written.{text_length}
use Rattle.recording_claims.specs.Accepting.{Faultless, Startable, Accepts}
use Rattle.recording_claims.proofs.Verdicts.{accepted_is, is_accepted}
use Rattle.recording_replay.specs.declared.Log.{Log}
use Rattle.recording_replay.specs.declared.Made.{Made}
use Rattle.recording_replay.specs.Recorded.{lines_from, log_from, no_log, bad_behind, used_for, made_from, no_room, trace_made, array_made, out_made}
use Rattle.recording_replay_claims.specs.Kept.{records_for}
use Rattle.recording_replay_claims.proofs.Lists.{Answered, Uncut, all_answered, all_uncut, text_is, records_length, all_fit, all_fine, uncut_from, cut_none, lines_length}

-- how many bytes are used
all_used : (number bad g : ℕ) → number ≡ 0 → bad ≡ 0 → used_for number bad g ≡ 31 * g
unfolding used_for
all_used number bad g e f = rw (e, f) refl

none_used : (number bad g : ℕ) → ((number ≡ 0) × (bad ≡ 0) → ⊥) → used_for number bad g ≡ 0
unfolding used_for
none_used number bad g never = go (ltb 0 number) refl (ltb 0 bad) refl
  where
    go : (t : Bool) → ltb 0 number ≡ t → (u : Bool) → ltb 0 bad ≡ u → used_for number bad g ≡ 0
    go true e u f = if_true (ltb 0 number) 0 (if ltb 0 bad then 0 else 31 * g) e
    go false e true f = if_false (ltb 0 number) 0 (if ltb 0 bad then 0 else 31 * g) e ∙ if_true (ltb 0 bad) 0 (31 * g) f
    go false e false f = absurd (never (let k = ltb-false 0 number e in omega (arith, k), let k = ltb-false 0 bad f in omega (arith, k)))

-- without a refusal the room is long enough
module _ (room : ℕ) (xs rs text : List ℕ) where
  abbrev g : ℕ
  g = good_lines 9998 text

  abbrev log : Log
  log = log_from g 1 no_log xs rs text

  abbrev rows : List Noted
  rows = records_for g fresh_state xs rs text

  room_enough : (trace_made room xs rs text).number ≡ 0 → ltb room (31 * g) ≡ false
  unfolding trace_made
  room_enough h = go (ltb room (31 * g)) refl
    where
      go : (t : Bool) → ltb room (31 * g) ≡ t → ltb room (31 * g) ≡ false
      go true e = absurd (let z : 37 ≡ 0 = sym (ap (λ (m : Made). m.number) (if_true (ltb room (31 * g)) no_room (made_from g (bad_behind g (length text)) log) e)) ∙ h in omega (arith, z))
      go false e = e

  module _ (h : (trace_made room xs rs text).number ≡ 0) where
    made_is : trace_made room xs rs text ≡ made_from g (bad_behind g (length text)) log
    unfolding trace_made
    made_is = if_false (ltb room (31 * g)) no_room (made_from g (bad_behind g (length text)) log) (room_enough h)

    array_is : array_made room xs rs text ≡ arrays_of g fresh_state xs rs text
    unfolding array_made
    array_is = if_false (ltb room (31 * g)) xs (arrays_of g fresh_state xs rs text) (room_enough h)

    answered : Answered g fresh_state xs rs text
    answered = all_answered g 9998 1 no_log xs rs text refl (sym (ap (λ (m : Made). m.number) made_is) ∙ h)

    pub text_whole : lines_from g fresh_state xs rs text ≡ text_of rows
    text_whole = text_is g fresh_state xs rs text answered

    fine_number : log.number ≡ 0
    fine_number = sym (ap (λ (m : Made). m.number) made_is) ∙ h

    bytes_cells : (ys : List ℕ) → Bytes ys → Cells bench_t.part ys
    unfolding ones
    bytes_cells ys b i = let k = b i in omega (arith, k)

    module _ (long : length xs ≡ 16384) (bx : Bytes xs) (br : Bytes rs) where
      fit : AllFit rows
      fit = all_fit g fresh_state xs rs text (fresh_sound xs long) (bytes_cells xs bx) (bytes_cells rs br) answered

      judged : judged_of (text_of rows) (array_made room xs rs text) xs
          ≡ record { lines = length rows; bad = 0; checked = checked_of bench_t fresh_state rows (array_made room xs rs text) xs }
      judged = judged_as rows (array_made room xs rs text) xs fit (omega (arith, records_length g fresh_state xs rs text, good_most 9998 text))

      start : Startable bench_t fresh_state xs
      unfolding unknown_device unknown_part is_large lent_in size_of size_in shape_of row_of
      start = record { known = refl; sized = long; proper = (fresh_sound xs long).proper; idle = refl }

      told : (judged_of (text_of rows) (array_made room xs rs text) xs).checked.accepted ≡ (checked_of bench_t fresh_state rows (array_made room xs rs text) xs).accepted
      told = ap (λ (j : Judged). j.checked.accepted) judged

      only : (checked_of bench_t fresh_state rows (array_made room xs rs text) xs).accepted ≡ true → (log.cut ≡ 0) × (is_free log.state.phase ≡ true)
      only e =
          let a = accepted_is bench_t fresh_state rows (array_made room xs rs text) xs e in
          let u = uncut_from g fresh_state xs rs text answered a.faultless in
          let f = all_fine g 1 no_log xs rs text answered u in
          (cut_none g 1 no_log xs rs text refl u, ap (λ (w : Held). is_free w.state.phase) (sym f.1) ∙ a.ends.idle)

      whenever : log.cut ≡ 0 → is_free log.state.phase ≡ true → (checked_of bench_t fresh_state rows (array_made room xs rs text) xs).accepted ≡ true
      whenever z free =
          let f = all_fine g 1 no_log xs rs text answered (all_uncut g 1 no_log xs rs text (omega arith) z) in
          is_accepted bench_t fresh_state rows (array_made room xs rs text) xs
          (record {
            start = start;
            faultless = f.0;
            ends = record { idle = ap (λ (w : Held). is_free w.state.phase) f.1 ∙ free; array = ap (λ (w : Held). w.bytes) f.1 ∙ sym array_is };
          })

      cut_is : (trace_made room xs rs text).cut ≡ log.cut
      cut_is = ap (λ (m : Made). m.cut) made_is

      idle_is : (trace_made room xs rs text).idle ≡ is_free log.state.phase
      idle_is = ap (λ (m : Made). m.idle) made_is

      pub exactly : ((judged_of (text_of rows) (array_made room xs rs text) xs).bad ≡ 0)
          × (((judged_of (text_of rows) (array_made room xs rs text) xs).checked.accepted ≡ true) ↔ (((trace_made room xs rs text).cut ≡ 0) × ((trace_made room xs rs text).idle ≡ true)))
      exactly = (
        ap (λ (j : Judged). j.bad) judged,
        (
          λ e. let o = only (sym told ∙ e) in (cut_is ∙ o.0, idle_is ∙ o.1),
          λ p. told ∙ whenever (sym cut_is ∙ p.0) (sym idle_is ∙ p.1),
        ),
      )

    -- no bad line: nothing is left over, and every line's bytes are used
    module _ (b : (trace_made room xs rs text).bad ≡ 0) where
      bad_is : bad_behind g (length text) ≡ 0
      bad_is = sym (ap (λ (m : Made). m.bad) made_is) ∙ b

      pub whole_text : 20 * g ≡ length text
      unfolding bad_behind
      whole_text = go (ltb (20 * g) (length text)) refl
        where
          go : (t : Bool) → ltb (20 * g) (length text) ≡ t → 20 * g ≡ length text
          go true e = absurd (let z : g + 1 ≡ 0 = sym (if_true (ltb (20 * g) (length text)) (g + 1) 0 e) ∙ bad_is in omega (arith, z))
          go false e = let k = ltb-false (20 * g) (length text) e in omega (arith, k, good_fit 9998 text)

      used_is : (trace_made room xs rs text).used ≡ 31 * g
      used_is = ap (λ (m : Made). m.used) made_is ∙ all_used log.number (bad_behind g (length text)) g fine_number bad_is

pub written : (out xs rs text : List ℕ) → (trace_made (length out) xs rs text).number ≡ 0 → (trace_made (length out) xs rs text).bad ≡ 0
    → (take (trace_made (length out) xs rs text).used (out_made out xs rs text) ≡ text_of (records_for (good_lines 9998 text) fresh_state xs rs text))
    × (20 * good_lines 9998 text ≡ length text)
unfolding out_made
written out xs rs text h b =
    let n = good_lines 9998 text in
    let L = lines_from n fresh_state xs rs text in
    let o : out_made out xs rs text ≡ L ++ drop (31 * n) out = if_false (ltb (length out) (31 * n)) out (L ++ drop (31 * n) out) (room_enough (length out) xs rs text h) in (
      (λ i. take (used_is (length out) xs rs text h b i) (o i)) ∙ take_at L (drop (31 * n) out) (31 * n) (lines_length n fresh_state xs rs text (answered (length out) xs rs text h))
          ∙ text_whole (length out) xs rs text h,
      whole_text (length out) xs rs text h b,
    )

pub accepted : (room : ℕ) (xs rs text : List ℕ) → length xs ≡ 16384 → Bytes xs → Bytes rs → (trace_made room xs rs text).number ≡ 0
    → ((judged_of (text_of (records_for (good_lines 9998 text) fresh_state xs rs text)) (array_made room xs rs text) xs).bad ≡ 0)
    × (((judged_of (text_of (records_for (good_lines 9998 text) fresh_state xs rs text)) (array_made room xs rs text) xs).checked.accepted ≡ true)
    ↔ (((trace_made room xs rs text).cut ≡ 0) × ((trace_made room xs rs text).idle ≡ true)))
accepted room xs rs text long bx br h = exactly room xs rs text h long bx br

pub none_written : (room : ℕ) (xs rs text : List ℕ) → (((trace_made room xs rs text).number ≡ 0) × ((trace_made room xs rs text).bad ≡ 0) → ⊥) → (trace_made room xs rs text).used ≡ 0
unfolding trace_made
none_written room xs rs text never = go (ltb room (31 * n)) refl
  where
    n : ℕ
    n = good_lines 9998 text

    M : Made
    M = made_from (good_lines 9998 text) (bad_behind (good_lines 9998 text) (length text)) (log_from (good_lines 9998 text) 1 no_log xs rs text)

    go : (t : Bool) → ltb room (31 * n) ≡ t → (trace_made room xs rs text).used ≡ 0
    go true e = ap (λ (m : Made). m.used) (if_true (ltb room (31 * n)) no_room M e)
    go false e =
        let q = if_false (ltb room (31 * n)) no_room M e in
        ap (λ (m : Made). m.used) q
        ∙ none_used M.number M.bad n (λ p. never (ap (λ (m : Made). m.number) q ∙ p.0, ap (λ (m : Made). m.bad) q ∙ p.1))
