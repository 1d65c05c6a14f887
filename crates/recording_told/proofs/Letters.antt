-- What a line that is said begins with.
use mathlib.Core.Path.{◌≡◌, refl, sym, ap, ◌∙◌}
use mathlib.Core.Bool.{Bool, true, false, ◌&&◌}
use mathlib.Core.List.{List}
use mathlib.Core.Logic.{◌↔◌}
use Prim.Native.Nat.{ℕ, ◌≤◌}
use native.Mathlib.Omega.{arith}
use lib.Dec.{eqb, ltb}
use lib.ListN.{length, get_or, take}
use borrow.Author.Tests.{eq-eqb, eqb-true}
use Rattle.std.specs.Prelude.{if◌then◌else◌}
use Rattle.common.proofs.Choice.{if_ind, and_left, unlike}
use Rattle.model_types.specs.declared.Phase.{Phase}
use Rattle.model_types.specs.declared.Phase.TheVariants.{Free, EraseAwaited, DataAwaited, Programming, Erasing, Suspending, Suspended}
use Rattle.model_states.specs.States.{fresh_state}
use Rattle.recording.specs.declared.Noted.{Noted}
use Rattle.recording_walk.specs.declared.Checked.{Checked}
use Rattle.recording_walk.specs.Lists.{Held, held_of, left_by, passed_by, ends_well, start_number, checked_of}
use Rattle.trace_replay.specs.Replays.{bench_t}
use Rattle.recording_text.specs.declared.Judged.{Judged}
use Rattle.recording_text.specs.Texts.{records_of, judged_of, array_judged}
use Rattle.recording_answer.specs.Lines.{bad_line, accepted_line, first_apart, place_text, lengths_text, array_text, end_text}
use Rattle.recording_told.specs.Tellings.{start_refused, later_text, told_of}
use Rattle.recording_told.specs.Inner.{fault_at, said_of}
use Rattle.recording_told.proofs.Said.{said, at_no_record}

-- the first letter
abbrev pub letter : List ℕ → ℕ
letter zs = get_or zs 0 0

array_letter : (promised xs : List ℕ) → letter (array_text promised xs) ≡ 116
unfolding array_text place_text lengths_text
array_letter promised xs =
    if_ind (λ (zs : List ℕ). letter zs ≡ 116) (eqb (length promised) (length xs)) _ _
    (λ e. if_ind (λ (zs : List ℕ). letter zs ≡ 116) (ltb (first_apart promised xs) (length xs)) _ _ (λ f. refl) (λ f. refl))
    (λ e. if_ind (λ (zs : List ℕ). letter zs ≡ 116) (ltb 0xFFFFFFFF (length xs)) _ _ (λ f. refl)
    (λ f. if_ind (λ (zs : List ℕ). letter zs ≡ 116) (ltb (length xs) (length promised)) _ _ (λ g. refl) (λ g. refl)))

end_letter : (ph : Phase) (promised xs : List ℕ) → letter (end_text ph promised xs) ≡ 116
end_letter Free promised xs = array_letter promised xs
end_letter EraseAwaited promised xs = refl
end_letter DataAwaited promised xs = refl
end_letter (Programming b) promised xs = refl
end_letter Erasing promised xs = refl
end_letter (Suspending n) promised xs = refl
end_letter Suspended promised xs = refl

module _ (text promised ys : List ℕ) (j : Judged) where
  abbrev line_by : Bool → Bool → Bool → Bool → List ℕ
  line_by a b c d =
      if a then
      (if b then fault_at text j.checked.at j.checked.state ys
      else (if c then (if d then accepted_line j.lines else end_text j.checked.state.phase promised ys) else bad_line j.bad))
      else start_refused j.checked.number

  back : (a b c d : Bool) → letter (line_by a b c d) ≡ 97 → (c ≡ true) × (d ≡ true)
  unfolding fault_at
  back false b c d h = absurd (omega (arith, h))
  back true true c d h = absurd (omega (arith, h))
  back true false false d h = absurd (omega (arith, h))
  back true false true false h = absurd (omega (arith, h, end_letter j.checked.state.phase promised ys))
  back true false true true h = (refl, refl)

  said_back : letter (said_of text j promised ys) ≡ 97 → (j.bad ≡ 0) × (j.checked.accepted ≡ true)
  unfolding said_of later_text
  said_back h =
      let p = back (eqb j.checked.number 0) (ltb j.checked.at j.lines) (eqb j.bad 0) j.checked.accepted h in
      (eqb-true j.bad 0 p.0, p.1)

later_letter : (bad n : ℕ) (b : Bool) (ph : Phase) (promised ys : List ℕ) → bad ≡ 0 → b ≡ true → letter (later_text bad n b ph promised ys) ≡ 97
unfolding later_text
later_letter bad n b ph promised ys e f = rw (eq-eqb bad 0 e, f) refl

-- accepted: nothing was refused, and no record is at fault
module _ (text promised xs : List ℕ) where
  abbrev rs : List Noted
  rs = records_of text

  abbrev v : Held
  v = held_of fresh_state xs

  abbrev i : ℕ
  i = passed_by bench_t v rs

  abbrev checked_by : Bool → Checked
  checked_by b =
      if b then record { number = 0; accepted = eqb i (length rs) && ends_well (left_by bench_t v rs) promised; at = i; state = (left_by bench_t v (take i rs)).state }
      else record { number = start_number bench_t fresh_state (length xs); accepted = false; at = 0; state = fresh_state }

  whole : (judged_of text promised xs).checked.accepted ≡ true → ((judged_of text promised xs).checked.number ≡ 0) × ((judged_of text promised xs).lines ≤ (judged_of text promised xs).checked.at)
  unfolding judged_of checked_of
  whole h = go (eqb (start_number bench_t fresh_state (length xs)) 0) h
    where
      go : (b : Bool) → (checked_by b).accepted ≡ true → ((checked_by b).number ≡ 0) × (length rs ≤ (checked_by b).at)
      go true e = (refl, let z = eqb-true i (length rs) (and_left (eqb i (length rs)) (ends_well (left_by bench_t v rs) promised) e) in omega (arith, z))
      go false e = absurd (unlike (sym e))

  pub accepted_exactly : (((judged_of text promised xs).bad ≡ 0) × ((judged_of text promised xs).checked.accepted ≡ true)) ↔ (letter (told_of text promised xs) ≡ 97)
  accepted_exactly = (forth, λ h. said_back text promised (array_judged text xs) (judged_of text promised xs) (ap letter (said text promised xs) ∙ h))
    where
      forth : ((judged_of text promised xs).bad ≡ 0) × ((judged_of text promised xs).checked.accepted ≡ true) → letter (told_of text promised xs) ≡ 97
      forth h =
          let j = judged_of text promised xs in
          let w = whole h.1 in
          ap letter (sym (at_no_record text promised xs (array_judged text xs) j refl refl w.0 w.1))
          ∙ later_letter j.bad j.lines j.checked.accepted j.checked.state.phase promised (array_judged text xs) h.0 h.1
