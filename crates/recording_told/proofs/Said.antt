-- What the code says by the judgement is what is to be said.
use mathlib.Core.Path.{◌≡◌, refl, sym, ap, ap₂, ◌∙◌, subst}
use mathlib.Core.Bool.{Bool, true, false, ◌&&◌}
use mathlib.Core.List.{List}
use Prim.Native.Nat.{ℕ, ◌+◌, ◌*◌, ◌≤◌, ◌<◌}
use native.Mathlib.Omega.{arith}
use lib.Dec.{eqb, ltb}
use lib.ListN.{length, take, drop}
use lib.Seq.{take_all}
use borrow.Author.Tests.{lt-ltb, le-ltb, ltb-true, ltb-false, eq-eqb, ne_eqb}
use Rattle.std.specs.Prelude.{if◌then◌else◌}
use Rattle.device.specs.declared.Device.{Device}
use Rattle.model_types.specs.declared.State.{State}
use Rattle.model_states.specs.States.{fresh_state}
use Rattle.recording.specs.declared.Noted.{Noted}
use Rattle.recording.specs.declared.Why.{Why}
use Rattle.recording.specs.Recordings.{why_of}
use Rattle.recording_lines.specs.Records.{record_stated}
use Rattle.recording_walk.specs.Lists.{Held, held_of, left_by, passed_by, ends_well, start_number, checked_of, bytes_checked}
use Rattle.recording_walk.proofs.Going.{passed_most}
use Rattle.trace_replay.specs.Replays.{bench_t}
use Rattle.recording_text.specs.declared.Judged.{Judged}
use Rattle.recording_text.specs.Texts.{records_of, bad_after, judged_of, array_judged}
use Rattle.recording_text.proofs.Rounds.{few}
use Rattle.recording_answer.specs.Lines.{fault_line}
use Rattle.recording_told.specs.Tellings.{start_refused, told_from, later_text, ended_text, told_of}
use Rattle.recording_told.specs.Inner.{stated_at, fault_at, said_of}
use Rattle.recording_told.proofs.Firsts.{told_in, at_fault, none_at_fault, lines_lie}

module _ (text promised xs : List ℕ) where
  abbrev rs : List Noted
  rs = records_of text

  abbrev v : Held
  v = held_of fresh_state xs

  abbrev i : ℕ
  i = passed_by bench_t v rs

  abbrev w : Held
  w = left_by bench_t v (take i rs)

  abbrev bad : ℕ
  bad = bad_after (length rs) (length text)

  abbrev number : ℕ
  number = start_number bench_t fresh_state (length xs)

  abbrev after : List ℕ
  after = ended_text bad (length rs) (left_by bench_t v rs) promised

  -- a record is at fault
  first : i < length rs → fault_at text i w.state w.bytes ≡ told_from 1 bench_t v rs after
  unfolding fault_at
  first h =
      let z : Noted = stated_at text i in
      let l = lines_lie 9998 i text z h in
      sym (at_fault 1 bench_t v rs after z h ∙ ap₂ (λ (n : ℕ) (r : Noted). told_in n bench_t w r) (let e : 1 + i ≡ i + 1 = omega arith in e) l.0)

  -- none is
  later : length rs ≤ i → later_text bad (length rs) (eqb i (length rs) && ends_well (left_by bench_t v rs) promised) w.state.phase promised w.bytes ≡ told_from 1 bench_t v rs after
  later h =
      let m = passed_most bench_t v rs in
      let e : eqb i (length rs) ≡ true = eq-eqb i (length rs) (omega arith) in
      ap₂ (λ (b : Bool) (u : Held). later_text bad (length rs) (b && ends_well (left_by bench_t v rs) promised) u.state.phase promised u.bytes) e
      (ap (left_by bench_t v) (take_all i rs h)) ∙ sym (none_at_fault 1 bench_t v rs after h)

  pub said : said_of text (judged_of text promised xs) promised (array_judged text xs) ≡ told_of text promised xs
  unfolding said_of judged_of array_judged checked_of bytes_checked told_of
  said = go (eqb number 0) refl
    where
      inside : (b : Bool) → ltb i (length rs) ≡ b
          → (if b then fault_at text i w.state w.bytes else later_text bad (length rs) (eqb i (length rs) && ends_well (left_by bench_t v rs) promised) w.state.phase promised w.bytes)
          ≡ told_from 1 bench_t v rs after
      inside true e = first (ltb-true i (length rs) e)
      inside false e = later (ltb-false i (length rs) e)

      go : (b : Bool) → eqb number 0 ≡ b → said_of text (judged_of text promised xs) promised (array_judged text xs) ≡ told_of text promised xs
      go true e = rw e (inside (ltb i (length rs)) refl)
      go false e = rw e (rw e refl)

  -- how far it has come, where nothing is refused: so many lines, and the one at fault lies in the text
  pub lines_few : (judged_of text promised xs).lines ≤ 9998
  unfolding judged_of
  lines_few = few 9998 text

  pub bad_few : (judged_of text promised xs).bad ≤ 9999
  unfolding judged_of bad_after
  bad_few = let l = few 9998 text in go (ltb (31 * length rs) (length text)) l
    where
      go : (b : Bool) → length rs ≤ 9998 → (if b then length rs + 1 else 0) ≤ 9999
      go true h = omega (arith, h)
      go false h = omega arith

  pub fault_lies : (k : ℕ) → k < (judged_of text promised xs).lines → (k ≤ 9997) × (31 * k + 31 ≤ length text)
  unfolding judged_of
  fault_lies k h = let l = few 9998 text in (omega (arith, h, l), (lines_lie 9998 k text (stated_at text k) h).1)

-- a line's record read off the text, and why it is at fault
pub first_by : (text : List ℕ) (k : ℕ) (s : State) (xs : List ℕ) (n : ℕ) (r : Noted) (d : Device) (y : Why) → n ≡ 31 → r ≡ record_stated (take n (drop (31 * k) text)) → d ≡ bench_t
    → y ≡ why_of d s r xs → fault_line (k + 1) r.heard y ≡ fault_at text k s xs
unfolding fault_at
first_by text k s xs n r d y a b c e =
    let p : r ≡ stated_at text k = b ∙ ap (λ (m : ℕ). record_stated (take m (drop (31 * k) text))) a in
    let q : y ≡ why_of bench_t s (stated_at text k) xs = e ∙ ap₂ (λ (u : Device) (t : Noted). why_of u s t xs) c p in
    λ j. fault_line (k + 1) (p j).heard (q j)

-- by the judgement: the ways of the code
module _ (text promised ys : List ℕ) (j : Judged) where
  refused_way : (j.checked.number ≡ 0 → ⊥) → said_of text j promised ys ≡ start_refused j.checked.number
  unfolding said_of
  refused_way h = rw (ne_eqb j.checked.number 0 h) refl

  record_way : j.checked.number ≡ 0 → j.checked.at < j.lines → said_of text j promised ys ≡ fault_at text j.checked.at j.checked.state ys
  unfolding said_of
  record_way h l = rw (eq-eqb j.checked.number 0 h, lt-ltb j.checked.at j.lines l) refl

  later_way : j.checked.number ≡ 0 → j.lines ≤ j.checked.at → said_of text j promised ys ≡ later_text j.bad j.lines j.checked.accepted j.checked.state.phase promised ys
  unfolding said_of
  later_way h l = rw (eq-eqb j.checked.number 0 h, le-ltb j.checked.at j.lines l) refl

-- way by way, by the judgement in hand
module _ (text promised xs ys : List ℕ) (j : Judged) (p : j ≡ judged_of text promised xs) (q : ys ≡ array_judged text xs) where
  same : said_of text j promised ys ≡ told_of text promised xs
  same = ap₂ (λ (u : Judged) (zs : List ℕ). said_of text u promised zs) p q ∙ said text promised xs

  pub refused : (j.checked.number ≡ 0 → ⊥) → start_refused j.checked.number ≡ told_of text promised xs
  refused h = sym (refused_way text promised ys j h) ∙ same

  pub at_a_record : j.checked.number ≡ 0 → j.checked.at < j.lines → fault_at text j.checked.at j.checked.state ys ≡ told_of text promised xs
  at_a_record h l = sym (record_way text promised ys j h l) ∙ same

  pub at_no_record : j.checked.number ≡ 0 → j.lines ≤ j.checked.at → later_text j.bad j.lines j.checked.accepted j.checked.state.phase promised ys ≡ told_of text promised xs
  at_no_record h l = sym (later_way text promised ys j h l) ∙ same

  pub within : (k : ℕ) → k < j.lines → (k ≤ 9997) × (31 * k + 31 ≤ length text)
  within k h = fault_lies text promised xs k (subst (λ (u : Judged). k < u.lines) p h)

  pub few_lines : (j.bad ≤ 9999) × (j.lines ≤ 9998)
  few_lines = (subst (λ (u : Judged). u.bad ≤ 9999) (sym p) (bad_few text promised xs), subst (λ (u : Judged). u.lines ≤ 9998) (sym p) (lines_few text promised xs))
