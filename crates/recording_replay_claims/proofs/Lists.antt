-- The lines of a whole trace recorded: the records that the model makes, printed.
use mathlib.Core.Path.{◌≡◌, refl, sym, ap, subst, ◌∙◌}
use mathlib.Core.Bool.{Bool, true, false, not, ◌||◌}
use mathlib.Core.List.{List, [], ◌∷◌, ◌++◌, append_assoc}
use Prim.Native.Nat.{ℕ, zero, suc, ◌+◌, ◌*◌, ◌<◌}
use native.Mathlib.Omega.{arith}
use lib.Dec.{ltb}
use lib.ListN.{length, take, drop, length-append}
use borrow.Author.Tests.{ltb-true, ltb-false}
use Rattle.std.specs.Prelude.{if◌then◌else◌}
use Rattle.common.proofs.Choice.{if_true, if_false, if_ind, or_left, or_right, unlike}
use Rattle.model_types.specs.declared.Cycle.{Cycle}
use Rattle.model_types.specs.declared.Phase.{Phase}
use Rattle.model_types.specs.declared.Phase.TheVariants.{Free, EraseAwaited, DataAwaited, Programming, Erasing, Suspending, Suspended}
use Rattle.model_types.specs.declared.State.{State}
use Rattle.model_types.specs.Cells.{Cells}
use Rattle.model.specs.declared.Seen.{Seen}
use Rattle.model.specs.declared.Seen.TheVariants.{NoData, Data, Refused}
use Rattle.model.proofs.Claims.{stays_cells}
use Rattle.trace_lines.specs.Lines.{is_line, cycle_stated, line_of, Fits}
use Rattle.trace_lines.proofs.Claims.{read_exactly, line_read, line_length as whole-line}
use Rattle.trace_replay.specs.Answers as answers
use Rattle.trace_replay.specs.Replays.{bench_t, BenchSound, line_step, array_by, good_lines, arrays_of}
use Rattle.trace_replay.proofs.Claims.{stays_sound}
use Rattle.trace_replay.proofs.Scans.{good_first, bad_first}
use Rattle.trace_replay.proofs.Rounds.{answer_to, array_to}
use Rattle.recording.specs.declared.Noted.{Noted}
use Rattle.recording.specs.Recordings.{starts, wrong_count, cuts_off, agrees, faulty}
use Rattle.recording.specs.Recordings as recordings
use Rattle.recording_lines.specs.Records.{answer_text, record_line_of, RecordFits}
use Rattle.recording_text.specs.Written.{text_of, AllFit}
use Rattle.recording_walk.specs.Lists.{Held, held_of, onward, left_by}
use Rattle.recording_claims.specs.Accepting.{Faultless}
use Rattle.recording_claims.specs.Made.{heard_of}
use Rattle.recording_claims.proofs.Firsts.{none_faulty, both_fine, head_fine, tail_fine}
use Rattle.recording_replay.specs.declared.Log.{Log}
use Rattle.recording_replay.specs.Recorded.{time_awaited, busy_of, refusal_number, first_line, first_number, answer_for, count_for, line_for, lines_from, log_from}
use Rattle.recording_replay.proofs.Rounds.{line_length, line_to, log_to, lines_none, lines_more, log_none, log_more}
use Rattle.recording_replay_claims.specs.Kept.{record_for, records_for}
use Rattle.recording_replay_claims.proofs.Steps.{never_zero, heard_fits, line_fine, line_leads}

-- the first k lines are good and none of their cycles is refused
abbrev pub Answered : ℕ → State → List ℕ → List ℕ → List ℕ → Type 0
Answered zero s xs rs text = Unit {0}
Answered (suc k) s xs rs text =
    (is_line (take 20 text) ≡ true) × (refusal_number (answer_to s xs rs text).seen ≡ 0) × Answered k (answer_to s xs rs text).state (array_to s xs rs text) rs (drop 20 text)

-- none of them cuts an operation
abbrev pub Uncut : ℕ → State → List ℕ → List ℕ → List ℕ → Type 0
Uncut zero s xs rs text = Unit {0}
Uncut (suc k) s xs rs text =
    (cuts_off bench_t.part s (cycle_stated (take 20 text)) ≡ false) × Uncut k (answer_to s xs rs text).state (array_to s xs rs text) rs (drop 20 text)

-- where the first number is 0 there is none
number_none : (a b : ℕ) → first_number a b ≡ 0 → (a ≡ 0) × (b ≡ 0)
unfolding first_number
number_none a b h = go (ltb 0 a) refl
  where
    go : (t : Bool) → ltb 0 a ≡ t → (a ≡ 0) × (b ≡ 0)
    go true e = absurd (let l = ltb-true 0 a e in let z : a ≡ 0 = sym (if_true (ltb 0 a) a b e) ∙ h in omega arith)
    go false e = let l = ltb-false 0 a e in (omega (arith, l), sym (if_false (ltb 0 a) a b e) ∙ h)

-- .. nor a first line
first_none : (a : ℕ) (hit : Bool) (n : ℕ) → 0 < n → first_line a hit n ≡ 0 → (a ≡ 0) × (hit ≡ false)
unfolding first_line
first_none a hit n l h = go (ltb 0 a) refl hit refl
  where
    go : (t : Bool) → ltb 0 a ≡ t → (b : Bool) → hit ≡ b → (a ≡ 0) × (hit ≡ false)
    go true e b f = absurd (let k = ltb-true 0 a e in let z : a ≡ 0 = sym (if_true (ltb 0 a) a (if hit then n else 0) e) ∙ h in omega arith)
    go false e true f = absurd (let z : n ≡ 0 = sym (if_false (ltb 0 a) a (if hit then n else 0) e ∙ if_true hit n 0 f) ∙ h in omega arith)
    go false e false f = let k = ltb-false 0 a e in (omega (arith, k), f)

-- a log without a refusal had none before
number_before : (k n : ℕ) (l : Log) (xs rs text : List ℕ) → (log_from k n l xs rs text).number ≡ 0 → l.number ≡ 0
number_before zero n l xs rs text h = sym (ap (λ (x : Log). x.number) (log_none n l xs rs text)) ∙ h
number_before (suc k) n l xs rs text h =
    (number_none l.number (refusal_number (answer_to l.state xs rs text).seen)
    (number_before k (suc n) (log_to n l xs rs text) (array_to l.state xs rs text) rs (drop 20 text) (sym (ap (λ (x : Log). x.number) (log_more k n l xs rs text)) ∙ h))).0

cut_before : (k n : ℕ) (l : Log) (xs rs text : List ℕ) → 0 < n → (log_from k n l xs rs text).cut ≡ 0 → l.cut ≡ 0
cut_before zero n l xs rs text p h = sym (ap (λ (x : Log). x.cut) (log_none n l xs rs text)) ∙ h
cut_before (suc k) n l xs rs text p h =
    (first_none l.cut (cuts_off bench_t.part l.state (cycle_stated (take 20 text))) n p
    (cut_before k (suc n) (log_to n l xs rs text) (array_to l.state xs rs text) rs (drop 20 text) (omega arith) (sym (ap (λ (x : Log). x.cut) (log_more k n l xs rs text)) ∙ h))).0

none_good : (k : ℕ) (text : List ℕ) → good_lines zero text ≡ suc k → ⊥
unfolding good_lines
none_good k text q = omega (arith, q)

pub all_answered : (k m n : ℕ) (l : Log) (xs rs text : List ℕ) → good_lines m text ≡ k → (log_from k n l xs rs text).number ≡ 0 → Answered k l.state xs rs text
all_answered zero m n l xs rs text g h = tt
all_answered (suc k) zero n l xs rs text g h = absurd (none_good k text g)
all_answered (suc k) (suc m) n l xs rs text g h =
    go (is_line (take 20 text)) refl (all_answered k m (suc n) (log_to n l xs rs text) (array_to l.state xs rs text) rs (drop 20 text))
  where
    rest : (log_from k (suc n) (log_to n l xs rs text) (array_to l.state xs rs text) rs (drop 20 text)).number ≡ 0
    rest = sym (ap (λ (x : Log). x.number) (log_more k n l xs rs text)) ∙ h

    go : (t : Bool) → is_line (take 20 text) ≡ t
        → (good_lines m (drop 20 text) ≡ k → (log_from k (suc n) (log_to n l xs rs text) (array_to l.state xs rs text) rs (drop 20 text)).number ≡ 0
        → Answered k (answer_to l.state xs rs text).state (array_to l.state xs rs text) rs (drop 20 text))
        → Answered (suc k) l.state xs rs text
    go true e more = (
      e,
      (number_none l.number (refusal_number (answer_to l.state xs rs text).seen) (number_before k (suc n) (log_to n l xs rs text) (array_to l.state xs rs text) rs (drop 20 text) rest)).1,
      more (let z : suc (good_lines m (drop 20 text)) ≡ suc k = sym (good_first m text e) ∙ g in omega (arith, z)) rest,
    )
    go false e more = absurd (let z : 0 ≡ suc k = sym (bad_first m text e) ∙ g in omega (arith, z))

pub all_uncut : (k n : ℕ) (l : Log) (xs rs text : List ℕ) → 0 < n → (log_from k n l xs rs text).cut ≡ 0 → Uncut k l.state xs rs text
all_uncut zero n l xs rs text p h = tt
all_uncut (suc k) n l xs rs text p h =
    let rest = sym (ap (λ (x : Log). x.cut) (log_more k n l xs rs text)) ∙ h in (
      (first_none l.cut (cuts_off bench_t.part l.state (cycle_stated (take 20 text))) n p (cut_before k (suc n) (log_to n l xs rs text) (array_to l.state xs rs text) rs (drop 20 text) (omega arith) rest)).1,
      all_uncut k (suc n) (log_to n l xs rs text) (array_to l.state xs rs text) rs (drop 20 text) (omega arith) rest,
    )

-- a line of a recording is the line of its record
answer_is : (seen : Seen) → ((m : ℕ) → seen ≡ Refused m → ⊥) → answer_for seen ≡ answer_text (heard_of seen)
unfolding answers.answer_text
answer_is NoData h = refl
answer_is (Data x) h = refl
answer_is (Refused m) h = absurd (h m refl)

-- a refusal has a number
accepted : (s : State) (c : Cycle) (xs rs : List ℕ) → refusal_number (line_step s c xs rs).seen ≡ 0 → (m : ℕ) → (line_step s c xs rs).seen ≡ Refused m → ⊥
accepted s c xs rs h zero e = never_zero s c xs rs e
accepted s c xs rs h (suc m) e = let z : suc m ≡ 0 = sym (ap refusal_number e) ∙ h in omega (arith, z)

stated : (line : List ℕ) → is_line line ≡ true → Fits (cycle_stated line) × (line_of (cycle_stated line) ≡ line)
stated line e = (read_exactly line (cycle_stated line)).0 (line_read line e)

line_is : (line : List ℕ) (s : State) (xs rs : List ℕ) → is_line line ≡ true → refusal_number (line_step s (cycle_stated line) xs rs).seen ≡ 0
    → line_for line (line_step s (cycle_stated line) xs rs).seen (busy_of bench_t s (cycle_stated line)) ≡ record_line_of (record_for s (cycle_stated line) xs rs)
line_is line s xs rs e h =
    let seen = (line_step s (cycle_stated line) xs rs).seen in
    let n = busy_of bench_t s (cycle_stated line) in
    append_assoc (take 19 line) (answer_for seen) (count_for n)
    ∙ (λ i. take 19 (sym (stated line e).1 i) ++ (answer_is seen (accepted s (cycle_stated line) xs rs h) i ++ count_for n))

-- .. and the lines are the text of the records
pub text_is : (k : ℕ) (s : State) (xs rs text : List ℕ) → Answered k s xs rs text → lines_from k s xs rs text ≡ text_of (records_for k s xs rs text)
text_is zero s xs rs text a = lines_none s xs rs text
text_is (suc k) s xs rs text a =
    let more = text_is k (answer_to s xs rs text).state (array_to s xs rs text) rs (drop 20 text) a.2 in
    lines_more k s xs rs text ∙ (λ i. line_is (take 20 text) s xs rs a.0 a.1 i ++ more i)

pub records_length : (k : ℕ) (s : State) (xs rs text : List ℕ) → length (records_for k s xs rs text) ≡ k
records_length zero s xs rs text = refl
records_length (suc k) s xs rs text = ap suc (records_length k (answer_to s xs rs text).state (array_to s xs rs text) rs (drop 20 text))

-- each record fits a line
count_fits : (s : State) (c : Cycle) → busy_of bench_t s c < 100000
unfolding busy_of
count_fits s c = if_ind (λ (n : ℕ). n < 100000) (starts bench_t.part s c) _ _ (λ e. phases s.phase) (λ e. omega arith)
  where
    phases : (ph : Phase) → time_awaited bench_t ph < 100000
    phases Free = omega arith
    phases EraseAwaited = omega arith
    phases DataAwaited = omega arith
    phases (Programming x) = omega arith
    phases Erasing = omega arith
    phases (Suspending n) = omega arith
    phases Suspended = omega arith

pub all_fit : (k : ℕ) (s : State) (xs rs text : List ℕ) → BenchSound s xs → Cells bench_t.part xs → Cells bench_t.part rs → Answered k s xs rs text → AllFit (records_for k s xs rs text)
unfolding array_by
all_fit zero s xs rs text b x r a = tt
all_fit (suc k) s xs rs text b x r a =
    let c = cycle_stated (take 20 text) in (
      ((stated (take 20 text) a.0).0, heard_fits s c xs rs b.proper x r, count_fits s c),
      all_fit k (answer_to s xs rs text).state (array_to s xs rs text) rs (drop 20 text) (stays_sound s c xs rs b) (stays_cells bench_t s c xs rs r x) r a.2,
    )

-- they are without fault, and lead where the lines lead
pub all_fine : (k n : ℕ) (l : Log) (xs rs text : List ℕ) → Answered k l.state xs rs text → Uncut k l.state xs rs text
    → (Faultless bench_t (held_of l.state xs) (records_for k l.state xs rs text))
    × (left_by bench_t (held_of l.state xs) (records_for k l.state xs rs text) ≡ held_of (log_from k n l xs rs text).state (arrays_of k l.state xs rs text))
unfolding arrays_of
all_fine zero n l xs rs text a u = (none_faulty bench_t (held_of l.state xs), ap (λ (x : Log). held_of x.state xs) (sym (log_none n l xs rs text)))
all_fine (suc k) n l xs rs text a u = go (all_fine k (suc n) (log_to n l xs rs text) (array_to l.state xs rs text) rs (drop 20 text) a.2 u.1)
  where
    v : Held
    v = held_of l.state xs

    c : Cycle
    c = cycle_stated (take 20 text)

    w : Held
    w = held_of (answer_to l.state xs rs text).state (array_to l.state xs rs text)

    more : List Noted
    more = records_for k (answer_to l.state xs rs text).state (array_to l.state xs rs text) rs (drop 20 text)

    leads : onward bench_t v (record_for l.state c xs rs) ≡ w
    leads = line_leads l.state c xs rs a.1 u.0

    go : (Faultless bench_t w more)
        × (left_by bench_t w more ≡ held_of (log_from k (suc n) (log_to n l xs rs text) (array_to l.state xs rs text) rs (drop 20 text)).state (arrays_of k (answer_to l.state xs rs text).state (array_to l.state xs rs text) rs (drop 20 text)))
        → (Faultless bench_t v (records_for (suc k) l.state xs rs text))
        × (left_by bench_t v (records_for (suc k) l.state xs rs text) ≡ held_of (log_from (suc k) n l xs rs text).state (arrays_of (suc k) l.state xs rs text))
    go m = (
      both_fine bench_t v (record_for l.state c xs rs) more (line_fine l.state c xs rs a.1 u.0) (subst (λ (x : Held). Faultless bench_t x more) (sym leads) m.0),
      ap (λ (x : Held). left_by bench_t x more) leads ∙ m.1
          ∙ ap (λ (x : Log). held_of x.state (arrays_of (suc k) l.state xs rs text)) (sym (log_more k n l xs rs text)),
    )

-- records without fault cut nothing
pub uncut_from : (k : ℕ) (s : State) (xs rs text : List ℕ) → Answered k s xs rs text → Faultless bench_t (held_of s xs) (records_for k s xs rs text) → Uncut k s xs rs text
unfolding faulty
uncut_from zero s xs rs text a f = tt
uncut_from (suc k) s xs rs text a f =
    go (uncut_from k (answer_to s xs rs text).state (array_to s xs rs text) rs (drop 20 text) a.2)
  where
    c : Cycle
    c = cycle_stated (take 20 text)

    r : Noted
    r = record_for s c xs rs

    more : List Noted
    more = records_for k (answer_to s xs rs text).state (array_to s xs rs text) rs (drop 20 text)

    whole : cuts_off bench_t.part s c ≡ false
    whole =
        or_right (wrong_count bench_t.part s r) (cuts_off bench_t.part s c)
        (or_left (wrong_count bench_t.part s r || cuts_off bench_t.part s c) (not (agrees (recordings.answer_to bench_t s r xs).seen r.heard)) (head_fine bench_t (held_of s xs) r more f))

    go : (Faultless bench_t (held_of (answer_to s xs rs text).state (array_to s xs rs text)) more → Uncut k (answer_to s xs rs text).state (array_to s xs rs text) rs (drop 20 text))
        → Uncut (suc k) s xs rs text
    go rest = (whole, rest (subst (λ (x : Held). Faultless bench_t x more) (line_leads s c xs rs a.1 whole) (tail_fine bench_t (held_of s xs) r more f)))

-- .. and the log of lines that cut nothing has no cut
first_zero : (a : ℕ) (hit : Bool) (n : ℕ) → a ≡ 0 → hit ≡ false → first_line a hit n ≡ 0
unfolding first_line
first_zero a hit n e h = rw (e, h) refl

pub cut_none : (k n : ℕ) (l : Log) (xs rs text : List ℕ) → l.cut ≡ 0 → Uncut k l.state xs rs text → (log_from k n l xs rs text).cut ≡ 0
cut_none zero n l xs rs text z u = ap (λ (x : Log). x.cut) (log_none n l xs rs text) ∙ z
cut_none (suc k) n l xs rs text z u =
    ap (λ (x : Log). x.cut) (log_more k n l xs rs text)
    ∙ cut_none k (suc n) (log_to n l xs rs text) (array_to l.state xs rs text) rs (drop 20 text)
    (first_zero l.cut (cuts_off bench_t.part l.state (cycle_stated (take 20 text))) n z u.0) u.1

-- 31 bytes for each line
pub lines_length : (k : ℕ) (s : State) (xs rs text : List ℕ) → Answered k s xs rs text → length (lines_from k s xs rs text) ≡ 31 * k
lines_length zero s xs rs text a = ap (λ (ys : List ℕ). length ys) (lines_none s xs rs text)
lines_length (suc k) s xs rs text a =
    let more = lines_length k (answer_to s xs rs text).state (array_to s xs rs text) rs (drop 20 text) a.2 in
    let rest = lines_from k (answer_to s xs rs text).state (array_to s xs rs text) rs (drop 20 text) in
    let one = line_length (take 20 text) (answer_to s xs rs text).seen (busy_of bench_t s (cycle_stated (take 20 text))) (omega (arith, whole-line (take 20 text) a.0)) in
    ap (λ (ys : List ℕ). length ys) (lines_more k s xs rs text) ∙ length-append (line_to s xs rs text) rest
    ∙ (let z : length (line_to s xs rs text) + length rest ≡ 31 * suc k = omega (arith, one, more) in z)
