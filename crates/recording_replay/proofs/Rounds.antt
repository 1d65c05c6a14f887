-- The lines of a recording: a round of the loop that writes them, and their length.
use mathlib.Core.Path.{◌≡◌, refl, sym, ap, subst, ◌∙◌}
use mathlib.Core.Bool.{Bool, true, false, not}
use mathlib.Core.List.{List, [], ◌++◌, append_assoc, append-nil}
use Prim.Native.Nat.{ℕ, zero, suc, ◌+◌, ◌-◌, ◌*◌, ◌≤◌, ◌<◌}
use native.Mathlib.Omega.{arith}
use lib.Dec.{eqb}
use lib.ListN.{length, take, drop, length-append, length-drop, take-append-drop}
use lib.Seq.{drop-drop, take_at, length-take-le}
use borrow.Rule.Slice.PartMut.{put_mid, mid_of, mid_len, drop_put}
use Rattle.common.specs.Lists.{copied}
use Rattle.common.proofs.Lists.{copied_whole}
use Rattle.model_types.specs.declared.State.{State}
use Rattle.model.specs.declared.Seen.{Seen}
use Rattle.trace_lines.specs.Lines.{cycle_stated}
use Rattle.trace_replay.specs.Answers.{answer_text}
use Rattle.trace_replay.specs.Replays.{bench_t, line_step, array_by, arrays_of}
use Rattle.trace_replay.proofs.Scans.{past}
use Rattle.trace_replay.proofs.Rounds.{answer_to, array_to, arrays_round}
use Rattle.recording_lines.specs.Records.{count_text}
use Rattle.recording_replay.specs.declared.Log.{Log}
use Rattle.recording_replay.specs.Recorded.{busy_of, log_by, answer_for, count_for, line_for, lines_from, log_from}

-- a line of a recording is 31 bytes long
answer_length : (seen : Seen) → length (answer_for seen) ≡ 5
unfolding answer_text
answer_length seen = refl

count_length : (b : Bool) (n : ℕ) → length (count_text b n) ≡ 7
count_length true n = refl
count_length false n = refl

pub line_length : (line : List ℕ) (seen : Seen) (n : ℕ) → 20 ≤ length line → length (line_for line seen n) ≡ 31
line_length line seen n h =
    length-append (take 19 line ++ answer_for seen) (count_for n)
    ∙ (let z : length (take 19 line ++ answer_for seen) + length (count_for n) ≡ 31 =
    omega (arith, length-append (take 19 line) (answer_for seen), length-take-le 19 line (omega arith), answer_length seen, count_length (not (eqb n 0)) n) in
    z)

-- the first line of a text: its line of a recording, and what is known after it
abbrev pub line_to : State → List ℕ → List ℕ → List ℕ → List ℕ
line_to s xs rs text = line_for (take 20 text) (answer_to s xs rs text).seen (busy_of bench_t s (cycle_stated (take 20 text)))

abbrev pub log_to : ℕ → Log → List ℕ → List ℕ → List ℕ → Log
log_to n l xs rs text = log_by bench_t l n (cycle_stated (take 20 text)) (answer_to l.state xs rs text)

pub lines_none : (s : State) (xs rs text : List ℕ) → lines_from zero s xs rs text ≡ []
unfolding lines_from
lines_none s xs rs text = refl

pub lines_more : (k : ℕ) (s : State) (xs rs text : List ℕ)
    → lines_from (suc k) s xs rs text ≡ line_to s xs rs text ++ lines_from k (answer_to s xs rs text).state (array_to s xs rs text) rs (drop 20 text)
unfolding lines_from
lines_more k s xs rs text = refl

pub log_none : (n : ℕ) (l : Log) (xs rs text : List ℕ) → log_from zero n l xs rs text ≡ l
unfolding log_from
log_none n l xs rs text = refl

pub log_more : (k n : ℕ) (l : Log) (xs rs text : List ℕ)
    → log_from (suc k) n l xs rs text ≡ log_from k (suc n) (log_to n l xs rs text) (array_to l.state xs rs text) rs (drop 20 text)
unfolding log_from
log_more k n l xs rs text = refl

pub lines_over : (g i : ℕ) (s : State) (xs rs text : List ℕ) → g ≤ i → lines_from (g - i) s xs rs text ≡ []
lines_over g i s xs rs text h = let k : g - i ≡ 0 = omega arith in ap (λ (n : ℕ). lines_from n s xs rs text) k ∙ lines_none s xs rs text

pub log_over : (g i n : ℕ) (l : Log) (xs rs text : List ℕ) → g ≤ i → log_from (g - i) n l xs rs text ≡ l
log_over g i n l xs rs text h = let k : g - i ≡ 0 = omega arith in ap (λ (m : ℕ). log_from m n l xs rs text) k ∙ log_none n l xs rs text

pub part_length : (g i : ℕ) (text : List ℕ) → i < g → 20 * g ≤ length text → length (take (20 * i + 20 - 20 * i) (drop (20 * i) text)) ≡ 20
part_length g i text h have =
    let m : 20 * i + 20 - 20 * i ≡ 20 = omega arith in
    ap (λ (k : ℕ). length (take k (drop (20 * i) text))) m ∙ length-take-le 20 (drop (20 * i) text) (omega (arith, length-drop (20 * i) text))

-- one round: line i of g
module _ (g i n : ℕ) (l t : Log) (xs ys zs rs text out : List ℕ) (h : i < g) (en : n ≡ i + 1) (have : 20 * g ≤ length text) (fits : 31 * g ≤ length out)
    (el : t ≡ log_by bench_t l n (cycle_stated (take (20 * i + 20 - 20 * i) (drop (20 * i) text))) (line_step l.state (cycle_stated (take (20 * i + 20 - 20 * i) (drop (20 * i) text))) xs rs))
    (ea : ys ≡ array_by l.state (cycle_stated (take (20 * i + 20 - 20 * i) (drop (20 * i) text))) xs rs)
    (eo : zs ≡ copied (mid_of (31 * i) (31 * i + 31 - 31 * i) out) (line_for (take (20 * i + 20 - 20 * i) (drop (20 * i) text)) (line_step l.state (cycle_stated (take (20 * i + 20 - 20 * i) (drop (20 * i) text))) xs rs).seen (busy_of bench_t l.state (cycle_stated (take (20 * i + 20 - 20 * i) (drop (20 * i) text)))))) where
  m : 20 * i + 20 - 20 * i ≡ 20
  m = omega arith

  room : 31 * i + 31 ≤ length out
  room = omega arith

  lo : t ≡ log_to (i + 1) l xs rs (drop (20 * i) text)
  lo =
      el ∙ (λ j. log_by bench_t l (en j) (cycle_stated (take (m j) (drop (20 * i) text))) (line_step l.state (cycle_stated (take (m j) (drop (20 * i) text))) xs rs))

  ar : ys ≡ array_to l.state xs rs (drop (20 * i) text)
  ar = ea ∙ ap (λ (k : ℕ). array_by l.state (cycle_stated (take k (drop (20 * i) text))) xs rs) m

  twenty : length (take 20 (drop (20 * i) text)) ≡ 20
  twenty = length-take-le 20 (drop (20 * i) text) (omega (arith, length-drop (20 * i) text))

  long : length (line_to l.state xs rs (drop (20 * i) text)) ≡ 31
  long =
      line_length (take 20 (drop (20 * i) text)) (answer_to l.state xs rs (drop (20 * i) text)).seen (busy_of bench_t l.state (cycle_stated (take 20 (drop (20 * i) text)))) (omega (arith, twenty))

  pr : zs ≡ line_to l.state xs rs (drop (20 * i) text)
  pr =
      eo
      ∙ ap (λ (k : ℕ). copied (mid_of (31 * i) (31 * i + 31 - 31 * i) out) (line_for (take k (drop (20 * i) text)) (line_step l.state (cycle_stated (take k (drop (20 * i) text))) xs rs).seen (busy_of bench_t l.state (cycle_stated (take k (drop (20 * i) text)))))) m
      ∙ copied_whole (mid_of (31 * i) (31 * i + 31 - 31 * i) out) (line_to l.state xs rs (drop (20 * i) text))
      (mid_len (31 * i) (31 * i + 31) out room ∙ (let e : 31 * i + 31 - 31 * i ≡ 31 = omega arith in e) ∙ sym long)

  wide : length zs ≡ 31
  wide = ap (λ (w : List ℕ). length w) pr ∙ long

  step : g - i ≡ suc (g - (i + 1))
  step = omega arith

  pub round_log : (A : Log) → log_from (g - i) (i + 1) l xs rs (drop (20 * i) text) ≡ A → log_from (g - (i + 1)) (i + 1 + 1) t ys rs (drop (20 * (i + 1)) text) ≡ A
  round_log A q =
      let e : i + 1 + 1 ≡ suc (i + 1) = omega arith in
      (λ j. log_from (g - (i + 1)) (e j) (lo j) (ar j) rs (sym (past i text) j)) ∙ sym (log_more (g - (i + 1)) (i + 1) l xs rs (drop (20 * i) text))
      ∙ ap (λ (k : ℕ). log_from k (i + 1) l xs rs (drop (20 * i) text)) (sym step) ∙ q

  pub round_array : (A : List ℕ) → arrays_of (g - i) l.state xs rs (drop (20 * i) text) ≡ A → arrays_of (g - (i + 1)) t.state ys rs (drop (20 * (i + 1)) text) ≡ A
  round_array A q =
      (λ j. arrays_of (g - (i + 1)) (lo j).state (ar j) rs (drop (20 * (i + 1)) text)) ∙ sym (arrays_round g i l.state xs rs text h) ∙ q

  put_take : take (31 * (i + 1)) (put_mid (31 * i) (31 * i + 31 - 31 * i) out zs) ≡ take (31 * i) out ++ zs
  put_take =
      let z : List ℕ = drop (31 * i + 31 - 31 * i) (drop (31 * i) out) in
      ap (λ (w : List ℕ). take (31 * (i + 1)) w) (sym (append_assoc (take (31 * i) out) zs z))
      ∙ take_at (take (31 * i) out ++ zs) z (31 * (i + 1))
      (length-append (take (31 * i) out) zs
      ∙ (let e : length (take (31 * i) out) + length zs ≡ 31 * (i + 1) = omega (arith, length-take-le (31 * i) out (omega arith), wide) in e))

  put_drop : drop (31 * (i + 1)) (put_mid (31 * i) (31 * i + 31 - 31 * i) out zs) ≡ drop (31 * (i + 1)) out
  put_drop =
      let e : 31 * i + 31 ≡ 31 * (i + 1) = omega arith in
      let k : length zs ≡ 31 * i + 31 - 31 * i = omega (arith, wide) in
      subst (λ (j : ℕ). drop j (put_mid (31 * i) (31 * i + 31 - 31 * i) out zs) ≡ drop j out) e (drop_put (31 * i) (31 * i + 31) out zs (omega arith) room k)

  pub round_out : (C : List ℕ) → take (31 * i) out ++ lines_from (g - i) l.state xs rs (drop (20 * i) text) ≡ C
      → take (31 * (i + 1)) (put_mid (31 * i) (31 * i + 31 - 31 * i) out zs) ++ lines_from (g - (i + 1)) t.state ys rs (drop (20 * (i + 1)) text) ≡ C
  round_out C q =
      let P : List ℕ = line_to l.state xs rs (drop (20 * i) text) in
      let R : List ℕ = lines_from (g - (i + 1)) (answer_to l.state xs rs (drop (20 * i) text)).state (array_to l.state xs rs (drop (20 * i) text)) rs (drop 20 (drop (20 * i) text)) in
      let r : lines_from (g - (i + 1)) t.state ys rs (drop (20 * (i + 1)) text) ≡ R =
      (λ j. lines_from (g - (i + 1)) (lo j).state (ar j) rs (sym (past i text) j)) in
      (λ j. put_take j ++ r j) ∙ ap (λ (v : List ℕ). (take (31 * i) out ++ v) ++ R) pr ∙ append_assoc (take (31 * i) out) P R
      ∙ ap (λ (v : List ℕ). take (31 * i) out ++ v)
      (sym (lines_more (g - (i + 1)) l.state xs rs (drop (20 * i) text)) ∙ ap (λ (k : ℕ). lines_from k l.state xs rs (drop (20 * i) text)) (sym step))
      ∙ q

  pub round_rest : (out₀ : List ℕ) → drop (31 * i) out ≡ drop (31 * i) out₀ → drop (31 * (i + 1)) (put_mid (31 * i) (31 * i + 31 - 31 * i) out zs) ≡ drop (31 * (i + 1)) out₀
  round_rest out₀ q =
      let e : 31 * i + 31 ≡ 31 * (i + 1) = omega arith in
      put_drop
      ∙ subst (λ (j : ℕ). drop j out ≡ drop j out₀) e (sym (drop-drop 31 (31 * i) out) ∙ ap (λ (w : List ℕ). drop 31 w) q ∙ drop-drop 31 (31 * i) out₀)

-- after the last round: the lines, and past them what was there
pub round_over : (g i : ℕ) (s : State) (xs rs text out out₀ C : List ℕ) → i ≡ g → take (31 * i) out ++ lines_from (g - i) s xs rs (drop (20 * i) text) ≡ C
    → drop (31 * i) out ≡ drop (31 * i) out₀ → out ≡ C ++ drop (31 * g) out₀
round_over g i s xs rs text out out₀ C e q r =
    let z : g ≤ i = omega arith in
    sym (take-append-drop (31 * i) out)
    ∙ ap (λ (w : List ℕ). w ++ drop (31 * i) out) (sym (append-nil (take (31 * i) out)) ∙ ap (λ (w : List ℕ). take (31 * i) out ++ w) (sym (lines_over g i s xs rs (drop (20 * i) text) z)) ∙ q)
    ∙ ap (λ (w : List ℕ). C ++ w) (r ∙ ap (λ (k : ℕ). drop (31 * k) out₀) e)
