-- The answers to the good lines: a round of the loop that writes them, their length, and the whole output that they begin.
use mathlib.Core.Path.{◌≡◌, refl, sym, ap, ◌∙◌, subst}
use mathlib.Core.Bool.{Bool, true, false}
use mathlib.Core.List.{List, [], ◌++◌, append_assoc, append-nil}
use Prim.Native.Nat.{ℕ, zero, suc, ◌+◌, ◌-◌, ◌*◌, ◌≤◌, ◌<◌}
use native.Mathlib.Omega.{arith}
use lib.Dec.{eqb}
use lib.ListN.{length, take, drop, length-append, length-drop, take-append-drop}
use borrow.Author.Tests.{eq-eqb}
use lib.Seq.{take-nil, drop-drop, take_at, drop_at, length-take-le, take_all}
use borrow.Rule.Slice.PartMut.{put_mid, mid_of, mid_len, drop_put}
use Rattle.std.specs.Prelude.{if◌then◌else◌}
use Rattle.common.proofs.Choice.{if_true}
use Rattle.common.specs.Lists.{copied}
use Rattle.common.proofs.Lists.{copied_whole}
use Rattle.model_types.specs.declared.State.{State}
use Rattle.model.specs.declared.Answer.{Answer}
use Rattle.trace_lines.specs.Lines.{is_line, cycle_stated}
use Rattle.trace_replay.specs.Answers.{answer_text, printed_of, mark_of, trace_end}
use Rattle.trace_replay.specs.Replays.{line_step, array_by, good_lines, answers_of, arrays_of, output_from, array_from}
use Rattle.trace_replay.proofs.Scans.{past}

-- an answer is eight bytes long
pub answer_length : (a : Answer) → length (printed_of a) ≡ 8
unfolding answer_text
answer_length a = refl

-- the answer to the first line of a text, and the state and array after it
abbrev pub answer_to : State → List ℕ → List ℕ → List ℕ → Answer
answer_to s xs rs text = line_step s (cycle_stated (take 20 text)) xs rs

abbrev pub array_to : State → List ℕ → List ℕ → List ℕ → List ℕ
array_to s xs rs text = array_by s (cycle_stated (take 20 text)) xs rs

answers_none : (s : State) (xs rs text : List ℕ) → answers_of zero s xs rs text ≡ []
unfolding answers_of
answers_none s xs rs text = refl

answers_more : (k : ℕ) (s : State) (xs rs text : List ℕ)
    → answers_of (suc k) s xs rs text ≡ printed_of (answer_to s xs rs text) ++ answers_of k (answer_to s xs rs text).state (array_to s xs rs text) rs (drop 20 text)
unfolding answers_of
answers_more k s xs rs text = refl

arrays_none : (s : State) (xs rs text : List ℕ) → arrays_of zero s xs rs text ≡ xs
unfolding arrays_of
arrays_none s xs rs text = refl

arrays_more : (k : ℕ) (s : State) (xs rs text : List ℕ)
    → arrays_of (suc k) s xs rs text ≡ arrays_of k (answer_to s xs rs text).state (array_to s xs rs text) rs (drop 20 text)
unfolding arrays_of
arrays_more k s xs rs text = refl

-- eight bytes for each line
pub answers_length : (k : ℕ) (s : State) (xs rs text : List ℕ) → length (answers_of k s xs rs text) ≡ 8 * k
answers_length zero s xs rs text = ap (λ (l : List ℕ). length l) (answers_none s xs rs text)
answers_length (suc k) s xs rs text =
    go (answers_of k (answer_to s xs rs text).state (array_to s xs rs text) rs (drop 20 text)) (answers_more k s xs rs text)
    (answers_length k (answer_to s xs rs text).state (array_to s xs rs text) rs (drop 20 text))
  where
    go : (ys : List ℕ) → answers_of (suc k) s xs rs text ≡ printed_of (answer_to s xs rs text) ++ ys → length ys ≡ 8 * k → length (answers_of (suc k) s xs rs text) ≡ 8 * suc k
    go ys e h =
        ap (λ (l : List ℕ). length l) e ∙ length-append (printed_of (answer_to s xs rs text)) ys
        ∙ (let q : length (printed_of (answer_to s xs rs text)) + length ys ≡ 8 * suc k = omega (arith, answer_length (answer_to s xs rs text)) in q)

-- line i of g, told of what is left
module _ (g i : ℕ) (s : State) (xs rs text : List ℕ) (h : i < g) where
  pub answers_round : answers_of (g - i) s xs rs (drop (20 * i) text)
      ≡ printed_of (answer_to s xs rs (drop (20 * i) text))
      ++ answers_of (g - (i + 1)) (answer_to s xs rs (drop (20 * i) text)).state (array_to s xs rs (drop (20 * i) text)) rs (drop (20 * (i + 1)) text)
  answers_round =
      let k : g - i ≡ suc (g - (i + 1)) = omega arith in
      let u = drop (20 * i) text in
      ap (λ (n : ℕ). answers_of n s xs rs u) k ∙ answers_more (g - (i + 1)) s xs rs u
      ∙ ap (λ (w : List ℕ). printed_of (answer_to s xs rs u) ++ answers_of (g - (i + 1)) (answer_to s xs rs u).state (array_to s xs rs u) rs w) (past i text)

  pub arrays_round : arrays_of (g - i) s xs rs (drop (20 * i) text)
      ≡ arrays_of (g - (i + 1)) (answer_to s xs rs (drop (20 * i) text)).state (array_to s xs rs (drop (20 * i) text)) rs (drop (20 * (i + 1)) text)
  arrays_round =
      let k : g - i ≡ suc (g - (i + 1)) = omega arith in
      let u = drop (20 * i) text in
      ap (λ (n : ℕ). arrays_of n s xs rs u) k ∙ arrays_more (g - (i + 1)) s xs rs u
      ∙ ap (λ (w : List ℕ). arrays_of (g - (i + 1)) (answer_to s xs rs u).state (array_to s xs rs u) rs w) (past i text)

-- after the last line nothing is left
pub answers_over : (g i : ℕ) (s : State) (xs rs text : List ℕ) → g ≤ i → answers_of (g - i) s xs rs text ≡ []
answers_over g i s xs rs text h = let k : g - i ≡ 0 = omega arith in ap (λ (n : ℕ). answers_of n s xs rs text) k ∙ answers_none s xs rs text

pub arrays_over : (g i : ℕ) (s : State) (xs rs text : List ℕ) → g ≤ i → arrays_of (g - i) s xs rs text ≡ xs
arrays_over g i s xs rs text h = let k : g - i ≡ 0 = omega arith in ap (λ (n : ℕ). arrays_of n s xs rs text) k ∙ arrays_none s xs rs text

-- eight bytes put at place 8 * i
module _ (i : ℕ) (out ys : List ℕ) (l : length ys ≡ 8) (h : 8 * i + 8 ≤ length out) where
  pub put_take : take (8 * (i + 1)) (put_mid (8 * i) (8 * i + 8 - 8 * i) out ys) ≡ take (8 * i) out ++ ys
  put_take =
      let z : List ℕ = drop (8 * i + 8 - 8 * i) (drop (8 * i) out) in
      ap (λ (w : List ℕ). take (8 * (i + 1)) w) (sym (append_assoc (take (8 * i) out) ys z))
      ∙ take_at (take (8 * i) out ++ ys) z (8 * (i + 1))
      (length-append (take (8 * i) out) ys ∙ (let e : length (take (8 * i) out) + length ys ≡ 8 * (i + 1) = omega (arith, length-take-le (8 * i) out (omega arith)) in e))

  pub put_drop : drop (8 * (i + 1)) (put_mid (8 * i) (8 * i + 8 - 8 * i) out ys) ≡ drop (8 * (i + 1)) out
  put_drop =
      let e : 8 * i + 8 ≡ 8 * (i + 1) = omega arith in
      let k : length ys ≡ 8 * i + 8 - 8 * i = omega arith in
      subst (λ (n : ℕ). drop n (put_mid (8 * i) (8 * i + 8 - 8 * i) out ys) ≡ drop n out) e (drop_put (8 * i) (8 * i + 8) out ys (omega arith) h k)

-- an answer copied over its eight bytes is the answer
pub over_part : (i : ℕ) (out : List ℕ) (a : Answer) → 8 * i + 8 ≤ length out → copied (mid_of (8 * i) (8 * i + 8 - 8 * i) out) (printed_of a) ≡ printed_of a
over_part i out a h =
    copied_whole (mid_of (8 * i) (8 * i + 8 - 8 * i) out) (printed_of a)
    (mid_len (8 * i) (8 * i + 8) out h ∙ (let e : 8 * i + 8 - 8 * i ≡ 8 = omega arith in e) ∙ sym (answer_length a))

-- one round of the loop that answers line i of g: t and ys are the state and array it leaves, zs the eight bytes it writes
module _ (g i : ℕ) (s t : State) (xs ys zs rs text out : List ℕ) (h : i < g) (fits : 8 * g ≤ length out)
    (es : t ≡ (line_step s (cycle_stated (take (20 * i + 20 - 20 * i) (drop (20 * i) text))) xs rs).state)
    (ea : ys ≡ array_by s (cycle_stated (take (20 * i + 20 - 20 * i) (drop (20 * i) text))) xs rs)
    (eo : zs ≡ copied (mid_of (8 * i) (8 * i + 8 - 8 * i) out) (printed_of (line_step s (cycle_stated (take (20 * i + 20 - 20 * i) (drop (20 * i) text))) xs rs))) where
  n : 20 * i + 20 - 20 * i ≡ 20
  n = omega arith

  st : t ≡ (answer_to s xs rs (drop (20 * i) text)).state
  st = es ∙ ap (λ (m : ℕ). (line_step s (cycle_stated (take m (drop (20 * i) text))) xs rs).state) n

  ar : ys ≡ array_to s xs rs (drop (20 * i) text)
  ar = ea ∙ ap (λ (m : ℕ). array_by s (cycle_stated (take m (drop (20 * i) text))) xs rs) n

  room : 8 * i + 8 ≤ length out
  room = omega arith

  pr : zs ≡ printed_of (answer_to s xs rs (drop (20 * i) text))
  pr =
      eo ∙ ap (λ (m : ℕ). copied (mid_of (8 * i) (8 * i + 8 - 8 * i) out) (printed_of (line_step s (cycle_stated (take m (drop (20 * i) text))) xs rs))) n
      ∙ over_part i out (answer_to s xs rs (drop (20 * i) text)) room

  eight : length zs ≡ 8
  eight = ap (λ (w : List ℕ). length w) pr ∙ answer_length (answer_to s xs rs (drop (20 * i) text))

  pub round_array : (A : List ℕ) → arrays_of (g - i) s xs rs (drop (20 * i) text) ≡ A → arrays_of (g - (i + 1)) t ys rs (drop (20 * (i + 1)) text) ≡ A
  round_array A q =
      ap (λ (x : State). arrays_of (g - (i + 1)) x ys rs (drop (20 * (i + 1)) text)) st
      ∙ ap (λ (w : List ℕ). arrays_of (g - (i + 1)) (answer_to s xs rs (drop (20 * i) text)).state w rs (drop (20 * (i + 1)) text)) ar
      ∙ sym (arrays_round g i s xs rs text h) ∙ q

  pub round_out : (B : List ℕ) → take (8 * i) out ++ answers_of (g - i) s xs rs (drop (20 * i) text) ≡ B
      → take (8 * (i + 1)) (put_mid (8 * i) (8 * i + 8 - 8 * i) out zs) ++ answers_of (g - (i + 1)) t ys rs (drop (20 * (i + 1)) text) ≡ B
  round_out B q =
      let P : List ℕ = printed_of (answer_to s xs rs (drop (20 * i) text)) in
      let R : List ℕ = answers_of (g - (i + 1)) (answer_to s xs rs (drop (20 * i) text)).state (array_to s xs rs (drop (20 * i) text)) rs (drop (20 * (i + 1)) text) in
      let r : answers_of (g - (i + 1)) t ys rs (drop (20 * (i + 1)) text) ≡ R =
      ap (λ (x : State). answers_of (g - (i + 1)) x ys rs (drop (20 * (i + 1)) text)) st
      ∙ ap (λ (w : List ℕ). answers_of (g - (i + 1)) (answer_to s xs rs (drop (20 * i) text)).state w rs (drop (20 * (i + 1)) text)) ar in
      ap (λ (v : List ℕ). v ++ answers_of (g - (i + 1)) t ys rs (drop (20 * (i + 1)) text)) (put_take i out zs eight room)
      ∙ ap (λ (v : List ℕ). (take (8 * i) out ++ zs) ++ v) r
      ∙ ap (λ (v : List ℕ). (take (8 * i) out ++ v) ++ R) pr
      ∙ append_assoc (take (8 * i) out) P R
      ∙ ap (λ (v : List ℕ). take (8 * i) out ++ v) (sym (answers_round g i s xs rs text h)) ∙ q

  pub round_rest : (out₀ : List ℕ) → drop (8 * i) out ≡ drop (8 * i) out₀ → drop (8 * (i + 1)) (put_mid (8 * i) (8 * i + 8 - 8 * i) out zs) ≡ drop (8 * (i + 1)) out₀
  round_rest out₀ q =
      let e : 8 * i + 8 ≡ 8 * (i + 1) = omega arith in
      put_drop i out zs eight room
      ∙ subst (λ (m : ℕ). drop m out ≡ drop m out₀) e (sym (drop-drop 8 (8 * i) out) ∙ ap (λ (w : List ℕ). drop 8 w) q ∙ drop-drop 8 (8 * i) out₀)

-- after the last round: the answers, and past them what was there
pub round_over : (g i : ℕ) (s : State) (xs rs text out out₀ B : List ℕ) → i ≡ g → take (8 * i) out ++ answers_of (g - i) s xs rs (drop (20 * i) text) ≡ B
    → drop (8 * i) out ≡ drop (8 * i) out₀ → out ≡ B ++ drop (8 * g) out₀
round_over g i s xs rs text out out₀ B e q r =
    let z : g ≤ i = omega arith in
    sym (take-append-drop (8 * i) out)
    ∙ ap (λ (w : List ℕ). w ++ drop (8 * i) out) (sym (append-nil (take (8 * i) out)) ∙ ap (λ (w : List ℕ). take (8 * i) out ++ w) (sym (answers_over g i s xs rs (drop (20 * i) text) z)) ∙ q)
    ∙ ap (λ (w : List ℕ). B ++ w) (r ∙ ap (λ (m : ℕ). drop (8 * m) out₀) e)

-- an end is as long whatever its number
pub end_any : (n left : ℕ) → length (trace_end n left) ≡ length (trace_end 0 left)
unfolding trace_end mark_of
end_any n left = go (eqb left 0) refl
  where
    go : (b : Bool) → eqb left 0 ≡ b → length (if eqb left 0 then [] else mark_of n) ≡ length (if eqb left 0 then [] else mark_of 0)
    go true e = rw e refl
    go false e = rw e refl

-- no byte left over: nothing is written
pub end_nothing : (n left : ℕ) (out : List ℕ) → left ≡ 0 → out ≡ copied out (trace_end n left)
unfolding trace_end
end_nothing n left out h =
    let e : (if eqb left 0 then [] else mark_of n) ≡ [] = if_true (eqb left 0) [] (mark_of n) (eq-eqb left 0 h) in
    sym (ap (λ (w : List ℕ). copied out w) e ∙ ap (λ (w : List ℕ). w ++ out) (take-nil (length out)))

pub end_short : (left : ℕ) → length (trace_end 0 left) ≤ 7
unfolding trace_end mark_of
end_short left = go (eqb left 0) refl
  where
    go : (b : Bool) → eqb left 0 ≡ b → length (if eqb left 0 then [] else mark_of 0) ≤ 7
    go true e = rw e (omega arith)
    go false e = rw e (omega arith)

-- the end put after the answers A: the output, and past it what was there
pub put_end : (A E out : List ℕ) (at n : ℕ) → length A ≡ at → n ≡ at + length E → n ≤ length out
    → put_mid at (n - at) (A ++ drop at out) (copied (mid_of at (n - at) (A ++ drop at out)) E) ≡ copied out (A ++ E)
put_end A E out at n a e h =
    let o : List ℕ = A ++ drop at out in
    let lo : length o ≡ length out = length-append A (drop at out) ∙ ap (λ (m : ℕ). length A + m) (length-drop at out) ∙ (let q : length A + (length out - at) ≡ length out = omega arith in q) in
    let m : length (mid_of at (n - at) o) ≡ length E = mid_len at n o (subst (λ (m : ℕ). n ≤ m) (sym lo) h) ∙ (let q : n - at ≡ length E = omega arith in q) in
    let c : copied (mid_of at (n - at) o) E ≡ E = copied_whole (mid_of at (n - at) o) E m in
    let d : drop (n - at) (drop at o) ≡ drop n out = ap (λ (w : List ℕ). drop (n - at) w) (drop_at A (drop at out) at a) ∙ drop-drop (n - at) at out ∙ ap (λ (k : ℕ). drop k out) (let q : at + (n - at) ≡ n = omega arith in q) in
    let lae : length (A ++ E) ≡ n = length-append A E ∙ (let q : length A + length E ≡ n = omega arith in q) in
    ap (λ (w : List ℕ). put_mid at (n - at) o w) c
    ∙ ap (λ (w : List ℕ). w ++ (E ++ drop (n - at) (drop at o))) (take_at A (drop at out) at a)
    ∙ ap (λ (w : List ℕ). A ++ (E ++ w)) d
    ∙ sym (append_assoc A E (drop n out))
    ∙ sym (ap (λ (w : List ℕ). w ++ drop (length (A ++ E)) out) (take_all (length out) (A ++ E) (subst (λ (m : ℕ). m ≤ length out) (sym lae) h)) ∙ ap (λ (k : ℕ). (A ++ E) ++ drop k out) lae)

-- the output is the answers to the good lines, then the end
end_next : (n g : ℕ) (text : List ℕ) → trace_end (suc n + g) (length (drop 20 text) - 20 * g) ≡ trace_end (n + suc g) (length text - 20 * suc g)
end_next n g text =
    let a : suc n + g ≡ n + suc g = omega arith in
    let b : length (drop 20 text) - 20 * g ≡ length text - 20 * suc g = omega (arith, length-drop 20 text) in
    ap (λ (m : ℕ). trace_end m (length (drop 20 text) - 20 * g)) a ∙ ap (λ (m : ℕ). trace_end (n + suc g) m) b

end_here : (n : ℕ) (text : List ℕ) → trace_end n (length text) ≡ trace_end (n + 0) (length text - 20 * 0)
end_here n text =
    let a : n ≡ n + 0 = omega arith in
    let b : length text ≡ length text - 20 * 0 = omega arith in
    ap (λ (m : ℕ). trace_end m (length text)) a ∙ ap (λ (m : ℕ). trace_end (n + 0) m) b

pub output_is : (k n : ℕ) (s : State) (xs rs text : List ℕ)
    → output_from k n s xs rs text ≡ answers_of (good_lines k text) s xs rs text ++ trace_end (n + good_lines k text) (length text - 20 * good_lines k text)
unfolding output_from answers_of good_lines
output_is zero n s xs rs text = end_here n text
output_is (suc k) n s xs rs text =
    go (is_line (take 20 text)) refl (output_is k (suc n) (answer_to s xs rs text).state (array_to s xs rs text) rs (drop 20 text))
  where
    go : (b : Bool) → is_line (take 20 text) ≡ b
        → output_from k (suc n) (answer_to s xs rs text).state (array_to s xs rs text) rs (drop 20 text)
        ≡ answers_of (good_lines k (drop 20 text)) (answer_to s xs rs text).state (array_to s xs rs text) rs (drop 20 text)
        ++ trace_end (suc n + good_lines k (drop 20 text)) (length (drop 20 text) - 20 * good_lines k (drop 20 text))
        → output_from (suc k) n s xs rs text
        ≡ answers_of (good_lines (suc k) text) s xs rs text ++ trace_end (n + good_lines (suc k) text) (length text - 20 * good_lines (suc k) text)
    go true e ih =
        let g = good_lines k (drop 20 text) in
        let y : List ℕ = printed_of (answer_to s xs rs text) in
        let z : List ℕ = answers_of g (answer_to s xs rs text).state (array_to s xs rs text) rs (drop 20 text) in
        rw e
        (ap (λ (w : List ℕ). y ++ w) ih ∙ ap (λ (w : List ℕ). y ++ (z ++ w)) (end_next n g text) ∙ sym (append_assoc y z (trace_end (n + suc g) (length text - 20 * suc g))))
    go false e ih = rw e (end_here n text)

pub array_is : (k : ℕ) (s : State) (xs rs text : List ℕ) → array_from k s xs rs text ≡ arrays_of (good_lines k text) s xs rs text
unfolding array_from arrays_of good_lines
array_is zero s xs rs text = refl
array_is (suc k) s xs rs text = go (is_line (take 20 text)) refl (array_is k (answer_to s xs rs text).state (array_to s xs rs text) rs (drop 20 text))
  where
    go : (b : Bool) → is_line (take 20 text) ≡ b
        → array_from k (answer_to s xs rs text).state (array_to s xs rs text) rs (drop 20 text)
        ≡ arrays_of (good_lines k (drop 20 text)) (answer_to s xs rs text).state (array_to s xs rs text) rs (drop 20 text)
        → array_from (suc k) s xs rs text ≡ arrays_of (good_lines (suc k) text) s xs rs text
    go true e ih = rw e ih
    go false e ih = rw e refl
