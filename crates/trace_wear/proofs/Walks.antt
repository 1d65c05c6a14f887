-- The walk of a trace from the count of its good lines: the state, a round of the loop that makes it, and the bad line.
use mathlib.Core.Path.{◌≡◌, refl, sym, ap, ◌∙◌, subst}
use mathlib.Core.Bool.{Bool, true, false}
use mathlib.Core.List.{List, [], ◌∷◌}
use Prim.Native.Nat.{ℕ, zero, suc, ◌+◌, ◌-◌, ◌*◌, ◌≤◌, ◌<◌}
use native.Mathlib.Omega.{arith}
use lib.Dec.{eqb}
use lib.ListN.{length, take, drop, length-drop}
use borrow.Author.Tests.{eq-eqb, ne_eqb}
use Rattle.std.specs.Prelude.{if◌then◌else◌, Result, Ok}
use Rattle.common.proofs.Choice.{if_true, if_false}
use Rattle.model_types.specs.declared.State.{State}
use Rattle.model_states.specs.States.{fresh_state}
use Rattle.trace_lines.specs.Lines.{is_line, cycle_stated}
use Rattle.trace_replay.specs.Replays.{line_step, array_by, good_lines, arrays_of, array_left}
use Rattle.trace_replay.proofs.Scans.{past, good_fit}
use Rattle.trace_replay.proofs.Rounds.{answer_to, array_to, arrays_round, array_is}
use Rattle.model_types.specs.declared.Wear.{Wear}
use Rattle.trace_wear.specs.declared.BadLine.{BadLine}
use Rattle.trace_wear.specs.Wears.{state_from, bad_at, bad_from, state_left, bad_line, bad_as, worn_of, worn_told, count_told, array_worn}
use Rattle.trace_wear.specs.Inner.{states_of}

states_none : (s : State) (xs rs text : List ℕ) → states_of zero s xs rs text ≡ s
unfolding states_of
states_none s xs rs text = refl

states_more : (k : ℕ) (s : State) (xs rs text : List ℕ)
    → states_of (suc k) s xs rs text ≡ states_of k (answer_to s xs rs text).state (array_to s xs rs text) rs (drop 20 text)
unfolding states_of
states_more k s xs rs text = refl

pub states_over : (g i : ℕ) (s : State) (xs rs text : List ℕ) → g ≤ i → states_of (g - i) s xs rs text ≡ s
states_over g i s xs rs text h = let k : g - i ≡ 0 = omega arith in ap (λ (n : ℕ). states_of n s xs rs text) k ∙ states_none s xs rs text

-- one round of the loop that replays line i of g: t and ys are the state and array it leaves
module _ (g i : ℕ) (s t : State) (xs ys rs text : List ℕ) (h : i < g)
    (es : t ≡ (line_step s (cycle_stated (take (20 * i + 20 - 20 * i) (drop (20 * i) text))) xs rs).state)
    (ea : ys ≡ array_by s (cycle_stated (take (20 * i + 20 - 20 * i) (drop (20 * i) text))) xs rs) where
  n : 20 * i + 20 - 20 * i ≡ 20
  n = omega arith

  st : t ≡ (answer_to s xs rs (drop (20 * i) text)).state
  st = es ∙ ap (λ (m : ℕ). (line_step s (cycle_stated (take m (drop (20 * i) text))) xs rs).state) n

  ar : ys ≡ array_to s xs rs (drop (20 * i) text)
  ar = ea ∙ ap (λ (m : ℕ). array_by s (cycle_stated (take m (drop (20 * i) text))) xs rs) n

  states_round : states_of (g - i) s xs rs (drop (20 * i) text)
      ≡ states_of (g - (i + 1)) (answer_to s xs rs (drop (20 * i) text)).state (array_to s xs rs (drop (20 * i) text)) rs (drop (20 * (i + 1)) text)
  states_round =
      let k : g - i ≡ suc (g - (i + 1)) = omega arith in
      ap (λ (m : ℕ). states_of m s xs rs (drop (20 * i) text)) k ∙ states_more (g - (i + 1)) s xs rs (drop (20 * i) text)
      ∙ ap (λ (w : List ℕ). states_of (g - (i + 1)) (answer_to s xs rs (drop (20 * i) text)).state (array_to s xs rs (drop (20 * i) text)) rs w) (past i text)

  round_of : {X : Type 0} (F : ℕ → State → List ℕ → List ℕ → List ℕ → X)
      → F (g - i) s xs rs (drop (20 * i) text)
      ≡ F (g - (i + 1)) (answer_to s xs rs (drop (20 * i) text)).state (array_to s xs rs (drop (20 * i) text)) rs (drop (20 * (i + 1)) text)
      → (Z : X) → F (g - i) s xs rs (drop (20 * i) text) ≡ Z → F (g - (i + 1)) t ys rs (drop (20 * (i + 1)) text) ≡ Z
  round_of F e Z q = (λ j. F (g - (i + 1)) (st j) (ar j) rs (drop (20 * (i + 1)) text)) ∙ sym e ∙ q

  pub round_state : (S : State) → states_of (g - i) s xs rs (drop (20 * i) text) ≡ S → states_of (g - (i + 1)) t ys rs (drop (20 * (i + 1)) text) ≡ S
  round_state = round_of states_of states_round

  pub round_array : (A : List ℕ) → arrays_of (g - i) s xs rs (drop (20 * i) text) ≡ A → arrays_of (g - (i + 1)) t ys rs (drop (20 * (i + 1)) text) ≡ A
  round_array = round_of arrays_of (arrays_round g i s xs rs text h)

-- the state that the walk leaves is the one after the good lines
pub state_is : (k : ℕ) (s : State) (xs rs text : List ℕ) → state_from k s xs rs text ≡ states_of (good_lines k text) s xs rs text
unfolding state_from states_of good_lines
state_is zero s xs rs text = refl
state_is (suc k) s xs rs text = go (is_line (take 20 text)) refl (state_is k (answer_to s xs rs text).state (array_to s xs rs text) rs (drop 20 text))
  where
    go : (b : Bool) → is_line (take 20 text) ≡ b
        → state_from k (answer_to s xs rs text).state (array_to s xs rs text) rs (drop 20 text)
        ≡ states_of (good_lines k (drop 20 text)) (answer_to s xs rs text).state (array_to s xs rs text) rs (drop 20 text)
        → state_from (suc k) s xs rs text ≡ states_of (good_lines (suc k) text) s xs rs text
    go true e ih = rw e ih
    go false e ih = rw e refl

-- the bad line is the one behind the good lines, where a byte is left over
bad_next : (n g : ℕ) (text : List ℕ) → bad_at (suc n + g) (length (drop 20 text) - 20 * g) ≡ bad_at (n + suc g) (length text - 20 * suc g)
bad_next n g text =
    let a : suc n + g ≡ n + suc g = omega arith in
    let b : length (drop 20 text) - 20 * g ≡ length text - 20 * suc g = omega (arith, length-drop 20 text) in
    ap (λ (m : ℕ). bad_at m (length (drop 20 text) - 20 * g)) a ∙ ap (λ (m : ℕ). bad_at (n + suc g) m) b

bad_here : (n : ℕ) (text : List ℕ) → bad_at n (length text) ≡ bad_at (n + 0) (length text - 20 * 0)
bad_here n text =
    let a : n ≡ n + 0 = omega arith in
    let b : length text ≡ length text - 20 * 0 = omega arith in
    ap (λ (m : ℕ). bad_at m (length text)) a ∙ ap (λ (m : ℕ). bad_at (n + 0) m) b

pub bad_is : (k n : ℕ) (text : List ℕ) → bad_from k n text ≡ bad_at (n + good_lines k text) (length text - 20 * good_lines k text)
unfolding bad_from good_lines
bad_is zero n text = bad_here n text
bad_is (suc k) n text = go (is_line (take 20 text)) refl (bad_is k (suc n) (drop 20 text))
  where
    go : (b : Bool) → is_line (take 20 text) ≡ b
        → bad_from k (suc n) (drop 20 text) ≡ bad_at (suc n + good_lines k (drop 20 text)) (length (drop 20 text) - 20 * good_lines k (drop 20 text))
        → bad_from (suc k) n text ≡ bad_at (n + good_lines (suc k) text) (length text - 20 * good_lines (suc k) text)
    go true e ih = rw e (ih ∙ bad_next n (good_lines k (drop 20 text)) text)
    go false e ih = rw e (bad_here n text)

at_end : (n left : ℕ) → left ≡ 0 → bad_at n left ≡ 0
unfolding bad_at
at_end n left e = if_true (eqb left 0) 0 n (eq-eqb left 0 e)

at_rest : (n left : ℕ) → (left ≡ 0 → ⊥) → bad_at n left ≡ n
unfolding bad_at
at_rest n left h = if_false (eqb left 0) 0 n (ne_eqb left 0 h)

-- g is the count of the good lines
module _ (g : ℕ) (xs rs text : List ℕ) (eg : g ≡ good_lines 9998 text) where
  pub inside : 20 * g ≤ length text
  inside = subst (λ (m : ℕ). 20 * m ≤ length text) (sym eg) (good_fit 9998 text)

  bad : bad_line text ≡ bad_at (1 + g) (length text - 20 * g)
  unfolding bad_line
  bad = bad_is 9998 1 text ∙ ap (λ (m : ℕ). bad_at (1 + m) (length text - 20 * m)) (sym eg)

  -- a byte is left over
  module _ (h : 20 * g < length text) where
    line : bad_line text ≡ g + 1
    line = bad ∙ at_rest (1 + g) (length text - 20 * g) (λ (e : length text - 20 * g ≡ 0). omega arith) ∙ (let q : 1 + g ≡ g + 1 = omega arith in q)

    some : eqb (bad_line text) 0 ≡ false
    some = ne_eqb (bad_line text) 0 (λ (e : bad_line text ≡ 0). omega (arith, line))

    pub bad_worn : bad_as (g + 1) ≡ worn_of xs rs text
    unfolding worn_of
    bad_worn = ap bad_as (sym line) ∙ sym (if_false (eqb (bad_line text) 0) (Ok (state_left xs rs text).wear) (bad_as (bad_line text)) some)

    pub bad_array : xs ≡ array_worn xs rs text
    unfolding array_worn
    bad_array = sym (if_false (eqb (bad_line text) 0) (array_left xs rs text) xs some)

  -- no byte is
  module _ (h : length text ≤ 20 * g) where
    whole : eqb (bad_line text) 0 ≡ true
    whole = eq-eqb (bad_line text) 0 (bad ∙ at_end (1 + g) (length text - 20 * g) (omega arith))

    pub good_worn : (s : State) → s ≡ states_of g fresh_state xs rs text → Ok s.wear ≡ worn_of xs rs text
    unfolding worn_of state_left
    good_worn s e =
        ap (λ (x : State). Ok x.wear) (e ∙ ap (λ (m : ℕ). states_of m fresh_state xs rs text) eg ∙ sym (state_is 9998 fresh_state xs rs text))
        ∙ sym (if_true (eqb (bad_line text) 0) (Ok (state_from 9998 fresh_state xs rs text).wear) (bad_as (bad_line text)) whole)

    pub good_array : (ys : List ℕ) → ys ≡ arrays_of g fresh_state xs rs text → ys ≡ array_worn xs rs text
    unfolding array_worn array_left
    good_array ys e =
        e ∙ ap (λ (m : ℕ). arrays_of m fresh_state xs rs text) eg ∙ sym (array_is 9998 fresh_state xs rs text)
        ∙ sym (if_true (eqb (bad_line text) 0) (array_left xs rs text) xs whole)

-- the counts with what they tell, and with what is left
pub worn_too : {r : Result Wear BadLine} {Left : Type 0} (xs rs text : List ℕ) → r ≡ worn_of xs rs text → Left → (r ≡ worn_of xs rs text) × ((worn_told r ≡ count_told xs rs text) × Left)
unfolding worn_of count_told
worn_too xs rs text e left = (e, (ap worn_told e ∙ go (eqb (bad_line text) 0), left))
  where
    go : (b : Bool)
        → worn_told (if b then Ok (state_left xs rs text).wear else bad_as (bad_line text))
        ≡ (if b then (0, (state_left xs rs text).wear ∷ []) else (bad_line text, []))
    go true = refl
    go false = refl
