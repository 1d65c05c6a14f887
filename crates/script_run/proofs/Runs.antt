-- The run's ways out, one law each.
use mathlib.Core.Path.{◌≡◌, refl, sym, ap, subst, ◌∙◌}
use mathlib.Core.Bool.{Bool, true, false}
use mathlib.Core.List.{List, [], ◌∷◌, ◌++◌, append-nil}
use Prim.Native.Nat.{ℕ, zero, suc, ◌+◌, ◌-◌, ◌*◌, ◌≤◌, ◌<◌}
use native.Mathlib.Omega.{arith}
use lib.Dec.{ltb}
use borrow.Author.Tests.{ltb-true, ltb-false}
use lib.ListN.{length, take, drop, length-append, length-drop, drop_of_length-le}
use lib.Seq.{drop-drop}
use Rattle.common.proofs.Choice.{if_true, if_false}
use Rattle.common.specs.Lists.{overlaid}
use Rattle.model_types.specs.declared.State.{State}
use Rattle.model_types.specs.declared.Cycle.{Cycle}
use Rattle.trace_lines.specs.Lines.{line_of, cycle_stated}
use Rattle.script_lines.specs.declared.Word.{Word}
use Rattle.script_lines.specs.declared.Word.TheVariants.{Ends, Traced, Opens}
use Rattle.script_lines.specs.Scripts.{Script, done, line, group, open_by, close_by, print_on, Formed, lines_in, times_on, lines_written}
use Rattle.script_lines.specs.Words.{word_in, is_closes}
use Rattle.script_lines.specs.Inner.{Stop, nothing, closing}
use Rattle.script_lines.proofs.Words.{code, held, closes_is}
use Rattle.script_lines.proofs.Forms.{word_traced, word_opens, word_closes, traced_word, opens_word, closes_word, empty_word, printed_line}
use Rattle.script_judge.proofs.OnePrint.{parts}
use Rattle.trace_replay.specs.Answers.{printed_of}
use Rattle.trace_replay.specs.Replays.{line_step, array_by}
use Rattle.script_run.specs.declared.Run.{Run}
use Rattle.script_run.specs.Inner.{state_through, array_through, answers_through, line_run, past_open, back_to, past_close, close_run, Ran, RunRead, Leads, ItemRun, AgainRead, Rounds}
use Rattle.script_run.proofs.Laid.{laid_none, laid_more}
use Rattle.script_run.proofs.Answers.{answers_length, state_append, array_append, answers_append, times_append}

-- ---- runs put together
-- cs from x to y, and then ds from z, where z stands as y does
module _ (text : List ℕ) (x y z r : Run) (xs rs out ys out₁ xs' out' : List ℕ) (cs ds : List Cycle) (T tail : List ℕ) (k m n : ℕ)
    (i : Ran text x y xs rs out ys out₁ cs T k) (j : Ran text z r ys rs out₁ xs' out' ds tail m)
    (eu : z.used ≡ y.used) (es : z.state ≡ y.state) (room : x.used + 8 * length (cs ++ ds) ≤ length out) (en : r.left + n ≡ x.left) where
  st : z.state ≡ state_through cs x.state xs rs
  st = es ∙ i.state

  us : z.used ≡ x.used + length (answers_through cs x.state xs rs)
  us = eu ∙ i.used ∙ ap (λ (q : ℕ). x.used + q) (sym (answers_length cs x.state xs rs))

  inside : z.used ≤ length out
  inside = let a = eu ∙ i.used in let b = length-append cs ds in omega arith

  pub both : Ran text x r xs rs out xs' out' (cs ++ ds) tail n
  both = record {
    stands = j.stands;
    lines = en;
    used = let a = j.used in let b = eu ∙ i.used in let c = length-append cs ds in omega arith;
    state = j.state ∙ ap (λ (s : State). state_through ds s ys rs) st ∙ ap (λ (q : List ℕ). state_through ds (state_through cs x.state xs rs) q rs) i.array
        ∙ state_append cs ds x.state xs rs;
    array = j.array ∙ ap (λ (s : State). array_through ds s ys rs) st ∙ ap (λ (q : List ℕ). array_through ds (state_through cs x.state xs rs) q rs) i.array
        ∙ array_append cs ds x.state xs rs;
    laid = j.laid
        ∙ ap (λ (s : State). overlaid out₁ z.used (answers_through ds s ys rs)) st
        ∙ ap (λ (q : List ℕ). overlaid out₁ z.used (answers_through ds (state_through cs x.state xs rs) q rs)) i.array
        ∙ ap (λ (q : List ℕ). overlaid q z.used (answers_through ds (state_through cs x.state xs rs) (array_through cs x.state xs rs) rs)) i.laid
        ∙ laid_more out (answers_through cs x.state xs rs) (answers_through ds (state_through cs x.state xs rs) (array_through cs x.state xs rs) rs) x.used z.used us inside
        ∙ ap (λ (q : List ℕ). overlaid out x.used q) (answers_append cs ds x.state xs rs);
  }

-- no cycle
ran_none : (text : List ℕ) (x : Run) (xs rs out tail : List ℕ) → drop x.at text ≡ tail → Ran text x x xs rs out xs out [] tail 0
unfolding state_through array_through answers_through
ran_none text x xs rs out tail e = record {
  stands = e;
  lines = omega arith;
  used = omega arith;
  state = refl;
  array = refl;
  laid = sym (laid_none out x.used);
}

-- a run past the line of a cycle
abbrev line_on : Run → Cycle → List ℕ → List ℕ → Run
line_on x c xs rs = record { at = x.at + 20; left = x.left - 1; used = x.used + 8; state = (line_step x.state c xs rs).state }

-- one cycle
ran_line : (text : List ℕ) (x : Run) (c : Cycle) (xs rs out tail : List ℕ) → drop (x.at + 20) text ≡ tail → 1 ≤ x.left
    → Ran text x (line_on x c xs rs) xs rs out (array_by x.state c xs rs) (overlaid out x.used (printed_of (line_step x.state c xs rs))) (c ∷ []) tail 1
unfolding state_through array_through answers_through
ran_line text x c xs rs out tail e l = record {
  stands = e;
  lines = omega arith;
  used = omega arith;
  state = refl;
  array = refl;
  laid = ap (λ (q : List ℕ). overlaid out x.used q) (sym (append-nil (printed_of (line_step x.state c xs rs))));
}

-- ---- the word in front of a printed list
stop_code : (n : ℕ) (tail : List ℕ) (W : Word) → 1 ≤ n → Stop tail → word_in n tail ≡ W → (code W ≡ 2 → ⊥) × (code W ≡ 3 → ⊥)
stop_code n tail W l nothing w = let e = ap code (sym w ∙ empty_word n) in (λ z. absurd (omega arith), λ z. absurd (omega arith))
stop_code n tail W l (closing r) w = let e = ap code (sym w ∙ closes_word n r l) in (λ z. absurd (omega arith), λ z. absurd (omega arith))

count : (d n : ℕ) (b r : Script) → Formed d (group n b r) → (1 ≤ n) × (n ≤ 999)
unfolding Formed
count zero n b r f = absurd f
count (suc d) n b r f = (f.0, f.1)

at_drop : (s : List ℕ) (a u : ℕ) (t : List ℕ) → drop a s ≡ t → drop (a + u) s ≡ drop u t
at_drop s a u t e = sym (drop-drop u a s) ∙ ap (λ (l : List ℕ). drop u l) e

long : (s : List ℕ) (a u : ℕ) → u ≤ length (drop a s) → 1 ≤ u → a + u ≤ length s
long s a u l m = let e = length-drop a s in omega arith

pub traced_room : (s : List ℕ) (n a : ℕ) → word_in n (drop a s) ≡ Traced → (1 ≤ n) × (a + 20 ≤ length s)
traced_room s n a w = let f = word_traced n (drop a s) w in (f.0, long s a 20 f.1 (omega arith))

pub opens_room : (s : List ℕ) (n a m : ℕ) → word_in n (drop a s) ≡ Opens m → (1 ≤ n) × (a + 6 ≤ length s) × (m ≤ 999) × (1 ≤ m)
opens_room s n a m w = let f = word_opens n (drop a s) m w in (f.0, long s a 6 f.1 (omega arith), f.2, f.3)

pub closes_room : (s : List ℕ) (n a : ℕ) → is_closes (word_in n (drop a s)) ≡ true → (1 ≤ n) × (a + 2 ≤ length s)
closes_room s n a c = let f = word_closes n (drop a s) (closes_is (word_in n (drop a s)) c) in (f.0, long s a 2 f.1 (omega arith))

-- past a closing line, or where it stood: still in the text, and no further back
pub close_ahead : (text : List ℕ) (x : Run) → x.at ≤ length text
    → ((close_run text x).at ≤ length text) × (x.at ≤ (close_run text x).at) × ((close_run text x).used ≡ x.used)
unfolding close_run
close_ahead text x h = go (is_closes (word_in x.left (drop x.at text))) refl where
  go : (b : Bool) → is_closes (word_in x.left (drop x.at text)) ≡ b
      → ((close_run text x).at ≤ length text) × (x.at ≤ (close_run text x).at) × ((close_run text x).used ≡ x.used)
  go true e = rw e ((closes_room text x.left x.at e).1, omega arith, refl)
  go false e = rw e (h, omega arith, refl)

pub close_true : (text : List ℕ) (x : Run) → is_closes (word_in x.left (drop x.at text)) ≡ true → close_run text x ≡ past_close x
unfolding close_run
close_true text x e = if_true (is_closes (word_in x.left (drop x.at text))) (past_close x) x e

pub close_false : (text : List ℕ) (x : Run) → is_closes (word_in x.left (drop x.at text)) ≡ false → close_run text x ≡ x
unfolding close_run
close_false text x e = if_false (is_closes (word_in x.left (drop x.at text))) (past_close x) x e

-- a group's own list is one level deeper, and where no level is left there is no group
inner : (d n : ℕ) (b r : Script) → Formed d (group n b r) → Formed (d - 1) b
unfolding Formed
inner zero n b r f = absurd f
inner (suc d) n b r f = subst (λ (k : ℕ). Formed k b) (let e : d ≡ suc d - 1 = omega arith in e) f.3

none : (d n : ℕ) (b r : Script) → Formed d (group n b r) → d ≡ 0 → ⊥
unfolding Formed
none zero n b r f e = absurd f
none (suc d) n b r f e = absurd (omega arith)

-- where d levels are left to open
module _ (d : ℕ) where
  -- ---- where no item stands
  pub run_stop : (text : List ℕ) (x : Run) (xs rs out : List ℕ) (W : Word) → word_in x.left (drop x.at text) ≡ W → (code W ≡ 2 → ⊥) → (code W ≡ 3 → ⊥)
      → RunRead text x d x xs rs out xs out
  unfolding RunRead Formed print_on lines_in lines_written
  run_stop text x xs rs out W w z2 z3 done tail f o e l m = ran_none text x xs rs out tail e
  run_stop text x xs rs out W w z2 z3 (line c r) tail f o e l m =
      absurd (z2 (ap code (sym w ∙ ap (λ (q : List ℕ). word_in x.left q) e ∙ traced_word x.left c (print_on r tail) (omega arith) f.0)))
  run_stop text x xs rs out W w z2 z3 (group n b r) tail f o e l m =
      let c = count d n b r f in
      absurd (z3 (ap code (sym w ∙ ap (λ (q : List ℕ). word_in x.left q) e ∙ opens_word x.left n (print_on b (close_by ++ print_on r tail)) (omega arith) c.0 c.1)))

  -- ---- where the room is too short for an answer: no list is printed there for which it is enough
  pub run_short : (text : List ℕ) (x : Run) (xs rs out : List ℕ) → word_in x.left (drop x.at text) ≡ Traced → length out - x.used < 8 → RunRead text x d x xs rs out xs out
  unfolding RunRead Formed print_on lines_in lines_written
  run_short text x xs rs out w h done tail f o e l m =
      absurd ((stop_code x.left tail Traced (word_traced x.left (drop x.at text) w).0 o (ap (λ (q : List ℕ). word_in x.left q) (sym e) ∙ w)).0 refl)
  run_short text x xs rs out w h (line c r) tail f o e l m = absurd (omega arith)
  run_short text x xs rs out w h (group n b r) tail f o e l m =
      let c = count d n b r f in
      let z = ap code (sym w ∙ ap (λ (q : List ℕ). word_in x.left q) e ∙ opens_word x.left n (print_on b (close_by ++ print_on r tail)) (omega arith) c.0 c.1) in absurd (omega arith)

  -- ---- a trace line, and the list behind it
  on_line : (text : List ℕ) (x r : Run) (xs rs out xs' out' : List ℕ) → word_in x.left (drop x.at text) ≡ Traced
      → length (overlaid out x.used (printed_of (line_step x.state (cycle_stated (take 20 (drop x.at text))) xs rs))) ≡ length out
      → RunRead text (line_run text x xs rs) d r (array_by x.state (cycle_stated (take 20 (drop x.at text))) xs rs) rs
      (overlaid out x.used (printed_of (line_step x.state (cycle_stated (take 20 (drop x.at text))) xs rs))) xs' out'
      → RunRead text x d r xs rs out xs' out'
  unfolding RunRead Formed print_on lines_in lines_written
  on_line text x r xs rs out xs' out' w len i done tail f o e l m =
      absurd ((stop_code x.left tail Traced (word_traced x.left (drop x.at text) w).0 o (ap (λ (q : List ℕ). word_in x.left q) (sym e) ∙ w)).0 refl)
  on_line text x r xs rs out xs' out' w len i (line c b) tail f o e l m =
      let C = cycle_stated (take 20 (drop x.at text)) in
      let same : C ≡ c = ap (λ (q : List ℕ). cycle_stated (take 20 q)) e ∙ (printed_line c f.0).1 in
      let at : drop (x.at + 20) text ≡ print_on b tail = at_drop text x.at 20 (line_of c ++ print_on b tail) e in
      let p = (word_traced x.left (drop x.at text) w).0 in
      let j = i b tail f.1 o at (omega arith) (omega arith) in
      let j1 = j.lines in
      let g = both text x (line_run text x xs rs) (line_run text x xs rs) r xs rs out (array_by x.state C xs rs) (overlaid out x.used (printed_of (line_step x.state C xs rs))) xs' out' (C ∷ []) (lines_written b)
      (print_on b tail) tail 1 (lines_in b) (1 + lines_in b) (ran_line text x C xs rs out (print_on b tail) at p) j refl refl (omega arith) (omega arith) in
      subst (λ (y : Cycle). Ran text x r xs rs out xs' out' (y ∷ lines_written b) tail (1 + lines_in b)) same g
  on_line text x r xs rs out xs' out' w len i (group n b q) tail f o e l m =
      let c = count d n b q f in
      let z = ap code (sym w ∙ ap (λ (q : List ℕ). word_in x.left q) e ∙ opens_word x.left n (print_on b (close_by ++ print_on q tail)) (omega arith) c.0 c.1) in absurd (omega arith)

  pub run_line : (text : List ℕ) (x y r : Run) (xs rs out ys out₁ xs' out' : List ℕ) → word_in x.left (drop x.at text) ≡ Traced
      → y ≡ line_run text x xs rs → ys ≡ array_by x.state (cycle_stated (take 20 (drop x.at text))) xs rs
      → out₁ ≡ overlaid out x.used (printed_of (line_step x.state (cycle_stated (take 20 (drop x.at text))) xs rs)) → length out₁ ≡ length out
      → RunRead text y d r ys rs out₁ xs' out' → RunRead text x d r xs rs out xs' out'
  run_line text x y r xs rs out ys out₁ xs' out' w ey ea eo len i =
      let C = cycle_stated (take 20 (drop x.at text)) in
      let O = overlaid out x.used (printed_of (line_step x.state C xs rs)) in
      let i1 = subst (λ (q : Run). RunRead text q d r ys rs out₁ xs' out') ey i in
      let i2 = subst (λ (q : List ℕ). RunRead text (line_run text x xs rs) d r q rs out₁ xs' out') ea i1 in
      let i3 = subst (λ (q : List ℕ). RunRead text (line_run text x xs rs) d r (array_by x.state C xs rs) rs q xs' out') eo i2 in
      on_line text x r xs rs out xs' out' w (ap (λ (q : List ℕ). length q) (sym eo) ∙ len) i3

  -- ---- a group, and the list behind it
  pub run_group : (text : List ℕ) (x y z r : Run) (n : ℕ) (xs rs out ys out₁ xs' out' : List ℕ) → word_in x.left (drop x.at text) ≡ Opens n
      → AgainRead text (past_open x) (d - 1) n y xs rs out ys out₁ → z ≡ close_run text y → length out₁ ≡ length out
      → RunRead text z d r ys rs out₁ xs' out' → RunRead text x d r xs rs out xs' out'
  unfolding RunRead AgainRead Formed print_on lines_in lines_written
  run_group text x y z r n xs rs out ys out₁ xs' out' w i ez len k done tail f o e l m =
      absurd ((stop_code x.left tail (Opens n) (word_opens x.left (drop x.at text) n w).0 o (ap (λ (q : List ℕ). word_in x.left q) (sym e) ∙ w)).1 refl)
  run_group text x y z r n xs rs out ys out₁ xs' out' w i ez len k (line c b) tail f o e l m =
      let v = ap code (sym w ∙ ap (λ (q : List ℕ). word_in x.left q) e ∙ traced_word x.left c (print_on b tail) (omega arith) f.0) in absurd (omega arith)
  run_group text x y z r n xs rs out ys out₁ xs' out' w i ez len k (group v b q) tail f o e l m =
      let c = count d v b q f in
      let g : n ≡ v = ap held (sym w ∙ ap (λ (u : List ℕ). word_in x.left u) e ∙ opens_word x.left v (print_on b (close_by ++ print_on q tail)) (omega arith) c.0 c.1) in
      let h = parts d v b q f in
      let c0 = c.0 in
      let B = times_on n (lines_written b) [] in let Q = lines_written q in
      let split : times_on v (lines_written b) Q ≡ B ++ Q = ap (λ (u : ℕ). times_on u (lines_written b) Q) (sym g) ∙ times_append n (lines_written b) Q in
      let size : length (times_on v (lines_written b) Q) ≡ length B + length Q = ap (λ (u : List Cycle). length u) split ∙ length-append B Q in
      let j = i b (close_by ++ print_on q tail) (inner d v b q f) (closing (print_on q tail)) (at_drop text x.at 6 (open_by v ++ print_on b (close_by ++ print_on q tail)) e) (omega arith) (omega arith) (omega arith) in
      let j1 = j.lines in let j2 = j.used in
      let shut : is_closes (word_in y.left (drop y.at text)) ≡ true = ap (λ (u : List ℕ). is_closes (word_in y.left u)) j.stands ∙ ap is_closes (closes_word y.left (print_on q tail) (omega arith)) in
      let ez' : z ≡ past_close y = ez ∙ close_true text y shut in
      let k' = subst (λ (u : Run). RunRead text u d r ys rs out₁ xs' out') ez' k in
      let t = k' q tail h.2 o (at_drop text y.at 2 (close_by ++ print_on q tail) j.stands) (omega arith) (omega arith) in
      let t1 = t.lines in
      let s = both text (past_open x) y (past_close y) r xs rs out ys out₁ xs' out' B Q (close_by ++ print_on q tail) tail (lines_in b) (lines_in q) (1 + lines_in b + lines_in q) j t refl refl (let a = length-append B Q in omega arith) (omega arith) in
      subst (λ (u : List Cycle). Ran text x r xs rs out xs' out' u tail (2 + lines_in b + lines_in q)) (sym split) (moved s (omega arith))
    where
      moved : {cs : List Cycle} {n m : ℕ} → Ran text (past_open x) r xs rs out xs' out' cs tail n → r.left + m ≡ x.left → Ran text x r xs rs out xs' out' cs tail m
      moved a b = record { stands = a.stands; lines = b; used = a.used; state = a.state; array = a.array; laid = a.laid }

  -- ---- a list n times over
  pub again_one : (text : List ℕ) (x y : Run) (n : ℕ) (xs rs out xs' out' : List ℕ) → RunRead text x d y xs rs out xs' out' → n ≤ 1 → AgainRead text x d n y xs rs out xs' out'
  unfolding RunRead AgainRead times_on
  again_one text x y n xs rs out xs' out' i m c tail f o e l p room =
      let g : 1 ≡ n = omega arith in
      let once : lines_written c ≡ times_on n (lines_written c) [] = sym (append-nil (lines_written c)) ∙ ap (λ (u : ℕ). times_on u (lines_written c) []) g in
      let size = ap (λ (u : List Cycle). length u) once in
      subst (λ (u : List Cycle). Ran text x y xs rs out xs' out' u tail (lines_in c)) once (i c tail f o e l (omega arith))

  pub again_more : (text : List ℕ) (x y r : Run) (n : ℕ) (xs rs out ys out₁ xs' out' : List ℕ) → RunRead text x d y xs rs out ys out₁ → 1 < n → length out₁ ≡ length out
      → AgainRead text (back_to x y) d (n - 1) r ys rs out₁ xs' out' → AgainRead text x d n r xs rs out xs' out'
  unfolding RunRead AgainRead times_on
  again_more text x y r n xs rs out ys out₁ xs' out' i m len k c tail f o e l p room =
      let g : suc (n - 1) ≡ n = omega arith in
      let W = lines_written c in let T = times_on (n - 1) W [] in
      let split : W ++ T ≡ times_on n W [] = ap (λ (u : ℕ). times_on u W []) g in
      let size : length W + length T ≡ length (times_on n W []) = sym (length-append W T) ∙ ap (λ (u : List Cycle). length u) split in
      let a = i c tail f o e l (omega arith) in
      let a2 = a.used in
      let b = k c tail f o e l (omega arith) (omega arith) in
      let b1 = b.lines in
      let s = both text x y (back_to x y) r xs rs out ys out₁ xs' out' W T tail tail (lines_in c) (lines_in c) (lines_in c) a b refl refl (let q = length-append W T in omega arith) b1 in
      subst (λ (u : List Cycle). Ran text x r xs rs out xs' out' u tail (lines_in c)) split s

  -- ---- where a group stands and no level is left
  pub run_deep : (text : List ℕ) (x : Run) (n : ℕ) (xs rs out : List ℕ) → word_in x.left (drop x.at text) ≡ Opens n → d ≡ 0 → RunRead text x d x xs rs out xs out
  unfolding RunRead Formed print_on lines_in lines_written
  run_deep text x n xs rs out w z done tail f o e l m =
      absurd ((stop_code x.left tail (Opens n) (word_opens x.left (drop x.at text) n w).0 o (ap (λ (q : List ℕ). word_in x.left q) (sym e) ∙ w)).1 refl)
  run_deep text x n xs rs out w z (line c r) tail f o e l m =
      let v = ap code (sym w ∙ ap (λ (q : List ℕ). word_in x.left q) e ∙ traced_word x.left c (print_on r tail) (omega arith) f.0) in absurd (omega arith)
  run_deep text x n xs rs out w z (group v b r) tail f o e l m = absurd (none d v b r f z)

  -- ---- where the text ends
  pub run_over : (text : List ℕ) (x : Run) (xs rs out : List ℕ) → length text ≤ x.at → RunRead text x d x xs rs out xs out
  run_over text x xs rs out h =
      run_stop text x xs rs out Ends (ap (λ (q : List ℕ). word_in x.left q) (drop_of_length-le text h) ∙ empty_word x.left) (λ z. absurd (omega arith)) (λ z. absurd (omega arith))

  -- ---- an item run
  pub item_none : (text : List ℕ) (x : Run) (xs rs out : List ℕ) → RunRead text x d x xs rs out xs out → ItemRun text x d x xs rs out xs out
  unfolding ItemRun
  item_none text x xs rs out i = (λ z. i, λ z. absurd (omega arith))

  pub item_line : (text : List ℕ) (x y : Run) (xs rs out ys out₁ : List ℕ) → word_in x.left (drop x.at text) ≡ Traced
      → y ≡ line_run text x xs rs → ys ≡ array_by x.state (cycle_stated (take 20 (drop x.at text))) xs rs
      → out₁ ≡ overlaid out x.used (printed_of (line_step x.state (cycle_stated (take 20 (drop x.at text))) xs rs)) → length out₁ ≡ length out
      → ItemRun text x d y xs rs out ys out₁
  unfolding ItemRun Leads
  item_line text x y xs rs out ys out₁ w ey ea eo len =
      let e = ap (λ (r : Run). r.at) ey in
      (λ z. absurd (omega arith), λ z r xs' out' i. run_line text x y r xs rs out ys out₁ xs' out' w ey ea eo len i)

  pub item_group : (text : List ℕ) (x y z : Run) (n : ℕ) (xs rs out ys out₁ : List ℕ) → word_in x.left (drop x.at text) ≡ Opens n
      → AgainRead text (past_open x) (d - 1) n y xs rs out ys out₁ → z ≡ close_run text y → x.at < z.at → length out₁ ≡ length out → ItemRun text x d z xs rs out ys out₁
  unfolding ItemRun Leads
  item_group text x y z n xs rs out ys out₁ w i ez l len =
      (λ e. absurd (omega arith), λ e r xs' out' k. run_group text x y z r n xs rs out ys out₁ xs' out' w i ez len k)

  -- ---- the items of a list, one after the other
  pub leads_none : (text : List ℕ) (x : Run) (xs rs out : List ℕ) → Leads text d x x xs rs out xs out
  unfolding Leads
  leads_none text x xs rs out r xs' out' i = i

  pub leads_item : (text : List ℕ) (x y z : Run) (xs rs out ys out₁ zs out₂ : List ℕ) → Leads text d x y xs rs out ys out₁ → ItemRun text y d z ys rs out₁ zs out₂ → y.at < z.at
      → Leads text d x z xs rs out zs out₂
  unfolding Leads ItemRun
  leads_item text x y z xs rs out ys out₁ zs out₂ o i l r xs' out' k = o r xs' out' (i.1 l r xs' out' k)

  pub leads_end : (text : List ℕ) (x y z : Run) (xs rs out ys out₁ zs out₂ : List ℕ) → Leads text d x y xs rs out ys out₁ → ItemRun text y d z ys rs out₁ zs out₂ → z.at ≡ y.at
      → RunRead text x d z xs rs out zs out₂
  unfolding Leads ItemRun
  leads_end text x y z xs rs out ys out₁ zs out₂ o i e = o z zs out₂ (i.0 e)

  pub leads_to : (text : List ℕ) (x y r : Run) (xs rs out ys out₁ xs' out' : List ℕ) → Leads text d x y xs rs out ys out₁ → RunRead text y d r ys rs out₁ xs' out' → RunRead text x d r xs rs out xs' out'
  unfolding Leads
  leads_to text x y r xs rs out ys out₁ xs' out' o i = o r xs' out' i

  -- ---- rounds of a list, one after the other
  pub rounds_none : (text : List ℕ) (x : Run) (n m : ℕ) (xs rs out : List ℕ) → m ≡ n → Rounds text x d n x m xs rs out xs out
  unfolding Rounds
  rounds_none text x n m xs rs out e r xs' out' i = subst (λ (k : ℕ). AgainRead text x d k r xs rs out xs' out') e i

  pub rounds_one : (text : List ℕ) (x y z q : Run) (n m k : ℕ) (xs rs out ys out₁ zs out₂ : List ℕ) → Rounds text x d n y m xs rs out ys out₁ → RunRead text y d z ys rs out₁ zs out₂
      → q ≡ back_to y z → 1 < m → k ≡ m - 1 → length out₂ ≡ length out₁ → Rounds text x d n q k xs rs out zs out₂
  unfolding Rounds
  rounds_one text x y z q n m k xs rs out ys out₁ zs out₂ o i eq l ek len r xs' out' a =
      let a1 = subst (λ (u : Run). AgainRead text u d k r zs rs out₂ xs' out') eq a in
      let a2 = subst (λ (u : ℕ). AgainRead text (back_to y z) d u r zs rs out₂ xs' out') ek a1 in
      o r xs' out' (again_more text y z r m ys rs out₁ zs out₂ xs' out' i l len a2)

  pub rounds_end : (text : List ℕ) (x y r : Run) (n m : ℕ) (xs rs out ys out₁ xs' out' : List ℕ) → Rounds text x d n y m xs rs out ys out₁ → m ≤ 1 → RunRead text y d r ys rs out₁ xs' out'
      → AgainRead text x d n r xs rs out xs' out'
  unfolding Rounds
  rounds_end text x y r n m xs rs out ys out₁ xs' out' o l i = o r xs' out' (again_one text y r m ys rs out₁ xs' out' i l)

-- at most, and not equal
pub below : (a b : ℕ) → a ≤ b → (a ≡ b → ⊥) → a < b
below a b l n = by (ltb a b) refl where
  by : (t : Bool) → ltb a b ≡ t → a < b
  by true e = ltb-true a b e
  by false e = let k = ltb-false a b e in absurd (n (omega arith))
