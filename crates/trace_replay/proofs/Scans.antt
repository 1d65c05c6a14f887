-- The count of good lines: a round of the scan, its end, and what the count promises of the text.
use mathlib.Core.Path.{◌≡◌, refl, sym, ap, ◌∙◌}
use mathlib.Core.Bool.{Bool, true, false, not, cond}
use mathlib.Core.List.{List}
use Prim.Native.Nat.{ℕ, zero, suc, ◌+◌, ◌-◌, ◌*◌, ◌≤◌, ◌<◌, min}
use native.Mathlib.Omega.{arith}
use lib.Dec.{ltb}
use borrow.Author.Tests.{ltb-false}
use Rattle.std.specs.List.{position_or_len, range_with_len}
use Rattle.std.specs.Option.{unwrap_or}
use Rattle.std.proofs.lemmas.List.FromFn.{length-range_with_len}
use Rattle.std.specs.Prelude.{Option, Some, None}
use lib.ListN.{length, take, drop, length-take, length-drop}
use lib.Seq.{drop-drop}
use Rattle.std.specs.Prelude.{if◌then◌else◌}
use Rattle.common.proofs.Choice.{if_true, if_false}
use Rattle.trace_lines.proofs.Places.{unfit}
use Rattle.trace_lines.proofs.Forms.{line_length}
use Rattle.trace_lines.specs.Lines.{line_form, is_line}
use Rattle.trace_replay.specs.Replays.{good_lines}

-- a list of another length is no line
pub not_line : (xs : List ℕ) → (length xs ≡ 20 → ⊥) → is_line xs ≡ false
unfolding is_line
not_line xs h = unfit line_form xs h

-- fewer than 20 bytes from a place on are no line
pub cut_off : (text : List ℕ) (a : ℕ) → length text < a + 20 → is_line (take 20 (drop a text)) ≡ false
cut_off text a h =
    not_line (take 20 (drop a text))
    (λ (e : length (take 20 (drop a text)) ≡ 20). let l : min 20 (length text - a) ≡ 20 = ap (λ (n : ℕ). min 20 n) (sym (length-drop a text)) ∙ sym (length-take 20 (drop a text)) ∙ e in omega arith)

more : (k : ℕ) (text : List ℕ) → good_lines (suc k) text ≡ (if is_line (take 20 text) then suc (good_lines k (drop 20 text)) else 0)
unfolding good_lines
more k text = refl

none : (text : List ℕ) → good_lines zero text ≡ 0
unfolding good_lines
none text = refl

pub good_first : (k : ℕ) (text : List ℕ) → is_line (take 20 text) ≡ true → good_lines (suc k) text ≡ suc (good_lines k (drop 20 text))
good_first k text e = more k text ∙ if_true (is_line (take 20 text)) (suc (good_lines k (drop 20 text))) 0 e

pub bad_first : (k : ℕ) (text : List ℕ) → is_line (take 20 text) ≡ false → good_lines (suc k) text ≡ 0
bad_first k text e = more k text ∙ if_false (is_line (take 20 text)) (suc (good_lines k (drop 20 text))) 0 e

-- the text after line i: what is left is one line shorter
pub past : (i : ℕ) (text : List ℕ) → drop 20 (drop (20 * i) text) ≡ drop (20 * (i + 1)) text
past i text = let e : 20 * i + 20 ≡ 20 * (i + 1) = omega arith in drop-drop 20 (20 * i) text ∙ ap (λ (n : ℕ). drop n text) e

-- the first number from a on whose line is not good, of n numbers: so many good lines come first from line a on
first_bad : (n a : ℕ) (text : List ℕ) → position_or_len (λ i. not (is_line (take 20 (drop (20 * i) text)))) (range_with_len a n) ≡ good_lines n (drop (20 * a) text)
unfolding good_lines
first_bad zero a text = refl
first_bad (suc n) a text = go (is_line (take 20 (drop (20 * a) text))) refl (first_bad n (a + 1) text)
  where
    go : (b : Bool) → is_line (take 20 (drop (20 * a) text)) ≡ b
        → position_or_len (λ i. not (is_line (take 20 (drop (20 * i) text)))) (range_with_len (a + 1) n) ≡ good_lines n (drop (20 * (a + 1)) text)
        → position_or_len (λ i. not (is_line (take 20 (drop (20 * i) text)))) (range_with_len a (suc n)) ≡ good_lines (suc n) (drop (20 * a) text)
    go true e ih = let h = ih ∙ ap (λ (t : List ℕ). good_lines n t) (sym (past a text)) in rw e (omega (arith, h))
    go false e ih = rw e refl

-- the lines counted are k at most, and all in the text
pub good_most : (k : ℕ) (text : List ℕ) → good_lines k text ≤ k
good_most zero text = omega (arith, none text)
good_most (suc k) text = go (is_line (take 20 text)) refl (good_most k (drop 20 text))
  where
    go : (b : Bool) → is_line (take 20 text) ≡ b → good_lines k (drop 20 text) ≤ k → good_lines (suc k) text ≤ suc k
    go true e h = omega (arith, good_first k text e)
    go false e h = omega (arith, bad_first k text e)

pub good_fit : (k : ℕ) (text : List ℕ) → 20 * good_lines k text ≤ length text
good_fit zero text = omega (arith, none text)
good_fit (suc k) text = go (is_line (take 20 text)) refl (good_fit k (drop 20 text))
  where
    go : (b : Bool) → is_line (take 20 text) ≡ b → 20 * good_lines k (drop 20 text) ≤ length (drop 20 text) → 20 * good_lines (suc k) text ≤ length text
    go true e h =
        let l : min 20 (length text) ≡ 20 = sym (length-take 20 text) ∙ line_length (take 20 text) e in
        omega (arith, good_first k text e, length-drop 20 text)
    go false e h = omega (arith, bad_first k text e)

-- of m numbers the first whose line is not good, or m where each is: the count of the good lines
pub scan_is : (m : ℕ) (text : List ℕ) (r : Option ℕ)
    → r ≡ cond (ltb (position_or_len (λ i. not (is_line (take 20 (drop (20 * i) text)))) (range_with_len 0 m)) (length (range_with_len 0 m)))
    (Some (position_or_len (λ i. not (is_line (take 20 (drop (20 * i) text)))) (range_with_len 0 m))) None
    → unwrap_or r m ≡ good_lines m text
scan_is m text r e = go (ltb (good_lines m text) m) refl (rw (first_bad m 0 text, length-range_with_len 0 m) at e)
  where
    go : (b : Bool) → ltb (good_lines m text) m ≡ b → r ≡ cond (ltb (good_lines m text) m) (Some (good_lines m text)) None → unwrap_or r m ≡ good_lines m text
    go true h q = rw (q, h) refl
    go false h q = let k : m ≤ good_lines m text = ltb-false (good_lines m text) m h in rw (q, h) (omega (arith, good_most m text))
