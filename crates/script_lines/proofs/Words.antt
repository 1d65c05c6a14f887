-- What each word says of the text that it stands in front of.
use mathlib.Core.Path.{◌≡◌, refl, sym, ap, ◌∙◌}
use mathlib.Core.Bool.{Bool, true, false}
use mathlib.Core.List.{List, [], ◌∷◌}
use Prim.Native.Nat.{ℕ, zero, suc, ◌+◌, ◌-◌, ◌*◌, ◌≤◌, ◌<◌, min}
use native.Mathlib.Omega.{arith}
use lib.Dec.{eqb, eqb-suc-zero}
use lib.ListN.{length, take, drop, length-take, length-drop, get_or}
use lib.Seq.{take_all, take-take, get_or-take}
use borrow.Author.Tests.{eqb-true, eqb-false, eq-eqb}
use Rattle.std.specs.Prelude.{if◌then◌else◌}
use Rattle.common.proofs.Choice.{unlike}
use Rattle.text.specs.Digits.{digit_of}
use Rattle.trace_lines.specs.Lines.{Place, fits, is_line}
use Rattle.trace_lines.proofs.Places.{unfit}
use Rattle.script_lines.specs.declared.Word.{Word}
use Rattle.script_lines.specs.declared.Word.TheVariants.{Ends, Bad, Traced, Opens, Closes}
use Rattle.script_lines.specs.Words.{open_form, close_form, is_traced, is_opening, is_closing, count_stated, word_in, is_closes}

-- a text shorter than a form does not begin with a line of it
pub cut_off : (ps : List Place) (text : List ℕ) → length text < length ps → fits ps (take (length ps) text) ≡ false
cut_off ps text h =
    unfit ps (take (length ps) text)
    (λ (e : length (take (length ps) text) ≡ length ps). let l : min (length ps) (length text) ≡ length ps = sym (length-take (length ps) text) ∙ e in omega arith)

-- the whole of a text from a place on, as a part
pub rest_all : (xs : List ℕ) (a : ℕ) → take (length xs - a) (drop a xs) ≡ drop a xs
rest_all xs a = take_all (length xs - a) (drop a xs) (simp (length-drop) (omega arith))

-- past the end of a text nothing is left
pub past_end : (n : ℕ) (text : List ℕ) (a : ℕ) → length text < a → word_in n (drop a text) ≡ Ends
unfolding word_in
past_end n text a h = let e : length (drop a text) ≡ 0 = length-drop a text ∙ (let z : length text - a ≡ 0 = omega arith in z) in simp (eq-eqb (length (drop a text)) 0 e)

-- a number for each word, and the count that it holds
abbrev pub code : Word → ℕ
code Ends = 0
code Bad = 1
code Traced = 2
code (Opens n) = 3
code Closes = 4

abbrev pub held : Word → ℕ
held Ends = 0
held Bad = 0
held Traced = 0
held (Opens n) = n
held Closes = 0

clash : {A : Type 0} (m n : ℕ) → eqb m n ≡ false → m ≡ n → A
clash m n f e = absurd (eqb-false m n f e)

pub closes_is : (w : Word) → is_closes w ≡ true → w ≡ Closes
closes_is Ends f = absurd (unlike (sym f))
closes_is Bad f = absurd (unlike (sym f))
closes_is Traced f = absurd (unlike (sym f))
closes_is (Opens n) f = absurd (unlike (sym f))
closes_is Closes f = refl

-- the choice that makes a word, over its tests
abbrev chain : Bool → Bool → Bool → Bool → Bool → Bool → ℕ → Word
chain a b c d e f m =
    if a then Ends
    else if b then Bad
    else if c then Traced
    else if d then Closes
    else if e then (if f then Bad else Opens m)
    else Bad

by_ends : (a b c d e f : Bool) (m : ℕ) → chain a b c d e f m ≡ Ends → a ≡ true
by_ends true b c d e f m h = refl
by_ends false true c d e f m h = clash 1 0 refl (ap code h)
by_ends false false true d e f m h = clash 2 0 refl (ap code h)
by_ends false false false true e f m h = clash 4 0 refl (ap code h)
by_ends false false false false true true m h = clash 1 0 refl (ap code h)
by_ends false false false false true false m h = clash 3 0 refl (ap code h)
by_ends false false false false false f m h = clash 1 0 refl (ap code h)

by_traced : (a b c d e f : Bool) (m : ℕ) → chain a b c d e f m ≡ Traced → (b ≡ false) × (c ≡ true)
by_traced true b c d e f m h = clash 0 2 refl (ap code h)
by_traced false true c d e f m h = clash 1 2 refl (ap code h)
by_traced false false true d e f m h = (refl, refl)
by_traced false false false true e f m h = clash 4 2 refl (ap code h)
by_traced false false false false true true m h = clash 1 2 refl (ap code h)
by_traced false false false false true false m h = clash 3 2 refl (ap code h)
by_traced false false false false false f m h = clash 1 2 refl (ap code h)

by_closes : (a b c d e f : Bool) (m : ℕ) → chain a b c d e f m ≡ Closes → (b ≡ false) × (d ≡ true)
by_closes true b c d e f m h = clash 0 4 refl (ap code h)
by_closes false true c d e f m h = clash 1 4 refl (ap code h)
by_closes false false true d e f m h = clash 2 4 refl (ap code h)
by_closes false false false true e f m h = (refl, refl)
by_closes false false false false true true m h = clash 1 4 refl (ap code h)
by_closes false false false false true false m h = clash 3 4 refl (ap code h)
by_closes false false false false false f m h = clash 1 4 refl (ap code h)

by_opens : (a b c d e f : Bool) (m v : ℕ) → chain a b c d e f m ≡ Opens v → (b ≡ false) × (e ≡ true) × (m ≡ v) × (f ≡ false)
by_opens true b c d e f m v h = clash 0 3 refl (ap code h)
by_opens false true c d e f m v h = clash 1 3 refl (ap code h)
by_opens false false true d e f m v h = clash 2 3 refl (ap code h)
by_opens false false false true e f m v h = clash 4 3 refl (ap code h)
by_opens false false false false true true m v h = clash 1 3 refl (ap code h)
by_opens false false false false true false m v h = (refl, refl, ap held h, refl)
by_opens false false false false false f m v h = clash 1 3 refl (ap code h)

positive : (n : ℕ) → eqb n 0 ≡ false → 1 ≤ n
positive zero h = absurd (unlike h)
positive (suc n) h = omega arith

nothing_left : (text : List ℕ) → length text ≡ 0 → text ≡ []
nothing_left [] e = refl
nothing_left (x ∷ xs) e = absurd (omega arith)

module _ (n : ℕ) (text : List ℕ) where
  -- nothing is left
  pub ends_text : word_in n text ≡ Ends → text ≡ []
  unfolding word_in
  ends_text h =
      nothing_left text (eqb-true (length text) 0 (by_ends (eqb (length text) 0) (eqb n 0) (is_traced text) (is_closing text) (is_opening text) (eqb (count_stated text) 0) (count_stated text) h))

  -- a line may still come, and it is there
  pub traced_says : word_in n text ≡ Traced → (1 ≤ n) × (is_traced text ≡ true)
  unfolding word_in
  traced_says h =
      let f = by_traced (eqb (length text) 0) (eqb n 0) (is_traced text) (is_closing text) (is_opening text) (eqb (count_stated text) 0) (count_stated text) h in
      (positive n f.0, f.1)

  pub closes_says : word_in n text ≡ Closes → (1 ≤ n) × (is_closing text ≡ true)
  unfolding word_in
  closes_says h =
      let f = by_closes (eqb (length text) 0) (eqb n 0) (is_traced text) (is_closing text) (is_opening text) (eqb (count_stated text) 0) (count_stated text) h in
      (positive n f.0, f.1)

  pub opens_says : (v : ℕ) → word_in n text ≡ Opens v → (1 ≤ n) × (is_opening text ≡ true) × (count_stated text ≡ v) × (1 ≤ v)
  unfolding word_in
  opens_says v h =
      let f = by_opens (eqb (length text) 0) (eqb n 0) (is_traced text) (is_closing text) (is_opening text) (eqb (count_stated text) 0) (count_stated text) v h in
      let m = positive (count_stated text) f.3 in
      let e = f.2 in
      (positive n f.0, f.1, e, omega arith)

-- ---- the front of a text is enough: 20 bytes for each line that may come, and one more
none_left : (m : ℕ) (text : List ℕ) → 1 ≤ m → eqb (length (take m text)) 0 ≡ eqb (length text) 0
none_left zero text h = absurd (omega arith)
none_left (suc m) [] h = refl
none_left (suc m) (x ∷ xs) h = eqb-suc-zero (length (take m xs)) ∙ sym (eqb-suc-zero (length xs))

module _ (m : ℕ) (text : List ℕ) (h : 20 < m) where
  traced_cut : is_traced (take m text) ≡ is_traced text
  unfolding is_traced
  traced_cut = ap (λ (l : List ℕ). is_line l) (take-take 20 m text (omega arith))

  opening_cut : is_opening (take m text) ≡ is_opening text
  unfolding is_opening
  opening_cut = ap (λ (l : List ℕ). fits open_form l) (take-take 6 m text (omega arith))

  closing_cut : is_closing (take m text) ≡ is_closing text
  unfolding is_closing
  closing_cut = ap (λ (l : List ℕ). fits close_form l) (take-take 2 m text (omega arith))

  count_cut : count_stated (take m text) ≡ count_stated text
  count_cut =
      ap (λ (n : ℕ). (digit_of n * 10 + digit_of (get_or (take m text) 3 0)) * 10 + digit_of (get_or (take m text) 4 0)) (get_or-take m text 2 0 (omega arith))
      ∙ ap (λ (n : ℕ). (digit_of (get_or text 2 0) * 10 + digit_of n) * 10 + digit_of (get_or (take m text) 4 0)) (get_or-take m text 3 0 (omega arith))
      ∙ ap (λ (n : ℕ). (digit_of (get_or text 2 0) * 10 + digit_of (get_or text 3 0)) * 10 + digit_of n) (get_or-take m text 4 0 (omega arith))

pub word_cut : (n m : ℕ) (text : List ℕ) → 20 * n < m → word_in n (take m text) ≡ word_in n text
unfolding word_in
word_cut zero m text h =
    ap (λ (a : Bool). chain a true (is_traced (take m text)) (is_closing (take m text)) (is_opening (take m text)) (eqb (count_stated (take m text)) 0) (count_stated (take m text))) (none_left m text (omega arith))
word_cut (suc n) m text h =
    let l : 20 < m = omega arith in
    let b = eqb (suc n) 0 in
    ap (λ (a : Bool). chain a b (is_traced (take m text)) (is_closing (take m text)) (is_opening (take m text)) (eqb (count_stated (take m text)) 0) (count_stated (take m text))) (none_left m text (omega arith))
    ∙ ap (λ (a : Bool). chain (eqb (length text) 0) b a (is_closing (take m text)) (is_opening (take m text)) (eqb (count_stated (take m text)) 0) (count_stated (take m text))) (traced_cut m text l)
    ∙ ap (λ (a : Bool). chain (eqb (length text) 0) b (is_traced text) a (is_opening (take m text)) (eqb (count_stated (take m text)) 0) (count_stated (take m text))) (closing_cut m text l)
    ∙ ap (λ (a : Bool). chain (eqb (length text) 0) b (is_traced text) (is_closing text) a (eqb (count_stated (take m text)) 0) (count_stated (take m text))) (opening_cut m text l)
    ∙ ap (λ (k : ℕ). chain (eqb (length text) 0) b (is_traced text) (is_closing text) (is_opening text) (eqb k 0) k) (count_cut m text l)
