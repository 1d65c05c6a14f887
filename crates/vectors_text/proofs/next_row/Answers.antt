-- `vectors_text::next_row` meets its contract: the row that is left ends behind its newline, or with the text.
use Rattle.std.proofs.Common.{◌≡◌, ◌+◌, ◌-◌, ◌≤◌, ◌<◌, ◌∙◌, ap, sym, refl, List, ℕ, arith, length, take, drop, length-drop, min, max, Bool, true, false, leb, Some, None, position, eqb}
use borrow.Author.Tests.{leb-true, leb-false}
use lib.ListN.{drop_of_length-le}
use lib.Seq.{take_all}
use Rattle.vectors_text.specs.Text.{row_of, next_row}
use Rattle.vectors_text.proofs.Text.{row_found, row_missing}
use Rattle.vectors_text.proofs.next_row.Goals as goal

-- what is left of a text, cut off where it ends
left : (xs : List ℕ) (at from : ℕ) → from ≡ min at (length xs) → take (length xs - from) (drop from xs) ≡ drop from xs
left xs at from e = take_all (length xs - from) (drop from xs) (omega (arith, length-drop {A = ℕ}))

-- behind the end nothing is left, and no row
past : (xs : List ℕ) (at : ℕ) → length xs ≤ at → row_of (drop at xs) ≡ 0
past xs at h = ap row_of (drop_of_length-le xs {i = at} h)

found : (xs : List ℕ) (at from k : ℕ) → from ≡ min at (length xs) → Some k ≡ position (λ b. eqb b 10) (take (length xs - from) (drop from xs)) → (k + from < length xs) × (from ≡ at) × (row_of (drop at xs) ≡ k + 1)
found xs at from k e p =
    let f = row_found (drop from xs) k (p ∙ ap (position (λ b. eqb b 10)) (left xs at from e)) in
    let l : k + from < length xs = omega (arith, f.0, length-drop {A = ℕ}) in
    let s : from ≡ at = omega arith in
    (l, s, ap (λ (i : ℕ). row_of (drop i xs)) (sym s) ∙ f.1)

missing : (xs : List ℕ) (at from : ℕ) → from ≡ min at (length xs) → None ≡ position (λ b. eqb b 10) (take (length xs - from) (drop from xs)) → max at (length xs) ≡ at + row_of (drop at xs)
missing xs at from e p = go (leb at (length xs)) refl
  where
    m : row_of (drop from xs) ≡ length xs - from
    m = row_missing (drop from xs) (p ∙ ap (position (λ b. eqb b 10)) (left xs at from e)) ∙ length-drop from xs

    go : (b : Bool) → leb at (length xs) ≡ b → max at (length xs) ≡ at + row_of (drop at xs)
    go true t =
        let h : at ≤ length xs = leb-true _ _ t in
        let s : from ≡ at = omega arith in
        omega (arith, ap (λ (i : ℕ). row_of (drop i xs)) s, m)
    go false t =
        let h : length xs < at = leb-false _ _ t in
        omega (arith, past xs at (omega arith))

pub returns-in-Some : goal.returns-in-Some
unfolding next_row
returns-in-Some c =
    let f = found c.args.text.now c.args.at c.min-from.result c.in-Some.k c.min-from.ensures c.in-Some.ensures in
    (omega (arith, f.2), omega (arith, f.0, f.1), omega (arith, f.0, f.1))

pub returns-in-None : goal.returns-in-None
unfolding next_row
returns-in-None c = (c.max.ensures ∙ missing c.args.text.now c.args.at c.min-from.result c.min-from.ensures c.in-None.ensures, omega arith, omega arith)
