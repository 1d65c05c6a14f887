-- Laws of numbers read off text, and of where a row ends.
use Rattle.std.proofs.Common.{◌≡◌, refl, sym, ◌∙◌, ap, Bool, true, false, List, [], ◌∷◌, ℕ, ◌+◌, ◌*◌, ◌-◌, ◌%◌, ◌<◌, min, arith, rules, eqb, ltb, length, get_or, take, drop, length-drop, fold, Some, None, position}
use native.Mathlib.Nat.{mod-add-mod}
use borrow.Author.Tests.{ltb-false}
use Rattle.std.specs.List.{position_or_len}
use Rattle.std.proofs.lemmas.List.Quantifiers.{position-Some}
use Rattle.std.proofs.lemmas.List.{take_min, drop_min}
use Rattle.std.proofs.lemmas.List.Sums.{position_or_len_is}
use Rattle.vectors_text.specs.Text.{digit_read, number_read, field_of, row_of}

-- a place and a count cut down to what there is give the same field
field_cut : (xs : List ℕ) (at n : ℕ) → take (min n (length xs - min at (length xs))) (drop (min at (length xs)) xs) ≡ field_of xs at n
field_cut xs at n =
    ap (λ (k : ℕ). take (min n k) (drop (min at (length xs)) xs)) (sym (length-drop (min at (length xs)) xs))
    ∙ take_min n (drop (min at (length xs)) xs)
    ∙ ap (take n) (drop_min at xs)

-- the same for a part of a slice as the code cuts it
pub field_part : (xs : List ℕ) (at n from count : ℕ) → from ≡ min at (length xs) → count ≡ min n (length xs - from) → take ((from + count) - from) (drop from xs) ≡ field_of xs at n
field_part xs at n from count p q =
    let e : (from + count) - from ≡ count = omega arith in
    ap (λ (k : ℕ). take k (drop from xs)) (e ∙ q ∙ ap (λ (f : ℕ). min n (length xs - f)) p)
    ∙ ap (λ (f : ℕ). take (min n (length xs - min at (length xs))) (drop f xs)) p
    ∙ field_cut xs at n

-- wrapped step by step, or one remainder for each digit: the same number
pub spelled_by_steps : (base : ℕ) (xs : List ℕ) → fold (λ v x. ((base * v) % 4294967296 + digit_read x) % 4294967296) 0 xs ≡ number_read base xs
unfolding number_read
spelled_by_steps base xs = ap (λ (f : ℕ → ℕ → ℕ). fold f 0 xs) (λ i v x. mod-add-mod (base * v) 4294967296 (digit_read x) i)

-- the first row goes on to its newline, or to the end
row_length : (xs : List ℕ) → row_of xs ≡ min (position_or_len (λ b. eqb b 10) xs + 1) (length xs)
row_length [] = refl
row_length (x ∷ xs) = go (row_length xs) (eqb x 10) refl
  where
    go : row_of xs ≡ min (position_or_len (λ c. eqb c 10) xs + 1) (length xs) → (b : Bool) → eqb x 10 ≡ b → row_of (x ∷ xs) ≡ min (position_or_len (λ c. eqb c 10) (x ∷ xs) + 1) (length (x ∷ xs))
    go rest true e = rw e (omega arith)
    go rest false e = rw e (omega arith)

-- a newline at k ends the row
pub row_found : (xs : List ℕ) (k : ℕ) → Some k ≡ position (λ b. eqb b 10) xs → (k < length xs) × (row_of xs ≡ k + 1)
row_found xs k e = go (position-Some (λ b. eqb b 10) xs k 0 (sym e))
  where
    go : (k < length xs) × (eqb (get_or xs k 0) 10 ≡ true) × ((j : ℕ) → j < k → eqb (get_or xs j 0) 10 ≡ false) → (k < length xs) × (row_of xs ≡ k + 1)
    go p =
        let h = p.0 in
        let at = position_or_len_is (λ b. eqb b 10) xs k 0 (omega arith) p.2 (λ _. p.1) in
        (h, row_length xs ∙ (rw at (omega arith)))

-- without one it goes on to the end
pub row_missing : (xs : List ℕ) → None ≡ position (λ b. eqb b 10) xs → row_of xs ≡ length xs
row_missing xs e = go (ltb (position_or_len (λ b. eqb b 10) xs) (length xs)) refl
  where
    go : (b : Bool) → ltb (position_or_len (λ c. eqb c 10) xs) (length xs) ≡ b → row_of xs ≡ length xs
    go true t = absurd (search rules)
    go false t = let h = ltb-false _ _ t in omega (arith, row_length xs)
