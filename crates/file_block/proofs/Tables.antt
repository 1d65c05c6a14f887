-- Laws of the table of one block: what is asked after it, and what a right block is.
use mathlib.Core.Path.{◌≡◌, refl, sym, ◌∙◌}
use mathlib.Core.List.{List, [], ◌∷◌}
use mathlib.Core.Logic.{◌↔◌}
use mathlib.Core.Bool.{Bool, true, false, not, ◌||◌}
use Prim.Native.Nat.{ℕ, suc, ◌+◌, ◌≤◌, ◌<◌}
use native.Mathlib.Omega.{arith}
use lib.ListN.{length, get_or}
use lib.Dec.{eqb, ltb}
use borrow.Author.Tests.{eq-eqb, ne_eqb, eqb-true, eqb-false, ltb-false, not-false}
use Rattle.std.specs.Prelude.{if◌then◌else◌}
use Rattle.common.proofs.Choice.{if_true, if_false}
use Rattle.common.specs.Numbers.{Row, row, given, Foremost, NoRow}
use Rattle.common.proofs.Numbers.{given_append, given_foremost, foremost_given, given_no_row, no_row_given}
use Rattle.file_check.specs.Check.{check_wrong, check_number}
use Rattle.file_check.proofs.Verdicts.{sound_check, check_sound}
use Rattle.file_block.specs.Block.{block_rows, used_of, letter_wrong, place_wrong, used_wrong, padding_wrong, unsound_rows, unsound_number}
use Rattle.file_block.proofs.Verdicts.{check_passed, after_check}

-- what is asked after a block counts only where the block is right
pub after_block : (first i n : ℕ) (b : List ℕ) (rest : List Row)
    → given (block_rows first i n b rest) ≡ (if eqb (given (block_rows first i n b [])) 0 then given rest else given (block_rows first i n b []))
after_block first i n b rest = given_append (block_rows first i n b []) rest refl

-- a block at which nothing is refused is right in each point, and so is what comes after it
pub record Right (first i n : ℕ) (b : List ℕ) : Type 0 where
  pub check : check_wrong b ≡ false
  pub letter : letter_wrong first b ≡ false
  pub place : place_wrong i n b ≡ false
  pub used : used_wrong i n b ≡ false
  pub padding : padding_wrong b ≡ false

-- neither of two tests held
pub none_of_two : (p q : Bool) → (p || q) ≡ false → (p ≡ false) × (q ≡ false)
none_of_two true q e = (e, absurd (let z : ◌≡◌ {A = ℕ} 0 1 = cc in omega arith))
none_of_two false q e = (refl, e)

-- a row that gives nothing does not hold, and neither does the rest
pub not_given : (t : Bool) (k x : ℕ) → (if t then suc k else x) ≡ 0 → (t ≡ false) × (x ≡ 0)
not_given true k x e = absurd (omega arith)
not_given false k x e = (refl, e)

pub right : (first i n : ℕ) (b : List ℕ) (rest : List Row) → given (block_rows first i n b rest) ≡ 0 → Right first i n b × (given rest ≡ 0)
right first i n b rest e = go (eqb (check_number b) 0) refl (sym (after_check first i n b rest) ∙ e)
  where
    R : List Row
    R = row 32 (letter_wrong first b) ∷ row 33 (place_wrong i n b) ∷ row 34 (used_wrong i n b || padding_wrong b) ∷ rest

    go : (t : Bool) → eqb (check_number b) 0 ≡ t → (if eqb (check_number b) 0 then given R else check_number b) ≡ 0 → Right first i n b × (given rest ≡ 0)
    go true q g =
        let k = check_passed b (eqb-true _ _ q) in
        let l = not_given (letter_wrong first b) 31 _ (sym (if_true (eqb (check_number b) 0) (given R) (check_number b) q) ∙ g) in
        let p = not_given (place_wrong i n b) 32 _ l.1 in
        let u = not_given (used_wrong i n b || padding_wrong b) 33 _ p.1 in
        let w = none_of_two (used_wrong i n b) (padding_wrong b) u.0 in
        (record { check = check_sound b k.0 k.1; letter = l.0; place = p.0; used = w.0; padding = w.1 }, u.1)
    go false q g = absurd (eqb-false (check_number b) 0 q (sym (if_false (eqb (check_number b) 0) (given R) (check_number b) q) ∙ g))

-- and the other way round
pub right_given : (first i n : ℕ) (b : List ℕ) (rest : List Row) → Right first i n b → given (block_rows first i n b rest) ≡ given rest
right_given first i n b rest r = let s = sound_check b r.check in simp (s.0, s.1, r.letter, r.place, r.used, r.padding)

-- the used count of a right block: 1 to 505 in the last, 505 in every other
pub used_last : (i n : ℕ) (b : List ℕ) → i + 1 ≡ n → used_wrong i n b ≡ false → (0 < used_of b) × (used_of b ≤ 505)
unfolding used_wrong
used_last i n b e w =
    let t = none_of_two (eqb (used_of b) 0) (ltb 505 (used_of b)) (sym (if_true (eqb (i + 1) n) _ _ (eq-eqb _ _ e)) ∙ w) in
    let z : used_of b ≡ 0 → ⊥ = eqb-false _ _ t.0 in
    (omega arith, ltb-false _ _ t.1)

pub used_other : (i n : ℕ) (b : List ℕ) → (i + 1 ≡ n → ⊥) → used_wrong i n b ≡ false → used_of b ≡ 505
unfolding used_wrong
used_other i n b e w = eqb-true _ _ (not-false _ (sym (if_false (eqb (i + 1) n) _ _ (ne_eqb _ _ e)) ∙ w))

-- the number of a slice by the rows that hold
pub fault_exactly : (first i n : ℕ) (b : List ℕ) (m : ℕ) → (m ≡ 0 → ⊥) → (unsound_number first i n b ≡ m) ↔ Foremost (unsound_rows first i n b) m
unfolding unsound_number
fault_exactly first i n b m z = (λ e. given_foremost (unsound_rows first i n b) m z e, λ h. foremost_given h)

pub sound_exactly : (first i n : ℕ) (b : List ℕ) → (unsound_number first i n b ≡ 0) ↔ NoRow (unsound_rows first i n b)
unfolding unsound_number
sound_exactly first i n b = (λ e. given_no_row (unsound_rows first i n b) refl e, λ h. no_row_given h)

-- of 512 bytes the block's table alone decides, at whatever place they are asked for
pub fault_given : (first i n : ℕ) (b : List ℕ) → length b ≡ 512 → unsound_number first i n b ≡ given (block_rows first i n b [])
unfolding unsound_number
fault_given first i n b l = simp (eq-eqb (length b) 512 l)

-- a block that stands at its place has a number that is a byte
pub place_byte : (i n : ℕ) (b : List ℕ) → get_or b 1 0 < 256 → place_wrong i n b ≡ false → i < 256
unfolding place_wrong
place_byte i n b h e =
    let w = none_of_two (not (eqb (get_or b 1 0) i)) (not (eqb (get_or b 2 0) n)) e in
    let q : get_or b 1 0 ≡ i = eqb-true (get_or b 1 0) i (not-false (eqb (get_or b 1 0) i) w.0) in
    omega arith
