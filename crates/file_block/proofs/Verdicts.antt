-- What the tests of one block say, as laws that its function cites.
use mathlib.Core.Path.{◌≡◌, refl, sym, ◌∙◌, ap}
use mathlib.Core.List.{List, [], ◌∷◌}
use mathlib.Core.Bool.{Bool, true, false, not, ◌||◌}
use Prim.Native.Nat.{ℕ, ◌+◌, ◌-◌, ◌<◌}
use native.Mathlib.Omega.{arith}
use lib.ListN.{take, drop}
use lib.Dec.{eqb}
use borrow.Author.Tests.{ne_eqb}
use Rattle.std.specs.Prelude.{if◌then◌else◌}
use Rattle.common.proofs.Choice.{if_true, if_false}
use Rattle.common.specs.Numbers.{Row, row, given}
use Rattle.file_check.specs.Check.{all_are, is_blank, is_damaged, check_number}
use Rattle.file_check.specs.Refusal.{number_of}
use Rattle.file_check.specs.declared.refusal.FileRefusal.{FileRefusal}
use Rattle.file_check.proofs.Refusals.{number_range}
use Rattle.file_block.specs.Block.{used_of, letter_wrong, place_wrong, used_wrong, padding_wrong, block_rows}

-- no padding is left where more than 505 bytes are said to be used
pub no_padding : (b : List ℕ) → 505 < used_of b → padding_wrong b ≡ false
unfolding padding_wrong
no_padding b h =
    let e : 510 - (5 + used_of b) ≡ 0 = omega arith in
    ap (λ (k : ℕ). not (all_are 255 (take k (drop (5 + used_of b) b)))) e

pub padding_is : (b : List ℕ) (u : ℕ) → u ≡ used_of b → not (all_are 255 (take (510 - (5 + u)) (drop (5 + u) b))) ≡ padding_wrong b
unfolding padding_wrong
padding_is b u e = ap (λ (k : ℕ). not (all_are 255 (take (510 - (5 + k)) (drop (5 + k) b)))) e

-- without a refusal by the check the block is neither blank nor damaged
pub check_passed : (b : List ℕ) → check_number b ≡ 0 → (is_blank b ≡ false) × (is_damaged b ≡ false)
unfolding check_number
check_passed b f = go (is_blank b) refl (is_damaged b) refl
  where
    go : (t : Bool) → is_blank b ≡ t → (u : Bool) → is_damaged b ≡ u → (is_blank b ≡ false) × (is_damaged b ≡ false)
    go true q u d = absurd (let w : ◌≡◌ {A = ℕ} 38 0 = sym (if_true (is_blank b) 38 _ q) ∙ f in omega arith)
    go false q true d = absurd (let w : ◌≡◌ {A = ℕ} 31 0 = sym (if_true (is_damaged b) 31 0 d) ∙ sym (if_false (is_blank b) 38 _ q) ∙ f in omega arith)
    go false q false d = (q, d)

-- the check comes first: its verdict is the block's, and where it has none the other rows decide
pub after_check : (first i n : ℕ) (b : List ℕ) (after : List Row)
    → given (block_rows first i n b after)
    ≡ (if eqb (check_number b) 0
    then given (row 32 (letter_wrong first b) ∷ row 33 (place_wrong i n b) ∷ row 34 (used_wrong i n b || padding_wrong b) ∷ after)
    else check_number b)
unfolding check_number
after_check first i n b after = go (is_blank b) refl (is_damaged b) refl
  where
    go : (t : Bool) → is_blank b ≡ t → (u : Bool) → is_damaged b ≡ u
        → given (block_rows first i n b after)
        ≡ (if eqb (check_number b) 0
        then given (row 32 (letter_wrong first b) ∷ row 33 (place_wrong i n b) ∷ row 34 (used_wrong i n b || padding_wrong b) ∷ after)
        else check_number b)
    go true q u d = simp q
    go false q true d = simp (q, d)
    go false q false d = simp (q, d)

pub check_first : (first i n : ℕ) (b : List ℕ) (r : FileRefusal) → number_of r ≡ check_number b → number_of r ≡ given (block_rows first i n b [])
check_first first i n b r e =
    let z : check_number b ≡ 0 → ⊥ = (λ (q : check_number b ≡ 0). let l = number_range r in omega arith) in
    e ∙ sym (if_false (eqb (check_number b) 0) _ (check_number b) (ne_eqb _ _ z)) ∙ sym (after_check first i n b [])
