-- What the check says of a block, and what a blank block is, as laws that functions cite.
use mathlib.Core.Path.{◌≡◌, refl, sym, ◌∙◌, ap}
use mathlib.Core.List.{List, [], ◌∷◌}
use mathlib.Core.Bool.{Bool, true, false, not}
use Prim.Native.Nat.{ℕ, zero, suc, ◌-◌, ◌≤◌, ◌<◌}
use native.Mathlib.Omega.{arith}
use lib.ListN.{length, get_or, take, drop}
use lib.Seq.{take_all}
use lib.Dec.{eqb}
use borrow.Author.Tests.{eq-eqb, ne_eqb, eqb-true}
use Rattle.common.proofs.Choice.{if_true, if_false, unlike}
use Rattle.file_check.specs.Check.{check_of, check_wrong, stored_of, all_are, is_blank, is_damaged, check_number}

-- every byte of a list that is b throughout
pub all_at : (b : ℕ) (xs : List ℕ) → all_are b xs ≡ true → (i : ℕ) → i < length xs → get_or xs i 0 ≡ b
all_at b [] e i h = absurd (omega arith)
all_at b (x ∷ xs) e i h = go (eqb x b) refl i h (all_at b xs)
  where
    go : (t : Bool) → eqb x b ≡ t → (j : ℕ) → j < length (x ∷ xs) → (all_are b xs ≡ true → (k : ℕ) → k < length xs → get_or xs k 0 ≡ b) → get_or (x ∷ xs) j 0 ≡ b
    go true q zero l rest = eqb-true x b q
    go true q (suc j) l rest = rest (sym (if_true (eqb x b) (all_are b xs) false q) ∙ e) j (omega arith)
    go false q j l rest = absurd (unlike (sym e ∙ if_false (eqb x b) (all_are b xs) false q))

-- a blank block has 512 bytes, and each is FFH
pub blank_parts : (b : List ℕ) → is_blank b ≡ true → (length b ≡ 512) × (all_are 255 b ≡ true)
unfolding is_blank
blank_parts b e = go (eqb (length b) 512) refl
  where
    go : (t : Bool) → eqb (length b) 512 ≡ t → (length b ≡ 512) × (all_are 255 b ≡ true)
    go true q = (eqb-true _ _ q, sym (if_true (eqb (length b) 512) (all_are 255 b) false q) ∙ e)
    go false q = absurd (unlike (sym e ∙ if_false (eqb (length b) 512) (all_are 255 b) false q))

pub blank_at : (b : List ℕ) → is_blank b ≡ true → (i : ℕ) → i < 512 → get_or b i 0 ≡ 255
blank_at b e i h = let p = blank_parts b e in all_at 255 b p.1 i (omega (arith, p.0))

-- a block with another byte is not blank
pub other_byte : (b : List ℕ) (i : ℕ) → i < 512 → (get_or b i 0 ≡ 255 → ⊥) → is_blank b ≡ false
other_byte b i h z = go (is_blank b) refl
  where
    go : (t : Bool) → is_blank b ≡ t → is_blank b ≡ false
    go true q = absurd (z (blank_at b q i h))
    go false q = q

-- a check of 65,521 or more that a block carries is never right
pub never_right : (b : List ℕ) → 65521 ≤ stored_of b → check_wrong b ≡ true
unfolding check_wrong check_of
never_right b h = ap not (ne_eqb (check_of (take 510 b)) (stored_of b) (λ (e : check_of (take 510 b) ≡ stored_of b). (omega arith)))

-- so a blank block's check is wrong: it carries 65,535
pub blank_wrong : (b : List ℕ) → is_blank b ≡ true → check_wrong b ≡ true
blank_wrong b e =
    let h : get_or b 510 0 ≡ 255 = blank_at b e 510 (omega arith) in
    let l : get_or b 511 0 ≡ 255 = blank_at b e 511 (omega arith) in
    never_right b (omega arith)

-- a block with the right check is neither blank nor damaged, and the other way round
pub sound_check : (b : List ℕ) → check_wrong b ≡ false → (is_blank b ≡ false) × (is_damaged b ≡ false)
unfolding is_damaged
sound_check b e = go (is_blank b) refl
  where
    go : (t : Bool) → is_blank b ≡ t → (is_blank b ≡ false) × (is_damaged b ≡ false)
    go true q = absurd (unlike (sym (blank_wrong b q) ∙ e))
    go false q = (q, if_false (is_blank b) false (check_wrong b) q ∙ e)

pub check_sound : (b : List ℕ) → is_blank b ≡ false → is_damaged b ≡ false → check_wrong b ≡ false
unfolding is_damaged
check_sound b q d = sym (if_false (is_blank b) false (check_wrong b) q) ∙ d

-- where the check is wrong and the block not blank, it is damaged
pub not_blank : (b : List ℕ) → is_blank b ≡ false → check_wrong b ≡ true → is_damaged b ≡ true
unfolding is_damaged
not_blank b q w = if_false (is_blank b) false (check_wrong b) q ∙ w

-- the verdict: by whether what is carried is what is right, and whether the block is blank
pub check_right : (b : List ℕ) → check_of (take 510 b) ≡ stored_of b → check_number b ≡ 0
unfolding check_wrong check_number
check_right b e = let s = sound_check b (ap not (eq-eqb _ _ e)) in simp (s.0, s.1)

pub check_blank : (b : List ℕ) → is_blank b ≡ true → check_number b ≡ 38
unfolding check_number
check_blank b e = simp e

pub check_not_right : (b : List ℕ) → (check_of (take 510 b) ≡ stored_of b → ⊥) → is_blank b ≡ false → check_number b ≡ 31
unfolding check_wrong check_number
check_not_right b e q = simp (q, not_blank b q (ap not (ne_eqb _ _ e)))

-- whether a slice is blank, by its length and its bytes
pub blank_short : (b : List ℕ) → (length b ≡ 512 → ⊥) → false ≡ is_blank b
unfolding is_blank
blank_short b z = simp (ne_eqb _ _ z)

pub blank_whole : (b : List ℕ) → length b ≡ 512 → all_are 255 (take (512 - 0) (drop 0 b)) ≡ is_blank b
unfolding is_blank
blank_whole b l = simp (eq-eqb _ _ l) (ap (all_are 255) (take_all 512 b (omega arith)))
