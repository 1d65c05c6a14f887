-- The two numbers of the check itself, each exactly where it applies, and the blocks of a written file.
use mathlib.Core.Path.{◌≡◌, refl, sym, ◌∙◌, ap}
use mathlib.Core.List.{List}
use mathlib.Core.Bool.{Bool, true, false}
use mathlib.Core.Logic.{◌↔◌}
use Prim.Native.Nat.{ℕ, ◌*◌}
use native.Mathlib.Omega.{arith}
use lib.ListN.{length, take}
use lib.Dec.{eqb}
use borrow.Author.Tests.{eqb-true, eqb-false}
use Rattle.file_check.specs.Check.{check_of, stored_of, is_blank, check_number}
use Rattle.file_check.proofs.Verdicts.{check_right, check_blank, check_not_right}
use Rattle.file_codec.specs.File.{made, count_of, writer_of}
use Rattle.file_codec.proofs.Sizes.{blocks_length}
use Rattle.file_codec.proofs.Outcomes.{writer_lets}

-- a block is blank; or it is not, and its check is right or wrong
data Verdict (b : List ℕ) : Type 0 where
  blank : is_blank b ≡ true → check_number b ≡ 38 → Verdict b
  right : is_blank b ≡ false → check_of (take 510 b) ≡ stored_of b → check_number b ≡ 0 → Verdict b
  wrong : is_blank b ≡ false → (check_of (take 510 b) ≡ stored_of b → ⊥) → check_number b ≡ 31 → Verdict b

verdict : (b : List ℕ) → Verdict b
verdict b = go (is_blank b) refl (eqb (check_of (take 510 b)) (stored_of b)) refl
  where
    go : (t : Bool) → is_blank b ≡ t → (u : Bool) → eqb (check_of (take 510 b)) (stored_of b) ≡ u → Verdict b
    go true q u r = blank q (check_blank b q)
    go false q true r = right q (eqb-true _ _ r) (check_right b (eqb-true _ _ r))
    go false q false r = wrong q (eqb-false _ _ r) (check_not_right b (eqb-false _ _ r) q)

module _ (b : List ℕ) where
  pub fault_38 : check_number b ≡ 38 ↔ (is_blank b ≡ true)
  fault_38 = (forth (verdict b), check_blank b)
    where
      forth : Verdict b → check_number b ≡ 38 → is_blank b ≡ true
      forth (blank q f) e = q
      forth (right q r f) e = absurd (let z : ◌≡◌ {A = ℕ} 0 38 = sym f ∙ e in omega arith)
      forth (wrong q r f) e = absurd (let z : ◌≡◌ {A = ℕ} 31 38 = sym f ∙ e in omega arith)

  pub fault_31 : check_number b ≡ 31 ↔ ((check_of (take 510 b) ≡ stored_of b → ⊥) × (is_blank b ≡ false))
  fault_31 = (forth (verdict b), λ (h : (check_of (take 510 b) ≡ stored_of b → ⊥) × (is_blank b ≡ false)). check_not_right b h.0 h.1)
    where
      forth : Verdict b → check_number b ≡ 31 → (check_of (take 510 b) ≡ stored_of b → ⊥) × (is_blank b ≡ false)
      forth (blank q f) e = absurd (let z : ◌≡◌ {A = ℕ} 38 31 = sym f ∙ e in omega arith)
      forth (right q r f) e = absurd (let z : ◌≡◌ {A = ℕ} 0 31 = sym f ∙ e in omega arith)
      forth (wrong q r f) e = (r, q)

-- a written file has 512 bytes for every 505 of the payload that are begun
pub written_length : (most ℓ : ℕ) (p f : List ℕ) → writer_of most ℓ p ≡ made f → length f ≡ 512 * count_of (length p)
written_length most ℓ p f w = ap length (sym (writer_lets most ℓ p f w).2) ∙ blocks_length (count_of (length p)) ℓ 0 (count_of (length p)) p
