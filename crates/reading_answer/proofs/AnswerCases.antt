-- A call's answer, way by way.
use mathlib.Core.Path.{◌≡◌, sym, ap, ◌∙◌}
use mathlib.Core.Bool.{true, false}
use mathlib.Core.List.{List, ◌++◌}
use Prim.Native.Nat.{ℕ}
use lib.ListN.{get_or}
use lib.Ieee.{Float}
use Rattle.text.specs.Writing.{laid_at, behind}
use Rattle.text.proofs.Laying.{laid_first, laid_more}
use Rattle.reading.specs.declared.Reading.{Reading}
use Rattle.reading.specs.declared.Reading.TheVariants.{Temperature}
use Rattle.common.proofs.Choice.{if_true, if_false}
use Rattle.std.specs.Prelude.{ℤ, Option}
use Rattle.reading_text.specs.Numbers.{number_told}
use Rattle.reading_answer.specs.Lines.{call_wrong, misused, read_by, answered, degrees, reading_line}

module _ (count : ℕ) (file letter volts room : List ℕ) where
  pub answered_wrong : call_wrong count letter ≡ true → misused room ≡ answered count file letter volts room
  unfolding answered
  answered_wrong e = sym (if_true (call_wrong count letter) (misused room) (read_by (number_told volts) file (get_or letter 0 0) room) e)

  pub answered_right : (n : Option ℤ) → call_wrong count letter ≡ false → number_told volts ≡ n → read_by n file (get_or letter 0 0) room ≡ answered count file letter volts room
  unfolding answered
  answered_right n e f =
      sym (if_false (call_wrong count letter) (misused room) (read_by (number_told volts) file (get_or letter 0 0) room) e ∙ ap (λ (z : Option ℤ). read_by z file (get_or letter 0 0) room) f)

-- a reading laid: a temperature alone, and one behind words
pub alone_laid : (out o : List ℕ) (n : ℕ) (r : Reading) (t : Float) → r ≡ Temperature t → n ≡ behind out 0 (degrees t) → o ≡ laid_at out 0 (degrees t)
    → (n ≡ behind out 0 (reading_line r)) × (o ≡ laid_at out 0 (reading_line r))
alone_laid out o n r t e p q = let s = sym (ap reading_line e) in (p ∙ ap (λ (z : List ℕ). behind out 0 z) s, q ∙ ap (λ (z : List ℕ). laid_at out 0 z) s)

pub behind_laid : (out o₁ o₂ words : List ℕ) (n₁ n₂ : ℕ) (r : Reading) (t : Float) → reading_line r ≡ words ++ degrees t → n₁ ≡ behind out 0 words → o₁ ≡ laid_at out 0 words → n₂ ≡ behind o₁ n₁ (degrees t)
    → o₂ ≡ laid_at o₁ n₁ (degrees t) → (n₂ ≡ behind out 0 (reading_line r)) × (o₂ ≡ laid_at out 0 (reading_line r))
behind_laid out o₁ o₂ words n₁ n₂ r t e p q u v =
    let f = laid_more out words (degrees t) o₁ o₂ 0 n₁ n₂ (laid_first out words o₁ 0 n₁ p q) u v in
    (f.place ∙ ap (λ (z : List ℕ). behind out 0 z) (sym e), f.bytes ∙ ap (λ (z : List ℕ). laid_at out 0 z) (sym e))
