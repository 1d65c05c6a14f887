-- An answer by a table of refusals: refused by the first row that holds, read where none does.
use mathlib.Core.Path.{◌≡◌, refl, sym, ap, ◌∙◌}
use mathlib.Core.Bool.{Bool, true, false}
use mathlib.Core.Logic.{◌↔◌}
use mathlib.Core.List.{List}
use Prim.Native.Nat.{ℕ}
use native.Mathlib.Omega.{arith}
use lib.Dec.{eqb}
use borrow.Author.Tests.{eq-eqb, ne_eqb, eqb-true}
use Rattle.common.proofs.Choice.{if_true, if_false}
use Rattle.common.specs.Numbers.{Row, given, Foremost, NoRow, numbered}
use Rattle.common.proofs.Numbers.{given_foremost, foremost_given, given_no_row, no_row_given}
use Rattle.reading.specs.declared.Reading.{Reading}
use Rattle.reading.specs.declared.ReadingAnswer.TheVariants.{Read, Refused}
use Rattle.reading.specs.Readings.{answer_by}

-- by a number
pub by_refused : (n m : ℕ) (r : Reading) → answer_by n r ≡ Refused m → n ≡ m
by_refused n m r e = go (eqb n 0) refl
  where
    go : (t : Bool) → eqb n 0 ≡ t → n ≡ m
    go true q = absurd (let w : Read r ≡ Refused m = sym (if_true (eqb n 0) (Read r) (Refused n) q) ∙ e in let z : ◌≡◌ {A = ℕ} 0 1 = cc in omega arith)
    go false q = let w : Refused n ≡ Refused m = sym (if_false (eqb n 0) (Read r) (Refused n) q) ∙ e in cc

pub by_read : (n : ℕ) (r s : Reading) → answer_by n r ≡ Read s → (n ≡ 0) × (s ≡ r)
by_read n r s e = go (eqb n 0) refl
  where
    go : (t : Bool) → eqb n 0 ≡ t → (n ≡ 0) × (s ≡ r)
    go true q = (eqb-true n 0 q, let w : Read r ≡ Read s = sym (if_true (eqb n 0) (Read r) (Refused n) q) ∙ e in cc)
    go false q = absurd (let w : Refused n ≡ Read s = sym (if_false (eqb n 0) (Read r) (Refused n) q) ∙ e in let z : ◌≡◌ {A = ℕ} 0 1 = cc in omega arith)

pub refuses_by : (n : ℕ) (r : Reading) → (n ≡ 0 → ⊥) → answer_by n r ≡ Refused n
refuses_by n r z = if_false (eqb n 0) (Read r) (Refused n) (ne_eqb n 0 z)

pub reads_by : (n : ℕ) (r : Reading) → n ≡ 0 → answer_by n r ≡ Read r
reads_by n r z = if_true (eqb n 0) (Read r) (Refused n) (eq-eqb n 0 z)

-- by rows
module _ (rs : List Row) (r : Reading) where
  pub refused_by_rows : (n : ℕ) → (n ≡ 0 → ⊥) → answer_by (given rs) r ≡ Refused n ↔ Foremost rs n
  refused_by_rows n z = (
    λ (e : answer_by (given rs) r ≡ Refused n). given_foremost rs n z (by_refused (given rs) n r e),
    λ (h : Foremost rs n). ap (λ (m : ℕ). answer_by m r) (foremost_given h) ∙ refuses_by n r z,
  )

  pub read_by_rows : numbered rs ≡ true → (s : Reading) → answer_by (given rs) r ≡ Read s ↔ (NoRow rs × (s ≡ r))
  read_by_rows m s = (
    λ (e : answer_by (given rs) r ≡ Read s). let b = by_read (given rs) r s e in (given_no_row rs m b.0, b.1),
    λ (h : NoRow rs × (s ≡ r)). reads_by (given rs) r (no_row_given h.0) ∙ ap Read (sym h.1),
  )
