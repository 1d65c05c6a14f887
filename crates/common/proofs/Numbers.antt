-- Laws of a table of refusals: the number given is that of the first row that holds.
use mathlib.Core.Path.{◌≡◌, refl, sym, ◌∙◌, subst}
use mathlib.Core.Bool.{Bool, true, false}
use mathlib.Core.List.{List, [], ◌∷◌, ◌++◌}
use Prim.Native.Nat.{ℕ}
use native.Mathlib.Omega.{arith}
use lib.Dec.{eqb}
use borrow.Author.Tests.{eqb-false}
use Rattle.std.specs.Prelude.{if◌then◌else◌}
use Rattle.common.specs.Numbers.{Row, given, Foremost, here, below, NoRow, end, past, numbered}
use Rattle.common.proofs.Choice.{if_true, if_false}

-- a number given is that of the first row that holds ..
pub foremost_given : {rs : List Row} {n : ℕ} → Foremost rs n → given rs ≡ n
foremost_given (here {r = r} {rs = rs} h) = if_true r.holds r.number (given rs) h
foremost_given (below {r = r} {rs = rs} h f) = if_false r.holds r.number (given rs) h ∙ foremost_given f

pub no_row_given : {rs : List Row} → NoRow rs → given rs ≡ 0
no_row_given end = refl
no_row_given (past {r = r} {rs = rs} h f) = if_false r.holds r.number (given rs) h ∙ no_row_given f

-- .. and the other way round: 0 exactly where no row holds, any other number exactly where its row is the first
pub given_foremost : (rs : List Row) (n : ℕ) → (n ≡ 0 → ⊥) → given rs ≡ n → Foremost rs n
given_foremost [] n z e = absurd (z (sym e))
given_foremost (r ∷ rs) n z e = go r.holds refl (given_foremost rs n z)
  where
    go : (b : Bool) → r.holds ≡ b → (given rs ≡ n → Foremost rs n) → Foremost (r ∷ rs) n
    go true h rest = subst (λ (m : ℕ). Foremost (r ∷ rs) m) (sym (if_true r.holds r.number (given rs) h) ∙ e) (here h)
    go false h rest = below h (rest (sym (if_false r.holds r.number (given rs) h) ∙ e))

pub given_no_row : (rs : List Row) → numbered rs ≡ true → given rs ≡ 0 → NoRow rs
given_no_row [] m e = end
given_no_row (r ∷ rs) m e = go r.holds refl (eqb r.number 0) refl (given_no_row rs)
  where
    go : (b : Bool) → r.holds ≡ b → (t : Bool) → eqb r.number 0 ≡ t → (numbered rs ≡ true → given rs ≡ 0 → NoRow rs) → NoRow (r ∷ rs)
    go b h true q rest = let z : ◌≡◌ {A = Bool} false true = sym (if_true (eqb r.number 0) false (numbered rs) q) ∙ m in absurd (let w : ◌≡◌ {A = ℕ} 0 1 = cc in omega arith)
    go true h false q rest = absurd (eqb-false _ _ q (sym (if_true r.holds r.number (given rs) h) ∙ e))
    go false h false q rest =
        past h (rest (sym (if_false (eqb r.number 0) false (numbered rs) q) ∙ m) (sym (if_false r.holds r.number (given rs) h) ∙ e))

-- two tables one below the other: the lower is asked only where the upper gives nothing
pub given_append : (rs ss : List Row) → numbered rs ≡ true → given (rs ++ ss) ≡ (if eqb (given rs) 0 then given ss else given rs)
given_append [] ss m = refl
given_append (r ∷ rs) ss m = go r.holds (eqb r.number 0) refl refl (given_append rs ss)
  where
    go : (b t : Bool) → r.holds ≡ b → eqb r.number 0 ≡ t → (numbered rs ≡ true → given (rs ++ ss) ≡ (if eqb (given rs) 0 then given ss else given rs))
        → given (r ∷ (rs ++ ss)) ≡ (if eqb (given (r ∷ rs)) 0 then given ss else given (r ∷ rs))
    go b true h q rest = let z : ◌≡◌ {A = Bool} false true = sym (if_true (eqb r.number 0) false (numbered rs) q) ∙ m in absurd (let w : ◌≡◌ {A = ℕ} 0 1 = cc in omega arith)
    go true false h q rest = simp (h, q)
    go false false h q rest = simp (h, rest (sym (if_false (eqb r.number 0) false (numbered rs) q) ∙ m))

-- the rows of a table that gives nothing, one after the other
pub no_head : {r : Row} {rs : List Row} → NoRow (r ∷ rs) → r.holds ≡ false
no_head (past h t) = h

pub no_tail : {r : Row} {rs : List Row} → NoRow (r ∷ rs) → NoRow rs
no_tail (past h t) = t
