-- One round of each loop, on plain lists and numbers.
use mathlib.Core.Path.{◌≡◌, refl, sym, ◌∙◌}
use mathlib.Core.Bool.{Bool, true, false}
use mathlib.Core.List.{List}
use Prim.Native.Nat.{ℕ, zero, suc, ◌+◌, ◌-◌, ◌/◌, ◌≤◌, ◌<◌}
use native.Mathlib.Omega.{arith}
use borrow.Author.Tests.{lt-ltb, le-ltb}
use lib.IntN.{ℤ}
use lib.Signed.{le_z}
use Rattle.std.specs.Prelude.{if◌then◌else◌}
use Rattle.reading_table.specs.Table.{volts_of, knots}
use Rattle.reading_table.specs.Search.{halving, seek_of}

-- seek
abbrev pub mid : ℕ → ℕ → ℕ
mid lo hi = lo + (hi - lo) / 2

-- a state of the loop, with at most k halvings to come
pub record Halved (p : List ℕ) (x : ℤ) (n lo hi : ℕ) : Type 0 where
  pub left : ℕ
  pub same : halving left p x lo hi ≡ seek_of p x
  pub enough : hi - lo ≤ suc left
  pub order : lo ≤ hi
  pub within : hi < n

pub halved_stop : (k : ℕ) (p : List ℕ) (x : ℤ) (lo hi : ℕ) → hi ≤ lo + 1 → halving k p x lo hi ≡ lo
unfolding halving
halved_stop zero p x lo hi h = refl
halved_stop (suc k) p x lo hi h = simp (le-ltb _ _ h)

pub round : (k : ℕ) (p : List ℕ) (x : ℤ) (lo hi : ℕ) (b : Bool) → lo + 1 < hi → le_z (volts_of p (mid lo hi)) x ≡ b → halving (suc k) p x lo hi ≡ halving k p x (if b then mid lo hi else lo) (if b then hi else mid lo hi)
unfolding halving
round k p x lo hi b h e = simp (lt-ltb _ _ h, e)

pub halved_start : (p : List ℕ) (x : ℤ) → 2 ≤ knots p → Halved p x (knots p) 0 (knots p - 1)
unfolding seek_of
halved_start p x h = record { left = knots p; same = refl; enough = omega arith; order = omega arith; within = omega (arith, h) }

pub halved_few : (p : List ℕ) (x : ℤ) → knots p < 2 → 0 ≡ seek_of p x
unfolding seek_of
halved_few p x h = sym (halved_stop (knots p) p x 0 (knots p - 1) (omega (arith, h)))

module _ {p : List ℕ} {x : ℤ} {n lo hi : ℕ} (s : Halved p x n lo hi) (h : lo + 1 < hi) where
  pub halved_round : (b : Bool) → le_z (volts_of p (mid lo hi)) x ≡ b → Halved p x n (if b then mid lo hi else lo) (if b then hi else mid lo hi)
  halved_round b e = go s.left s.same s.enough
    where
      go : (k : ℕ) → halving k p x lo hi ≡ seek_of p x → hi - lo ≤ suc k → Halved p x n (if b then mid lo hi else lo) (if b then hi else mid lo hi)
      go zero q r = let z : ◌≡◌ {A = ℕ} 0 1 = omega (arith, r, h) in absurd (clash z)
        where
          clash : ◌≡◌ {A = ℕ} 0 1 → ⊥
          clash z = omega (arith, z)
      go (suc k) q r = record { left = k; same = sym (round k p x lo hi b h e) ∙ q; enough = smaller b; order = ordered b; within = inside b }
        where
          w : hi < n
          w = s.within

          smaller : (b : Bool) → (if b then hi else mid lo hi) - (if b then mid lo hi else lo) ≤ suc k
          smaller true = omega (arith, r, h)
          smaller false = omega (arith, r, h)

          ordered : (b : Bool) → (if b then mid lo hi else lo) ≤ (if b then hi else mid lo hi)
          ordered true = omega (arith, h)
          ordered false = omega (arith, h)

          inside : (b : Bool) → (if b then hi else mid lo hi) < n
          inside true = w
          inside false = omega (arith, h, w)

pub halved_end : {p : List ℕ} {x : ℤ} {n lo hi : ℕ} → Halved p x n lo hi → hi ≤ lo + 1 → lo ≡ seek_of p x
halved_end {p} {x} {n} {lo} {hi} s h = sym (halved_stop s.left p x lo hi h) ∙ s.same
