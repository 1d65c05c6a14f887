-- One cycle off the last leaves none, off any other some.
use mathlib.Core.Path.{◌≡◌}
use mathlib.Core.Bool.{true, false}
use Prim.Native.Nat.{ℕ, ◌-◌, ◌≤◌, ◌<◌}
use native.Mathlib.Omega.{arith}
use lib.Dec.{eqb}
use borrow.Author.Tests.{eq-eqb, ne_eqb}

pub last_one : (n : ℕ) → n ≤ 1 → eqb (n - 1) 0 ≡ true
last_one n h = eq-eqb (n - 1) 0 (omega arith)

pub one_more : (n : ℕ) → 1 < n → eqb (n - 1) 0 ≡ false
one_more n h = ne_eqb (n - 1) 0 (λ z. omega arith)
